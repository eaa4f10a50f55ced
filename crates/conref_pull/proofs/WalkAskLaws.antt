-- What the walk asks about, from one call to the next: the page stays the same, and what the reader was made for.
use Rattle.std.specs.Borrow.{Bor}
use Rattle.std.specs.Prelude.{◌≡◌, ◌<◌, ℕ, List, [], ◌∷◌, Some, Result, Ok, Err, OnOk, get_or, length, slice_get}
use Rattle.std.proofs.Common.{ap, subst, sym, ◌∙◌}
use Rattle.dita_doc.specs.Siblings.{doc_of_siblings}
use Rattle.dita_doc.specs.declared.doc.Doc.{Doc}
use Rattle.dita_doc.specs.declared.doc.Node.{Node}
use Rattle.dita_doc.specs.declared.fault.Fault.{Fault}
use Rattle.dita_doc.specs.declared.plan.Context.{Context}
use Rattle.dita_doc.specs.declared.plan.PlanNode.{PlanNode}
use Rattle.dita_doc.specs.declared.siblings.Siblings.{Siblings}
use Rattle.dita_doc.specs.declared.stop.Stop.{Stop}
use Rattle.doc_elements.specs.Walk.{element_of}
use Rattle.doc_maker.specs.declared.maker.DocMaker.{DocMaker}
use Rattle.readers.specs.Documents.{IsGiven}
use Rattle.readers.specs.Founded.{AreAmong, Grows}
use Rattle.readers.specs.Named.{named_tree, reused_by, reused_in}
use Rattle.readers.specs.Setting.{Stand}
use Rattle.readers.specs.Told.{Told}
pub use Rattle.readers.proofs.GivenLaws.{given_later}
pub use Rattle.readers.proofs.GrowthLaws.{agrees_before, grows_same, grows_trans}
use Rattle.conref_targets.specs.Asking.{AreGiven, Asks, reused_of_doc, reused_of_node, reused_of_whole}
use Rattle.conref_targets.specs.Origin.{named_content}
use Rattle.conref_targets.specs.declared.origin.Whole.{Whole}
use Rattle.conref_targets.proofs.AskingLaws.{about_call, about_next, about_part, given_reused, whole_inside}
pub use Rattle.conref_targets.proofs.AskingLaws.{about_same, among_same, given_some, none_among}
pub use Rattle.conref_targets.proofs.OriginLaws.{among_then, inside_among, node_reused, origin_there}
use Rattle.conref_targets.proofs.OriginLaws.{origin_among}
use Rattle.conref_pull.specs.Linked.{AreGivenTo, IsGivenTo}
use Rattle.conref_pull.specs.Count.{OneMore}
use Rattle.conref_pull.specs.State.{IsSamePage}
use Rattle.conref_pull.specs.declared.chain.TakenTarget.{TakenTarget}
use Rattle.conref_pull.specs.declared.resolver.Resolver.{Resolver}
use Rattle.conref_pull.specs.declared.resolver.TooMany.{TooMany}
pub use Rattle.conref_pull.proofs.AroundLaws.{page_judged, page_one}
use Rattle.conref_pull.proofs.LinkAskLaws.{link_given}
pub use Rattle.conref_pull.proofs.LinkAskLaws.{links_later}
use Rattle.conref_pull.proofs.LinkLaws.{given_links}
pub use Rattle.conref_pull.proofs.StateLaws.{page_faults, page_same, page_then}

-- the page is the same behind a call, as it was before it
pub page_on : {a b : Resolver} (result : Result (Unit {0}) (Stop TooMany)) (c : Resolver) → IsSamePage a b
    → OnOk result (IsSamePage b c) → OnOk result (IsSamePage a c)
page_on {a} {b} (Ok done) c before call = page_then a b c before call
page_on (Err stop) c before call = tt

-- behind an element that was opened, filled and closed
pub page_around : {a b d : Resolver} (opener closer : DocMaker) → IsSamePage a b
    → IsSamePage (record b { maker = opener }) d → IsSamePage a (record d { maker = closer })
page_around opener closer before within = record {
  context = within.context ∙ before.context;
  rules = within.rules ∙ before.rules;
  deepest = within.deepest ∙ before.deepest;
}

-- what a call does that asks about the page and about these documents, wherever the nodes of the map are these
abbrev pub AsksOf : Stand → Resolver → List (List ℕ) → List Told → List Told → Type 0
AsksOf stand a names old new = (nodes : List PlanNode) → stand.setting.nodes ≡ nodes
    → Asks nodes (a.context.now.page.doc ∷ names) old new

doc_same : (a b : Resolver) → IsSamePage a b → b.context.now.page.doc ≡ a.context.now.page.doc
doc_same a b same = ap (λ (context : Bor Context). context.now.page.doc) same.context

-- a call about some of the same documents
pub asks_part : {names more : List (List ℕ)} {old new : List Told} {a b : Resolver} (stand : Stand) → IsSamePage a b
    → AreAmong more names → AsksOf stand b more old new → AsksOf stand a names old new
asks_part {names} {more} {old} {new} {a} {b} stand same among call = λ nodes is.
    about_part nodes a.context.now.page.doc b.context.now.page.doc names more old new (doc_same a b same) among
    (call nodes is)

-- a call about what answers name that were told before it
pub asks_call : {names more : List (List ℕ)} {old new : List Told} {a b : Resolver} (stand : Stand) → IsSamePage a b
    → AreGiven old more → AsksOf stand b more old new → AsksOf stand a names old new
asks_call {names} {more} {old} {new} {a} {b} stand same given call = λ nodes is.
    about_call nodes a.context.now.page.doc b.context.now.page.doc names more old new (doc_same a b same) given
    (call nodes is)

-- one call after another, where the second is about some of the same documents
pub asks_next : {names more : List (List ℕ)} {old told new : List Told} {stand later : Stand} {a b : Resolver}
    → IsSamePage a b → AreAmong more names → later ≡ stand → Grows old told → AsksOf stand a names old told
    → AsksOf later b more told new → AsksOf stand a names old new
asks_next {names} {more} {old} {told} {new} {stand} {later} {a} {b} same among stands grows before next = λ nodes is.
    about_next nodes a.context.now.page.doc b.context.now.page.doc names more old told new
    (doc_same a b same) among grows (before nodes is) (next nodes (ap (λ (s : Stand). s.setting.nodes) stands ∙ is))

-- where it is about none
pub asks_on : {names : List (List ℕ)} {old told new : List Told} {stand later : Stand} {a b : Resolver}
    → IsSamePage a b → later ≡ stand → Grows old told → AsksOf stand a names old told
    → AsksOf later b [] told new → AsksOf stand a names old new
asks_on {names} same stands grows before next = asks_next same (none_among names) stands grows before next

-- all that the content references of a document name that is given, under another name
pub reused_given : {told : List Told} {doc other : Doc} → other ≡ doc → IsGiven told (Some (named_tree doc))
    → AreGiven told (reused_of_doc other)
reused_given {told} {doc} same given =
    subst (λ (d : Doc). AreGiven told (reused_of_doc d)) (sym same) (given_reused told doc given)

-- the next of some links, by what was told since
pub link_later : {old new : List Told} {items some : List TakenTarget} {link : TakenTarget} (index : ℕ)
    → Grows old new → items ≡ some
    → index < length items → link ≡ get_or items index link → AreGivenTo old some → IsGivenTo new link
link_later {old} {new} {items} {some} {link} index grows same within is given =
    given_later old new _ grows (link_given old items index link (given_links old same given) within is)

-- what an element holds that was counted
pub asks_counted : {names : List (List ℕ)} {old new : List Told} {a b : Resolver} (stand : Stand) → OneMore a b
    → AsksOf stand b names old new → AsksOf stand a names old new
asks_counted {names} {a = a} {b = b} stand counted call =
    asks_part stand (page_one a b counted) (among_same names) call

-- what an element holds that was counted and judged, and takes the content of its target
pub asks_target : {names : List (List ℕ)} {old new : List Told} {a b c : Resolver} {faults : List Fault} (stand : Stand)
    (target : Whole) → OneMore a b → c ≡ record b { faults = faults } → AreGiven old (reused_of_whole target)
    → AsksOf stand c (reused_in (named_content target.inside)) old new → AsksOf stand a names old new
asks_target {old = old} {a = a} {b = b} {c = c} {faults = faults} stand target counted judged given call =
    asks_call stand (page_judged faults a b c counted judged)
    (given_some old _ _ (whole_inside target _ (among_same _)) given) call

-- An element of siblings whose reference is followed, and what comes behind

module _ {doc : Doc} {faults : List Fault} {a : Resolver} (a0 : Resolver) (siblings : Siblings) (node : Node)
    (origin : List ℕ) (of : doc ≡ doc_of_siblings siblings) (name : Some origin ≡ slice_get doc.origins node.origin)
    (judged : a ≡ record a0 { faults = faults }) where
  pub asks_followed : {old new : List Told} (stand : Stand)
      → AsksOf stand a (reused_by (element_of origin node)) old new
      → AsksOf stand a0 (reused_of_node siblings node) old new
  asks_followed stand call = asks_part stand (page_faults a0 a faults judged)
      (origin_among siblings node origin doc of name) call

  pub asks_behind : {more : List (List ℕ)} {old told new : List Told} {stand later : Stand} {b : Resolver}
      → IsSamePage a b → AreAmong more (reused_of_node siblings node) → later ≡ stand → Grows old told
      → AsksOf stand a (reused_by (element_of origin node)) old told → AsksOf later b more told new
      → AsksOf stand a0 (reused_of_node siblings node) old new
  asks_behind {stand = stand} {b = b} same among stands grows call next =
      asks_next (page_then a0 a b (page_faults a0 a faults judged) same) among stands grows
      (asks_followed stand call) next

  -- what is merged comes behind, and then the ranges
  pub asks_last : {old told more new : List Told} {stand later last : Stand} {b c : Resolver} → IsSamePage a b
      → IsSamePage b c → later ≡ stand → last ≡ later → Grows old told → Grows told more
      → AsksOf stand a (reused_by (element_of origin node)) old told → AsksOf later b [] told more
      → AsksOf last c [] more new → AsksOf stand a0 (reused_of_node siblings node) old new
  asks_last {old} {told} {more} {b = b} {c = c} same next stands lasts grows further call merged ranges =
      asks_on (page_then a0 b c (page_then a0 a b (page_faults a0 a faults judged) same) next) (lasts ∙ stands)
      (grows_trans old told more grows further) (asks_behind same (none_among _) stands grows call merged) ranges
