-- Questions for a page, where references are followed and nodes are resolved.
use Rattle.std.specs.Borrow.{Bor}
use Rattle.std.specs.Prelude.{◌≡◌, ◌<◌, ◌++◌, ℕ, List, [], ◌∷◌, Option, Some, None, Result, Ok, Err, IfOk, IfSome, IsErrAnd, OnOk, get_or, length, slice_get}
use Rattle.std.specs.Arc.{arc_value}
use Rattle.std.specs.declared.alloc.Global.{Global}
use Rattle.std.specs.declared.sync.Arc.{Arc}
use Rattle.std.proofs.Common.{refl, ap, sym, subst}
use Rattle.std.proofs.lemmas.List.Elements.{All-get_or, All-head, All-push}
use Rattle.dita_doc.specs.Siblings.{IsElementAt, doc_of_siblings}
use Rattle.dita_doc.specs.declared.content.Resolved.{Resolved}
use Rattle.dita_doc.specs.declared.doc.Doc.{Doc}
use Rattle.dita_doc.specs.declared.doc.Node.{Node}
use Rattle.dita_doc.specs.declared.plan.Context.{Context}
use Rattle.dita_doc.specs.declared.siblings.Siblings.{Siblings}
use Rattle.dita_doc.specs.declared.stop.NoMemory.{NoMemory}
use Rattle.dita_doc.specs.declared.stop.Stop.{Stop}
use Rattle.dita_doc.specs.declared.stop.Stop.TheVariants as stops
use Rattle.doc_elements.specs.Walk.{element_of}
use Rattle.readers.specs.Named.{named_tree}
use Rattle.readers.specs.Setting.{Stand}
use Rattle.readers.specs.Told.{Told}
use Rattle.conref_targets.specs.Asking.{element_around}
use Rattle.conref_targets.specs.Origin.{named_content}
use Rattle.conref_targets.specs.PageAsking.{AreMet, AsksPage, FindsOnly, IsAt, IsMet, PageAt}
use Rattle.conref_targets.specs.declared.find.Found.{Found}
use Rattle.conref_targets.proofs.EachLaws.{inside_each, node_each, origin_each, parts_each}
pub use Rattle.conref_targets.proofs.EachLaws.{text_each}
use Rattle.conref_targets.proofs.PageAskingLaws.{at_next}
pub use Rattle.conref_targets.proofs.PageAskingLaws.{asks_same, asks_then}
use Rattle.conref_pull.specs.Met.{FollowsOnly, LinkMet, LinksMet, TakesOnly, UnlessOut}
use Rattle.conref_pull.specs.Resolved.{HasMemory}
use Rattle.conref_pull.specs.State.{IsSamePage}
use Rattle.conref_pull.specs.declared.chain.TakenTarget.{TakenTarget}
use Rattle.conref_pull.specs.declared.resolver.Resolver.{Resolver}
use Rattle.conref_pull.specs.declared.resolver.TooMany.{TooMany}
use Rattle.conref_pull.proofs.WalkLoopLaws.{Splits}

-- the page is the same behind a call
pub at_on : {page : PageAt} {a b : Resolver} {stand later : Stand} → IsSamePage a b → later ≡ stand
    → IsAt page stand a.context.now.page → IsAt page later b.context.now.page
at_on same stands at = at_next at stands (ap (λ (context : Bor Context). context.now.page) same.context)

-- How a walk ends

module _ (P : Type 0) where
  pub unless_out : (result : Result (Unit {0}) (Stop TooMany)) → P → UnlessOut result P
  unless_out (Ok done) holds = holds
  unless_out (Err (stops.Fault fault)) holds = holds
  unless_out (Err stops.NoMemory) holds = tt

  unless_err : (result : Result (Unit {0}) (Stop TooMany)) (stop : Stop TooMany) → IsErrAnd result (λ e. e ≡ stop)
      → UnlessOut (Err stop) P → UnlessOut result P
  unless_err (Ok done) stop is holds = absurd is
  unless_err (Err e) stop is holds = subst (λ (s : Stop TooMany). UnlessOut (Err s) P) (sym is) holds

  with_memory : (result : Result (Unit {0}) (Stop TooMany)) → HasMemory result → UnlessOut result P → P
  with_memory (Ok done) memory holds = holds
  with_memory (Err (stops.Fault fault)) memory holds = holds
  with_memory (Err stops.NoMemory) memory holds = absurd memory

  unless_then : (Q : Type 0) (result : Result (Unit {0}) (Stop TooMany)) → (P → Q) → UnlessOut result P
      → UnlessOut result Q
  unless_then Q (Ok done) next holds = next holds
  unless_then Q (Err (stops.Fault fault)) next holds = next holds
  unless_then Q (Err stops.NoMemory) next holds = tt

module _ (page : PageAt) where
  pub ends_same : (result : Result (Unit {0}) (Stop TooMany)) (told : List Told)
      → UnlessOut result (AsksPage page told told)
  ends_same result told = unless_out (AsksPage page told told) result (asks_same page told told refl)

  -- one call after another, of which the second is a walk
  pub asks_unless : (a b c : List Told) (result : Result (Unit {0}) (Stop TooMany)) → AsksPage page a b
      → UnlessOut result (AsksPage page b c) → UnlessOut result (AsksPage page a c)
  asks_unless a b c result before next =
      unless_then (AsksPage page b c) (AsksPage page a c) result (asks_then page a b c before) next

  -- a walk that was stopped
  pub asks_stopped : (a b c : List Told) (result : Result (Unit {0}) (Stop TooMany)) (stop : Stop TooMany)
      → IsErrAnd result (λ e. e ≡ stop) → AsksPage page a b → UnlessOut (Err stop) (AsksPage page b c)
      → UnlessOut result (AsksPage page a c)
  asks_stopped a b c result stop is before next =
      unless_err (AsksPage page a c) result stop is (asks_unless a b c (Err stop) before next)

  -- what was walked is handed out
  pub asks_done : (a b c : List Told) (result : Result Resolved NoMemory) (done : Result (Unit {0}) (Stop TooMany))
      → OnOk result (HasMemory done) → UnlessOut done (AsksPage page a b) → OnOk result (AsksPage page b c)
      → OnOk result (AsksPage page a c)
  asks_done a b c (Ok resolved) done memory walked next =
      asks_then page a b c (with_memory (AsksPage page a b) done memory walked) next
  asks_done a b c (Err stop) done memory walked next = tt

  -- Targets

  pub takes_link : (old new : List Told) (found : Found) (result : Result (Option TakenTarget) NoMemory)
      → IfOk result (λ link. IfSome link (λ one. one.doc ≡ found.doc)) → FindsOnly page old new (Some found)
      → IfOk result (λ link. TakesOnly page old new link)
  takes_link old new found (Err stop) same finds = tt
  takes_link old new found (Ok None) same finds = record { asks = finds.asks; met = tt }
  takes_link old new found (Ok (Some link)) same finds = record {
    asks = finds.asks;
    met = subst (λ (d : Arc Doc Global). AreMet page (named_tree (arc_value d))) (sym same) finds.met;
  }

  -- one more target, behind those that were taken from it on
  pub follows_more : (a b c : List Told) (some all : List TakenTarget) (link : TakenTarget) → all ≡ some ++ link ∷ []
      → AsksPage page a b → LinkMet page link → FollowsOnly page b c some → FollowsOnly page a c all
  follows_more a b c some all link is before met next = record {
    asks = asks_then page a b c before next.asks;
    met = subst (LinksMet page) (sym is) (All-push (LinkMet page) some link next.met met);
  }

  -- the first of some links, and one of them
  pub first_met : (links : List TakenTarget) (link : TakenTarget) (more : List TakenTarget) → links ≡ link ∷ more
      → LinksMet page links
      → LinkMet page link
  first_met links link more is met = All-head (LinkMet page) link more (subst (LinksMet page) is met)

  pub link_met : {items links : List TakenTarget} {link : TakenTarget} (index : ℕ) → items ≡ links
      → index < length items
      → link ≡ get_or items index link → LinksMet page links → LinkMet page link
  link_met {items} {links} {link} index same within is met = subst (LinkMet page) (sym is)
      (All-get_or (LinkMet page) items index link within (subst (LinksMet page) (sym same) met))

  -- the document of a link, under another name
  pub met_as : {doc other : Doc} → other ≡ doc → AreMet page (named_tree doc) → AreMet page (named_tree other)
  met_as same met = subst (λ (d : Doc). AreMet page (named_tree d)) (sym same) met

  -- Elements

  pub origin_met : {doc : Doc} (inside : Siblings) (node : Node) (origin : List ℕ) → doc ≡ doc_of_siblings inside
      → Some origin ≡ slice_get doc.origins node.origin → IsMet page (element_around inside node)
      → IsMet page (element_of origin node)
  origin_met {doc} inside node origin of name met = origin_each (IsMet page) inside node origin doc of name met

  -- the first of siblings, and the others are left
  pub sibling_asks : {after : Type 0} {left : Siblings} {node : Node} {inside rest : Siblings}
      → Splits left node inside rest → AreMet page (named_content left)
      → (IsMet page (element_around inside node) → AreMet page (named_content inside) → after)
      → after × AreMet page (named_content rest)
  sibling_asks {left = left} {node = node} {inside = inside} {rest = rest} split met next =
      let parts = parts_each (IsMet page) left node inside rest split.is split.held split.behind met in
      (next parts.0 parts.1, parts.2)

  pub place_asks : {doc : Doc} {place : ℕ} {node : Node} {inside : Siblings} {after : Type 0}
      → IsElementAt doc place node inside → AreMet page (named_tree doc)
      → (IsMet page (element_around inside node) → AreMet page (named_content inside) → after) → after
  place_asks {doc} {place} {node} {inside} is met next =
      next (node_each (IsMet page) doc place node inside is met) (inside_each (IsMet page) doc place node inside is met)
