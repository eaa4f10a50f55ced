-- Documents that hrefs name, where an element is put: what held before a call holds behind it.
use Rattle.std.specs.Arc.{arc_value}
use Rattle.std.specs.Prelude.{◌≡◌, ℕ, Bool, List, Result, Some, OnOk, slice_get}
use Rattle.std.proofs.Common.{sym, subst}
use Rattle.dita_doc.specs.Siblings.{IsElementAt, doc_of_siblings}
use Rattle.dita_doc.specs.declared.doc.Attribute.{Attribute}
use Rattle.dita_doc.specs.declared.doc.Doc.{Doc}
use Rattle.dita_doc.specs.declared.doc.Node.{Node}
use Rattle.dita_doc.specs.declared.fault.Fault.{Fault}
use Rattle.dita_doc.specs.declared.siblings.Siblings.{Siblings}
use Rattle.dita_doc.specs.declared.stop.Stop.{Stop}
use Rattle.doc_elements.specs.Walk.{element_of}
use Rattle.doc_maker.specs.Building.{Building, closed, element, href_written, opened}
use Rattle.map_spec.specs.Written as written
use Rattle.conref_spec.specs.Content.{text_made, without_id}
use Rattle.readers.specs.Founded.{Grows}
use Rattle.readers.specs.Named.{name_at, named_tree}
use Rattle.readers.specs.Told.{Told}
use Rattle.conref_targets.specs.Asking.{element_around}
use Rattle.conref_targets.specs.Hrefs.{AreNamed, HasNamed, HaveNamed}
use Rattle.conref_targets.specs.Origin.{named_content}
use Rattle.conref_targets.proofs.EachLaws.{inside_each, node_each, origin_each, parts_each}
use Rattle.conref_pull.specs.Linked.{IsGivenTo}
use Rattle.conref_pull.specs.Count.{OneMore}
use Rattle.conref_pull.specs.PutHrefs.{MergedNamed, HaveNamedIn, PutNamed}
use Rattle.conref_pull.specs.Merging.{IsMerged}
use Rattle.conref_pull.specs.Putting.{IsSameMaker, Puts, built}
use Rattle.conref_pull.specs.declared.chain.TakenTarget.{TakenTarget}
use Rattle.conref_pull.specs.declared.merge.Merged.{Merged}
use Rattle.conref_pull.specs.declared.resolver.Resolver.{Resolver}
use Rattle.conref_pull.specs.declared.resolver.TooMany.{TooMany}
use Rattle.conref_pull.proofs.AroundLaws.{home_kept}
use Rattle.conref_pull.proofs.LinkLaws.{link_named}
use Rattle.conref_pull.proofs.HrefLaws.{building_later, element_later}
pub use Rattle.conref_pull.proofs.HrefLaws.{nodes_later}
use Rattle.conref_pull.proofs.HrefMergeLaws.{by_element, home_named, is_shown, shown, without_id_named}
use Rattle.conref_pull.proofs.HrefWalkLaws.{closed_put, opened_put, puts_named}
pub use Rattle.conref_pull.proofs.HrefWalkLaws.{maker_counted, same_put}
pub use Rattle.conref_pull.proofs.PutLaws.{maker_faults, maker_then}
use Rattle.conref_pull.proofs.WalkLoopLaws.{Splits}

pub origin_named : (told : List Told) (siblings : Siblings) (node : Node) (origin : List ℕ) (doc : Doc)
    → doc ≡ doc_of_siblings siblings → Some origin ≡ slice_get doc.origins node.origin
    → HasNamed told (element_around siblings node) → HasNamed told (element_of origin node)
origin_named told siblings node origin doc of name named =
    origin_each (HasNamed told) siblings node origin doc of name named

-- what a call hands on that puts nothing
module _ {told more : List Told} (grows : Grows told more) where
  pub origin_later : {doc : Doc} (siblings : Siblings) (node : Node) (origin : List ℕ) → doc ≡ doc_of_siblings siblings
      → Some origin ≡ slice_get doc.origins node.origin → HasNamed told (element_around siblings node)
      → HasNamed more (element_of origin node)
  origin_later {doc} siblings node origin of name named = element_later told more grows (element_of origin node)
      (origin_named told siblings node origin doc of name named)

  pub put_later : {a b : Resolver} → IsSameMaker a b → PutNamed told a → PutNamed more b
  put_later {a} {b} same put = building_later told more grows (built b) (same_put told a b same put)

  -- the document of a link, under another name
  pub named_later : {other : Doc} (link : TakenTarget) → other ≡ arc_value link.doc → IsGivenTo told link
      → HaveNamed more (named_tree other)
  named_later link same given = subst (λ (d : Doc). HaveNamed more (named_tree d)) (sym same)
      (nodes_later told more grows (named_tree (arc_value link.doc)) (link_named told link given))

  -- the first of siblings is put, and the others are left
  pub sibling_put : {before after : Type 0} {left : Siblings} {node : Node} {inside rest : Siblings}
      → Splits left node inside rest → HaveNamed told (named_content left) × before
      → (HasNamed more (element_around inside node) → HaveNamed more (named_content inside) → before → after)
      → HaveNamed told (named_content rest) × after
  sibling_put {left = left} {node = node} {inside = inside} {rest = rest} split named next =
      let parts = parts_each (HasNamed told) left node inside rest split.is split.held split.behind named.0 in (
        parts.2,
        next (element_later told more grows (element_around inside node) parts.0)
            (nodes_later told more grows (named_content inside) parts.1) named.1,
      )

-- an element that was counted and judged
pub counted_put : {a b c : Resolver} {faults : List Fault} (told : List Told) → OneMore a b
    → c ≡ record b { faults = faults } → PutNamed told a → PutNamed told c
counted_put {a} {b} {c} {faults} told counted judged put =
    same_put told a c (maker_then a b c (maker_counted a b counted) (maker_faults b c faults judged)) put

-- an element that is opened and closed
pub around_put : {opener closer : Building} {name : List ℕ} {attributes : List Attribute} {doc : List ℕ} {line : ℕ}
    (told more : List Told) (href_doc : List ℕ) (a b : Resolver)
    → opener ≡ opened (built a) (element name attributes doc line (href_written attributes doc href_doc))
    → AreNamed told href_doc attributes → PutNamed told a → (HaveNamedIn told opener → PutNamed more b)
    → closer ≡ closed (built b) → HaveNamedIn more closer
around_put {opener} {closer} {name} {attributes} {doc} {line} told more href_doc a b opens named before within closes =
    closed_put more (built b) closer closes (within (opened_put told (built a) opener
    (element name attributes doc line (href_written attributes doc href_doc)) opens
    (home_named told doc href_doc attributes named) before))

-- the attributes that are left of an element
pub left_named : {attributes : List Attribute} (told : List Told) (is_range : Bool) (element : written.Element)
    → attributes ≡ (without_id is_range element).attributes → HasNamed told element
    → AreNamed told element.href_doc attributes
left_named told is_range element are named =
    subst (λ (all : List Attribute). AreNamed told element.href_doc all) (sym are)
    (subst (λ (doc : List ℕ). AreNamed told doc (without_id is_range element).attributes)
    (sym (home_kept is_range element)) (without_id_named told is_range element named))

-- what is left of what an element takes
pub written_named : {own : Merged} (told : List Told) (is_range : Bool) (merged : Merged)
    → ((whole : written.Element) → IsMerged merged whole → IsMerged own (without_id is_range whole))
    → MergedNamed told merged → MergedNamed told own
written_named {own} told is_range merged writes named =
    by_element told own (without_id is_range (shown merged)) (writes (shown merged) (is_shown merged))
    (without_id_named told is_range (shown merged) named)

-- A node at a place of a document

pub place_put : {doc : Doc} {place : ℕ} {node : Node} {inside : Siblings} {after : Type 0} (told : List Told)
    → IsElementAt doc place node inside → HaveNamed told (named_tree doc)
    → (HasNamed told (element_around inside node) → HaveNamed told (named_content inside) → after) → after
place_put {doc} {place} {node} {inside} told is all next =
    next (node_each (HasNamed told) doc place node inside is all) (inside_each (HasNamed told) doc place node inside is all)

pub place_text : (told : List Told) (doc : Doc) (node : Node) (result : Result (Unit {0}) (Stop TooMany))
    (a b : Resolver)
    → Puts result (text_made node.text (name_at doc.origins node.origin)) a b → PutNamed told a
    → OnOk result (PutNamed told b)
place_text told doc node result a b puts put =
    puts_named told result (text_made node.text (name_at doc.origins node.origin)) a b puts tt put
