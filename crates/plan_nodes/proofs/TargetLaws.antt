-- The target of a node may be asked about, if its element was told.
use Rattle.std.specs.Prelude.{◌≡◌, ◌-◌, ◌+◌, ◌==◌, ℕ, Bool, true, false, List, Option, Some, None, IsTrue, codes, map, nat_lt, option_map, slice_get, if◌then◌else◌}
use Rattle.std.specs.Option.{option_and_then}
use Rattle.std.proofs.Common.{refl, ap, ◌∙◌}
use Rattle.std.proofs.Math.Logic.{⊎_elim}
use Rattle.std.proofs.lemmas.Option.{slice_get-map}
use Rattle.dita_doc.specs.Tree as tree
use Rattle.dita_doc.specs.Tree.{Content}
use Rattle.dita_doc.specs.declared.plan.PlanNode.{PlanNode}
use Rattle.dita_doc.specs.declared.plan.Reference.{Reference}
use Rattle.dita_doc.specs.declared.plan.Target.TheVariants as targets
use Rattle.map_spec.specs.Cascade.{cascaded_value, whole_at}
use Rattle.map_spec.specs.Elements.{attribute}
use Rattle.map_spec.specs.Judged.{has_element}
use Rattle.map_spec.specs.Keys.{target_of_definition}
use Rattle.map_spec.specs.Target.{target_by}
use Rattle.map_spec.specs.Written.{Element, Whole, element_at, element_in, size, written_in}
use Rattle.readers.specs.Founded.{is_allowed}
use Rattle.readers.specs.Told.{Told}
use Rattle.reader_spec.specs.World.{World}
use Rattle.plan_nodes.specs.Given.{AreTold, IsTold}
use Rattle.plan_nodes.proofs.GivenLaws.{may_target}
use Rattle.plan_nodes.proofs.ToldLaws.{some_behind, some_of}

-- an element stands in the document of its node

doc_in : (name : List ℕ) (nodes : Content) (place : ℕ) (whole : Whole)
    → element_at (written_in name nodes) place ≡ Some whole → whole.0.doc ≡ name
doc_in name tree.End place whole is = cc
doc_in name (tree.Chars text origin line rest) place whole is =
    doc_in name rest (place - 1) whole (some_behind (place == 0) _ whole is)
doc_in name (tree.Element title attributes origin line inside rest) place whole is =
    let element : Element = record { name = title; attributes = attributes; doc = name; line = line; href_doc = name } in
    let within = size (written_in name inside) in
    ⊎_elim
    (λ here. let same : whole.0 ≡ element = cc in ap (λ (e : Element). e.doc) same)
    (⊎_elim
    (λ behind. doc_in name rest (place - (1 + within)) whole behind)
    (λ below. doc_in name inside (place - 1) whole below))
    (some_of (place == 0) (nat_lt within place) (Some (element, written_in name inside)) _ _ whole is)

doc_found : (name : List ℕ) (found : Option Content) (place : ℕ) (whole : Whole)
    → option_and_then (λ nodes. element_at nodes place) (option_map (written_in name) found) ≡ Some whole
    → whole.0.doc ≡ name
doc_found name None place whole is = cc
doc_found name (Some nodes) place whole is = doc_in name nodes place whole is

doc_by : (world : World) (node : PlanNode) (test : Bool) (whole : Whole)
    → (if test then element_in world node.doc node.place else None) ≡ Some whole → whole.0.doc ≡ node.doc
doc_by world node true whole is = doc_found node.doc (world node.doc) node.place whole is
doc_by world node false whole is = cc

pub doc_there : (world : World) (node : PlanNode) (whole : Whole) → whole_at world node ≡ Some whole
    → whole.0.doc ≡ node.doc
doc_there world node whole is = doc_by world node (has_element node.kind) whole is

-- a topic that a node's href leads to

module _ (told : List Told) (format scope name : List ℕ) (reference : Reference) (roots : List (List ℕ)) where
  by_href : (element : Element) (doc : List ℕ) (href : Option (List ℕ)) → IsTold told element → element.doc ≡ doc
      → attribute (codes "href") element ≡ href
      → option_and_then (λ h. target_by h format scope doc) href ≡ Some (targets.Local name reference)
      → IsTrue (is_allowed roots told name)
  by_href element doc None was home written target = cc
  by_href element doc (Some href) was home written target =
      may_target told element href format scope name reference was written
      (ap (target_by href format scope) home ∙ target) roots

  by_whole : (world : World) (node : PlanNode) (found : Option Whole) → whole_at world node ≡ found
      → ((whole : Whole) → whole_at world node ≡ Some whole → IsTold told whole.0)
      → option_and_then (λ h. target_by h format scope node.doc)
      (option_and_then (λ (whole : Whole). attribute (codes "href") whole.0) found) ≡ Some (targets.Local name reference)
      → IsTrue (is_allowed roots told name)
  by_whole world node None is was target = cc
  by_whole world node (Some whole) is was target =
      by_href whole.0 node.doc (attribute (codes "href") whole.0) (was whole is) (doc_there world node whole is) refl
      target

pub may_target_at : (told : List Told) (world : World) (nodes around : List PlanNode) (at : ℕ) (node : PlanNode)
    (name : List ℕ) (reference : Reference) → AreTold told (map (whole_at world) nodes)
    → slice_get nodes at ≡ Some node → target_of_definition world node around ≡ Some (targets.Local name reference)
    → (roots : List (List ℕ)) → IsTrue (is_allowed roots told name)
may_target_at told world nodes around at node name reference were here target roots =
    by_whole told (cascaded_value world (codes "format") around) (cascaded_value world (codes "scope") around) name
    reference roots world node (whole_at world node) refl
    (λ whole is. were.each at whole (slice_get-map (whole_at world) nodes at ∙ ap (option_map (whole_at world)) here
    ∙ ap (λ w. Some w) is)) target
