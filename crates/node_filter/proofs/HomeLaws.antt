-- The elements of nodes, as they were found.
use Rattle.std.specs.Prelude.{◌≡◌, ◌==◌, ℕ, Bool, true, false, List, [], Option, Some, None, map, nat_lt, option_map, slice_get, if◌then◌else◌}
use Rattle.std.specs.Borrow.{Bor}
use Rattle.std.specs.Option.{option_and_then, option_map_or}
use Rattle.std.proofs.Common.{refl, sym, ap, subst, ◌∙◌}
use Rattle.std.proofs.lemmas.Option.{slice_get-map, same_Some}
use Rattle.dita_doc.specs.Tree as tree
use Rattle.dita_doc.specs.Tree.{Content}
use Rattle.dita_doc.specs.declared.doc.Node as doc
use Rattle.dita_doc.specs.declared.plan.PlanNode.{PlanNode}
use Rattle.doc_elements.specs.Walk.{FoundElement, found_in}
use Rattle.map_spec.specs.Cascade.{whole_at}
use Rattle.map_spec.specs.Judged.{has_element}
use Rattle.map_spec.specs.Written as written_spec
use Rattle.map_spec.specs.Written.{Element, Whole, written_in, size}
use Rattle.plan_nodes.specs.Home as home_spec
use Rattle.reader_spec.specs.World.{World}
use Rattle.node_filter.specs.Sieve.{element_in_world, element_found}

-- an element of a document stands in it
abbrev IsIn : List ℕ → Option Whole → Type 0
IsIn name found = (whole : Whole) → found ≡ Some whole → whole.0.doc ≡ name

none_in : (name : List ℕ) → IsIn name None
none_in name whole e = cc

one_in : (name : List ℕ) (here : Whole) → here.0.doc ≡ name → IsIn name (Some here)
one_in name here is whole e = ap (λ (w : Whole). w.0.doc) (sym (same_Some here whole e)) ∙ is

in_one : (name : List ℕ) (first : Bool) (found : Option Whole) (other : Option Whole) → IsIn name found → IsIn name other
    → IsIn name (if first then found else other)
in_one name true found other one two = one
in_one name false found other one two = two

doc_in : (name : List ℕ) (nodes : Content) (place : ℕ) → IsIn name (written_spec.element_at (written_in name nodes) place)
doc_in name tree.End place = none_in name
doc_in name (tree.Chars text origin line rest) place =
    in_one name (place == 0) None _ (none_in name) (doc_in name rest _)
doc_in name (tree.Element title attributes origin line inside rest) place =
    let element : Element = record { name = title; attributes = attributes; doc = name; line = line; href_doc = name } in
    let here : Whole = (element, written_in name inside) in
    in_one name (place == 0) (Some here) _ (one_in name here refl)
    (in_one name (nat_lt (size (written_in name inside)) place) _ _ (doc_in name rest _) (doc_in name inside _))

doc_in_found : (name : List ℕ) (found : Option Content) (place : ℕ)
    → IsIn name (option_and_then (λ nodes. written_spec.element_at nodes place) (option_map (written_in name) found))
doc_in_found name None place = none_in name
doc_in_found name (Some nodes) place = doc_in name nodes place

doc_at : (world : World) (node : PlanNode) → IsIn node.doc (whole_at world node)
doc_at world node = in_one node.doc (has_element node.kind) _ _ (doc_in_found node.doc (world node.doc) node.place)
    (none_in node.doc)

-- no element was found, whatever its document
none_found : (name : List ℕ) (found : Option (Bor doc.Node)) → home_spec.found_in [] found ≡ None
    → element_found name found ≡ None
none_found name None e = refl
none_found name (Some node) e = cc

found_by : (name : List ℕ) (found : Option (Bor doc.Node)) (whole : Option Whole) → IsIn name whole
    → home_spec.found_in (option_map_or (λ (w : Whole). w.0.doc) whole []) found ≡ option_map (λ (w : Whole). w.0) whole
    → element_found name found ≡ option_map (λ (w : Whole). w.0) whole
found_by name found None is e = none_found name found e
found_by name found (Some whole) is e =
    subst (λ (n : List ℕ). element_found n found ≡ Some whole.0) (is whole refl) e

-- the element at a place is that of the node there
pub home_found : (world : World) (homes : List (Option Whole)) (nodes : List PlanNode) (at : ℕ) (node : PlanNode)
    (found : Option (Bor doc.Node)) → homes ≡ map (whole_at world) nodes → slice_get nodes at ≡ Some node
    → home_spec.found_in (home_spec.doc_of homes at) found ≡ home_spec.element_among homes at
    → element_found node.doc found ≡ element_in_world world node
home_found world homes nodes at node found all here e =
    let entry : slice_get homes at ≡ Some (whole_at world node) = ap (λ (hs : List (Option Whole)). slice_get hs at) all
    ∙ (slice_get-map (whole_at world) nodes at ∙ ap (option_map (whole_at world)) here) in
    let P : Option (Option Whole) → Type 0 = λ o.
    home_spec.found_in (option_map_or (λ (w : Whole). w.0.doc) (option_and_then (λ (w : Option Whole). w) o) []) found
    ≡ option_map (λ (w : Whole). w.0) (option_and_then (λ (w : Option Whole). w) o) in
    found_by node.doc found (whole_at world node) (doc_at world node) (subst P entry e)

-- the same with what it holds
whole_by : (name : List ℕ) (found : Option FoundElement) (whole : Option Whole) → IsIn name whole
    → found_in (option_map_or (λ (w : Whole). w.0.doc) whole []) found ≡ whole → found_in name found ≡ whole
whole_by name None None is e = refl
whole_by name (Some found) None is e = cc
whole_by name found (Some whole) is e = subst (λ (n : List ℕ). found_in n found ≡ Some whole) (is whole refl) e

pub whole_found : (world : World) (homes : List (Option Whole)) (nodes : List PlanNode) (at : ℕ) (node : PlanNode)
    (found : Option FoundElement) → homes ≡ map (whole_at world) nodes → slice_get nodes at ≡ Some node
    → found_in (home_spec.doc_of homes at) found ≡ home_spec.whole_at homes at
    → found_in node.doc found ≡ whole_at world node
whole_found world homes nodes at node found all here e =
    let entry : home_spec.whole_at homes at ≡ whole_at world node =
    ap (λ (hs : List (Option Whole)). option_and_then (λ (w : Option Whole). w) (slice_get hs at)) all
    ∙ ap (option_and_then (λ (w : Option Whole). w)) (slice_get-map (whole_at world) nodes at
    ∙ ap (option_map (whole_at world)) here) in
    let P : Option Whole → Type 0 = λ o. found_in (option_map_or (λ (w : Whole). w.0.doc) o []) found ≡ o in
    whole_by node.doc found (whole_at world node) (doc_at world node) (subst P entry e)
