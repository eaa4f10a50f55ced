-- Each node of a map with its submaps stands for an element, at its place of its document, of which its kind is true.
use Rattle.std.specs.Prelude.{◌≡◌, ◌+◌, ◌&&◌, ℕ, zero, suc, Bool, true, false, List, [], ◌∷◌, ◌++◌, Option, Some, None, Ok, not, is_some, codes, bytes_eq, option_map, slice_get, unwrap_or, if◌then◌else◌}
use Rattle.std.specs.List.{list_any}
use Rattle.std.specs.Option.{option_and_then}
use Rattle.std.proofs.Common.{refl, sym, ap, subst, ◌∙◌, arith}
use Rattle.std.proofs.lemmas.Bool.{cond_both, false≢true}
use Rattle.dita_doc.specs.Tree.{Content}
use Rattle.dita_doc.specs.declared.content.Rule.{Rule}
use Rattle.dita_doc.specs.declared.fault.FaultCode.TheVariants as faults
use Rattle.dita_doc.specs.declared.plan.PlanKind.{PlanKind}
use Rattle.dita_doc.specs.declared.plan.PlanKind.TheVariants as kinds
use Rattle.dita_doc.specs.declared.plan.PlanNode.{PlanNode}
use Rattle.reader_spec.specs.World.{World}
use Rattle.map_spec.specs.Branches.{is_ditavalref}
use Rattle.map_spec.specs.Elements.{attribute, class_faults, has_value, is_a, is_transparent}
use Rattle.map_spec.specs.Included.{MapAround, around_below, fault_alone, included, includes_map, is_map, is_reference, kind_of, map_in, map_included, new_head, map_node_made, nodes_among, nodes_by, nodes_of_element, root_place_in, root_in, root_place, submap_found, submap_named, submap_of}
use Rattle.map_spec.specs.Judged.{filtered}
use Rattle.map_spec.specs.MapTree.{Grown, beneath, beside, plan_nodes, with_faults}
use Rattle.map_spec.specs.Target.{Named, Document, Elsewhere, Unreadable, named_of}
use Rattle.map_spec.specs.Written.{Element, Whole, Written, End, Chars, Node, document, element_at, element_in, first_place, first_sibling, size, written_in}
use Rattle.map_lemmas.specs.Standing.{HasElement, IsOfKind, StandsFor}
use Rattle.map_lemmas.proofs.GrownLaws.{included_made, map_of}
use Rattle.map_lemmas.proofs.HeadLaws.{AllHeads, heads_beside, heads_by_test, heads_filtered, node_at}
use Rattle.map_lemmas.proofs.PlacedLaws.{AreOf, IsRootAt, StandsFrom, root_at, stands_behind, stands_behind_text, stands_first, stands_inside, stands_whole, written_of}

-- Kinds

-- no element makes a map's node, one that includes a map, or a group
abbrev is_made : PlanKind → Bool
is_made kinds.Map = false
is_made kinds.Included = false
is_made kinds.Group = false
is_made _ = true

made_one : (own kind : PlanKind) → is_made own ≡ true → Some own ≡ Some kind → is_made kind ≡ true
made_one own kind is same = let one : own ≡ kind = cc in subst (λ k. is_made k ≡ true) one is

by_types : (a b c d e : Bool) (kind : PlanKind) → (if a then Some kinds.DitavalRef else if b then Some kinds.Reference
    else if c then Some kinds.RelTable else if d then Some kinds.RelRow else if e then Some kinds.RelCell else None)
    ≡ Some kind → is_made kind ≡ true
by_types true b c d e kind is = made_one _ kind refl is
by_types false true c d e kind is = made_one _ kind refl is
by_types false false true d e kind is = made_one _ kind refl is
by_types false false false true e kind is = made_one _ kind refl is
by_types false false false false true kind is = made_one _ kind refl is
by_types false false false false false kind is = cc

kind_is_made : (element : Element) (kind : PlanKind) → kind_of element ≡ Some kind → is_made kind ≡ true
kind_is_made element kind is = by_types (is_a (codes "ditavalref-d/ditavalref") element)
    (is_a (codes "map/topicref") element) (is_a (codes "map/reltable") element) (is_a (codes "map/relrow") element)
    (is_a (codes "map/relcell") element) kind is

of_kind : (element : Element) (kind : PlanKind) → is_made kind ≡ true → kind_of element ≡ Some kind
    → IsOfKind kind element
of_kind element kinds.Map made is = absurd (false≢true made)
of_kind element kinds.Reference made is = is
of_kind element kinds.Included made is = absurd (false≢true made)
of_kind element kinds.DitavalRef made is = is
of_kind element kinds.Group made is = absurd (false≢true made)
of_kind element kinds.RelTable made is = is
of_kind element kinds.RelRow made is = is
of_kind element kinds.RelCell made is = is

-- an element that includes a map makes a reference
a_reference : (kind : PlanKind) (a b c : Bool) → (is_reference kind && a && b && c) ≡ true → kind ≡ kinds.Reference
a_reference kinds.Reference a b c is = refl
a_reference _ a b c is = cc

of_included : (element : Element) (kind : PlanKind) (around : MapAround) → includes_map kind around element ≡ true
    → kind_of element ≡ Some kind → IsOfKind kinds.Included element
of_included element kind around includes is = is ∙ ap Some (a_reference kind (not around.in_table)
    (has_value (codes "format") (codes "ditamap") element) (is_some (attribute (codes "href") element)) includes)

-- Among siblings of a document

module _ (world : World) (name : List ℕ) (all : Written) (there : document world name ≡ Some all)
    (submap : Element → Grown) (stands : (element : Element) → AllHeads (HasElement world) (submap element).tree) where
  found : (place : ℕ) (whole : Whole) → element_at all place ≡ Some whole → element_in world name place ≡ Some whole
  found place whole is = ap (option_and_then (λ nodes. element_at nodes place)) there ∙ is

  here : (kind : PlanKind) (place : ℕ) (element : Element) (inside : Written) → element.doc ≡ name
      → element_at all place ≡ Some (element, inside) → IsOfKind kind element → StandsFor world kind element.doc place
  here kind place element inside own is of = subst (λ doc. StandsFor world kind doc place) (sym own)
      (record { whole = (element, inside); is = found place (element, inside) is; fits = of })

  node_stands : (kind : PlanKind) (around : MapAround) (place : ℕ) (element : Element) (inside : Written)
      (below : Grown)
      → element.doc ≡ name → element_at all place ≡ Some (element, inside) → kind_of element ≡ Some kind
      → AllHeads (HasElement world) below.tree
      → AllHeads (HasElement world) (map_node_made submap kind around place element below).tree
  node_stands kind around place element inside below own is of inner = cond_both (includes_map kind around element)
      (beneath (new_head kinds.Included element around.level place) (beside (submap element) below))
      (beneath (new_head kind element around.level place) below) (λ (grown : Grown). AllHeads (HasElement world) grown.tree)
      (λ includes. (
        here kinds.Included place element inside own is (of_included element kind around includes of),
        heads_beside (HasElement world) (submap element).tree below.tree (stands element) inner,
        tt,
      ))
      (λ other. (here kind place element inside own is (of_kind element kind (kind_is_made element kind of) of), inner, tt))

  kind_stands : (kind : Option PlanKind) (around : MapAround) (place : ℕ) (element : Element) (inside : Written)
      (below : MapAround → Grown) → element.doc ≡ name → element_at all place ≡ Some (element, inside)
      → kind_of element ≡ kind → ((inner : MapAround) → AllHeads (HasElement world) (below inner).tree)
      → AllHeads (HasElement world) (nodes_by submap kind around place element below).tree
  kind_stands None around place element inside below own is of inner = tt
  kind_stands (Some kind) around place element inside below own is of inner =
      node_stands kind around place element inside (below (around_below kind around)) own is of
      (inner (around_below kind around))

  element_stands : (around : MapAround) (place : ℕ) (element : Element) (inside : Written) (below : MapAround → Grown)
      → element.doc ≡ name → element_at all place ≡ Some (element, inside)
      → ((inner : MapAround) → AllHeads (HasElement world) (below inner).tree)
      → AllHeads (HasElement world) (nodes_of_element submap around place element below).tree
  element_stands around place element inside below own is inner = heads_by_test (HasElement world) (is_transparent element)
      (with_faults (class_faults element) (below around)) (nodes_by submap (kind_of element) around place element below)
      (inner around) (kind_stands (kind_of element) around place element inside below own is refl inner)

  among_stand : (around : MapAround) (place : ℕ) (nodes : Written) → AreOf name nodes → StandsFrom all place nodes
      → AllHeads (HasElement world) (nodes_among submap around place nodes).tree
  among_stand around place End own from = tt
  among_stand around place (Chars text doc rest) own from =
      among_stand around (place + 1) rest own (stands_behind_text all place text doc rest from)
  among_stand around place (Node element inside rest) own from = heads_beside (HasElement world)
      (nodes_of_element submap around place element (λ below. nodes_among submap below (place + 1) inside)).tree
      (nodes_among submap around (place + 1 + size inside) rest).tree
      (element_stands around place element inside (λ below. nodes_among submap below (place + 1) inside) own.0
      (stands_first all place element inside rest from)
      (λ inner. among_stand inner (place + 1) inside own.1 (stands_inside all place element inside rest from)))
      (among_stand around (place + 1 + size inside) rest own.2 (stands_behind all place element inside rest from))

-- The root of a document

record IsRootOf (world : World) (name : List ℕ) (root : Whole) : Type 0 where
  all : Written
  there : document world name ≡ Some all
  at : IsRootAt name all (root_place world root.0.doc) root

root_by : (world : World) (name : List ℕ) (root : Whole) (found : Option Content) → world name ≡ found
    → option_and_then first_sibling (option_map (written_in name) found) ≡ Some root → IsRootOf world name root
root_by world name root None same is = cc
root_by world name root (Some content) same is =
    let all = written_in name content in
    let there : document world name ≡ Some all = ap (option_map (written_in name)) same in
    let at = root_at name all 0 all root (written_of name content) (stands_whole all) is in
    let none : 0 + first_place all ≡ first_place all = omega arith in
    let place : 0 + first_place all ≡ root_place world root.0.doc =
    none ∙ sym (ap (root_place world) at.own ∙ ap root_place_in there) in
    record { all = all; there = there; at = subst (λ n. IsRootAt name all n root) place at }

root_of : (world : World) (name : List ℕ) (root : Whole) → root_in world name ≡ Some root → IsRootOf world name root
root_of world name root is = root_by world name root (world name) refl is

-- With submaps

module _ (world : World) (grow : List ℕ → Whole → Grown)
    (stands : (name : List ℕ) (root : Whole) → map_in world name ≡ Some root
    → AllHeads (HasElement world) (grow name root).tree) where
  found_stands : (path : List (List ℕ)) (element : Element) (name : List ℕ) (root : Option Whole)
      → map_in world name ≡ root → AllHeads (HasElement world) (submap_found (grow name) path element name root).tree
  found_stands path element name None is = tt
  found_stands path element name (Some root) is = heads_by_test (HasElement world) (list_any (bytes_eq name) path)
      (fault_alone element faults.MapCycle name) (grow name root) tt (stands name root is)

  named_stands : (path : List (List ℕ)) (element : Element) (href : List ℕ) (named : Named)
      → AllHeads (HasElement world) (submap_named grow world path element href named).tree
  named_stands path element href (Document name) = found_stands path element name (map_in world name) refl
  named_stands path element href Elsewhere = tt
  named_stands path element href Unreadable = tt

  submap_stands : (path : List (List ℕ)) (element : Element)
      → AllHeads (HasElement world) (submap_of grow world path element).tree
  submap_stands path element =
      let href = unwrap_or (attribute (codes "href") element) [] in
      named_stands path element href (named_of element href)

map_stands : (fuel : ℕ) (world : World) (path : List (List ℕ)) (level : ℕ) (name : List ℕ) (root : Whole)
    → root_in world name ≡ Some root → is_map root ≡ true
    → AllHeads (HasElement world) (map_included fuel world path level root).tree
unfolding map_included
map_stands zero world path level name root is map = tt
map_stands (suc fuel) world path level name root is map =
    let of = root_of world name root is in
    let grow = λ (other : List ℕ). map_included fuel world (path ++ other ∷ []) (level + 1) in
    let submap = submap_of grow world path in
    let stands = submap_stands world grow (λ other inner there.
    let both = map_of world other inner there in
    map_stands fuel world (path ++ other ∷ []) (level + 1) other inner both.0 both.1) path in (
      here world name of.all of.there submap stands kinds.Map (root_place world root.0.doc) root.0 root.1 of.at.own
          of.at.is map,
      among_stand world name of.all of.there submap stands (record { level = level; in_table = false })
          (root_place world root.0.doc + 1) root.1 of.at.own_inside of.at.inside,
      tt,
    )

-- The whole

pub included_stand : (limit : ℕ) (world : World) (map : List ℕ) (grown : Grown) → included limit world map ≡ Ok grown
    → AllHeads (HasElement world) grown.tree
included_stand limit world map grown is =
    let made = included_made limit world map grown is in
    subst (λ (g : Grown). AllHeads (HasElement world) g.tree) made.is
    (map_stands (limit + 1) world (map ∷ []) 0 map made.root made.there made.a_map)

node_stands_at : (world : World) (grown : Grown) (at : ℕ) (node : PlanNode) → AllHeads (HasElement world) grown.tree
    → slice_get (plan_nodes grown.tree) at ≡ Some node → StandsFor world node.kind node.doc node.place
node_stands_at world grown at node all is = node_at (HasElement world)
    (λ (own : PlanNode). StandsFor world own.kind own.doc own.place) (λ head parent end has. has) 0 0 grown.tree at node
    all is

-- each node of a map with its submaps stands for an element
pub node_included : (limit : ℕ) (world : World) (map : List ℕ) (grown : Grown) → included limit world map ≡ Ok grown
    → (at : ℕ) (node : PlanNode) → slice_get (plan_nodes grown.tree) at ≡ Some node
    → StandsFor world node.kind node.doc node.place
node_included limit world map grown is at node there =
    node_stands_at world grown at node (included_stand limit world map grown is) there

-- and so does each that rules leave
pub node_filtered : (limit : ℕ) (world : World) (rules : List Rule) (map : List ℕ) (grown : Grown)
    → included limit world map ≡ Ok grown
    → (at : ℕ) (node : PlanNode) → slice_get (plan_nodes (filtered world rules grown.tree).tree) at ≡ Some node
    → StandsFor world node.kind node.doc node.place
node_filtered limit world rules map grown is at node there =
    node_stands_at world (filtered world rules grown.tree) at node
    (heads_filtered (HasElement world) world rules grown.tree (included_stand limit world map grown is)) there

-- Ditavalrefs

ditavalref_kind : (kind : PlanKind) → is_ditavalref kind ≡ true → kind ≡ kinds.DitavalRef
ditavalref_kind kinds.DitavalRef is = refl
ditavalref_kind _ is = cc

-- the element of a ditavalref's node is a ditavalref
pub a_ditavalref : (world : World) (kind : PlanKind) (doc : List ℕ) (place : ℕ) (whole : Whole)
    → StandsFor world kind doc place → is_ditavalref kind ≡ true → element_in world doc place ≡ Some whole
    → is_a (codes "ditavalref-d/ditavalref") whole.0 ≡ true
a_ditavalref world kind doc place whole stands is there =
    let one : stands.whole ≡ whole = let same : Some stands.whole ≡ Some whole = sym stands.is ∙ there in cc in
    let fits : IsOfKind kinds.DitavalRef whole.0 = subst (λ (w : Whole). IsOfKind kinds.DitavalRef w.0) one
    (subst (λ k. IsOfKind k stands.whole.0) (ditavalref_kind kind is) stands.fits) in
    ref_by (is_a (codes "ditavalref-d/ditavalref") whole.0) (is_a (codes "map/topicref") whole.0)
    (is_a (codes "map/reltable") whole.0) (is_a (codes "map/relrow") whole.0) (is_a (codes "map/relcell") whole.0) fits
  where
    ref_by : (a b c d e : Bool) → (if a then Some kinds.DitavalRef else if b then Some kinds.Reference
        else if c then Some kinds.RelTable else if d then Some kinds.RelRow else if e then Some kinds.RelCell else None)
        ≡ Some kinds.DitavalRef → a ≡ true
    ref_by true b c d e fits = refl
    ref_by false true c d e fits = cc
    ref_by false false true d e fits = cc
    ref_by false false false true e fits = cc
    ref_by false false false false true fits = cc
    ref_by false false false false false fits = cc
