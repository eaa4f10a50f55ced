-- The nodes of a map as they are made: none has a filter yet.
use Rattle.std.specs.Prelude.{◌≡◌, ◌+◌, ℕ, zero, suc, false, List, [], ◌∷◌, ◌++◌, Option, Some, None, unwrap_or, codes, bytes_eq}
use Rattle.std.specs.List.{list_any}
use Rattle.std.proofs.Common.{refl}
use Rattle.dita_doc.specs.declared.fault.FaultCode.TheVariants as faults
use Rattle.dita_doc.specs.declared.plan.PlanKind.{PlanKind}
use Rattle.dita_doc.specs.declared.plan.PlanKind.TheVariants as kinds
use Rattle.reader_spec.specs.World.{World}
use Rattle.map_spec.specs.Elements.{attribute, class_faults, is_transparent}
use Rattle.map_spec.specs.Included.{MapAround, around_below, fault_alone, includes_map, kind_of, map_in, map_included, new_head, map_node_made, nodes_among, nodes_by, nodes_of_element, root_place, submap_found, submap_named, submap_of}
use Rattle.map_spec.specs.MapTree.{Grown, Head, beneath, beside, with_faults}
use Rattle.map_spec.specs.Target.{Named, Document, Elsewhere, Unreadable, named_of}
use Rattle.map_spec.specs.Written.{Element, Whole, Written, End, Chars, Node, size}
use Rattle.map_lemmas.proofs.HeadLaws.{AllHeads, heads_beside, heads_by_test}

-- as a node is made
abbrev pub HasNoFilters : Head → Type 0
HasNoFilters head = head.filters ≡ []

-- no node has a filter
abbrev pub IsNew : Grown → Type 0
IsNew grown = AllHeads HasNoFilters grown.tree

-- Among siblings

module _ (submap : Element → Grown) (new : (element : Element) → IsNew (submap element)) where
  -- the node of an element
  node_new : (kind : PlanKind) (around : MapAround) (place : ℕ) (element : Element) (below : Grown) → IsNew below
      → IsNew (map_node_made submap kind around place element below)
  node_new kind around place element below inside = heads_by_test HasNoFilters (includes_map kind around element)
      (beneath (new_head kinds.Included element around.level place) (beside (submap element) below))
      (beneath (new_head kind element around.level place) below)
      (refl, heads_beside HasNoFilters (submap element).tree below.tree (new element) inside, tt) (refl, inside, tt)

  -- what an element of some kind makes
  by_kind : (kind : Option PlanKind) (around : MapAround) (place : ℕ) (element : Element) (below : MapAround → Grown)
      → ((inner : MapAround) → IsNew (below inner)) → IsNew (nodes_by submap kind around place element below)
  by_kind None around place element below inside = tt
  by_kind (Some kind) around place element below inside =
      node_new kind around place element (below (around_below kind around)) (inside (around_below kind around))

  -- what an element makes
  element_new : (around : MapAround) (place : ℕ) (element : Element) (below : MapAround → Grown)
      → ((inner : MapAround) → IsNew (below inner)) → IsNew (nodes_of_element submap around place element below)
  element_new around place element below inside = heads_by_test HasNoFilters (is_transparent element)
      (with_faults (class_faults element) (below around)) (nodes_by submap (kind_of element) around place element below)
      (inside around) (by_kind (kind_of element) around place element below inside)

  -- what siblings make
  among_new : (around : MapAround) (place : ℕ) (nodes : Written) → IsNew (nodes_among submap around place nodes)
  among_new around place End = tt
  among_new around place (Chars text doc rest) = among_new around (place + 1) rest
  among_new around place (Node element inside rest) = heads_beside HasNoFilters
      (nodes_of_element submap around place element (λ below. nodes_among submap below (place + 1) inside)).tree
      (nodes_among submap around (place + 1 + size inside) rest).tree
      (element_new around place element (λ below. nodes_among submap below (place + 1) inside)
      (λ inner. among_new inner (place + 1) inside))
      (among_new around (place + 1 + size inside) rest)

-- With submaps

module _ (grow : List ℕ → Whole → Grown) (new : (name : List ℕ) (root : Whole) → IsNew (grow name root)) where
  -- the map of a name, if it is one
  found_new : (path : List (List ℕ)) (element : Element) (name : List ℕ) (root : Option Whole)
      → IsNew (submap_found (grow name) path element name root)
  found_new path element name None = tt
  found_new path element name (Some root) = heads_by_test HasNoFilters (list_any (bytes_eq name) path)
      (fault_alone element faults.MapCycle name) (grow name root) tt (new name root)

  -- the map that a reference names
  named_new : (world : World) (path : List (List ℕ)) (element : Element) (href : List ℕ) (named : Named)
      → IsNew (submap_named grow world path element href named)
  named_new world path element href (Document name) = found_new path element name (map_in world name)
  named_new world path element href Elsewhere = tt
  named_new world path element href Unreadable = tt

  -- the map that an element includes
  submap_new : (world : World) (path : List (List ℕ)) (element : Element) → IsNew (submap_of grow world path element)
  submap_new world path element =
      let href = unwrap_or (attribute (codes "href") element) [] in
      named_new world path element href (named_of element href)

-- the whole map
pub included_new : (fuel : ℕ) (world : World) (path : List (List ℕ)) (level : ℕ) (root : Whole)
    → IsNew (map_included fuel world path level root)
unfolding map_included
included_new zero world path level root = tt
included_new (suc fuel) world path level root =
    let grow = λ (name : List ℕ). map_included fuel world (path ++ name ∷ []) (level + 1) in (
      refl,
      among_new (submap_of grow world path)
          (submap_new grow (λ name inner. included_new fuel world (path ++ name ∷ []) (level + 1) inner) world path)
          (record { level = level; in_table = false }) (root_place world root.0.doc + 1) root.1,
      tt,
    )
