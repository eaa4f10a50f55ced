-- More steps than a map's nodes take change nothing: each map that is included has a node at least.
use Rattle.std.specs.Prelude.{◌≡◌, ◌≤◌, ◌<◌, ◌+◌, ◌++◌, ℕ, zero, suc, Bool, true, false, List, [], ◌∷◌, Option, Some, None, bytes_eq, nat_le, unwrap_or, codes, if◌then◌else◌}
use Rattle.std.specs.List.{list_any}
use Rattle.std.proofs.Common.{refl, sym, ap, ap₂, arith}
use Rattle.std.proofs.lemmas.Bool.{leb-true}
use Rattle.dita_doc.specs.declared.fault.FaultCode.TheVariants as faults
use Rattle.dita_doc.specs.declared.plan.PlanKind.{PlanKind}
use Rattle.dita_doc.specs.declared.plan.PlanKind.TheVariants as kinds
use Rattle.reader_spec.specs.World.{World}
use Rattle.map_spec.specs.Elements.{attribute, class_faults, is_transparent}
use Rattle.map_spec.specs.Included.{MapAround, around_below, fault_alone, ignored_references, includes_map, kind_of, limited, map_in, map_included, new_head, nodes_among, nodes_by, nodes_of_element, root_place, submap_found, submap_named, submap_of}
use Rattle.map_spec.specs.MapTree.{Grown, MapTree, NoNodes, MapNode, beneath, beside, count, trees_beside, with_faults}
use Rattle.map_spec.specs.Target.{Named, Document, Elsewhere, Unreadable, named_of}
use Rattle.map_spec.specs.Written.{Element, Whole, Written, End, Chars, Node, size}
use Rattle.language_laws.specs.Steps.{IncludedIsWhole}

-- trees side by side have the nodes of both
count_beside : (first second : MapTree) → count (trees_beside first second) ≡ count first + count second
count_beside NoNodes second = omega arith
count_beside (MapNode head below more) second = omega (arith, count_beside more second)

-- of two choices with fewer nodes than a limit, the one that counts is made alike
choice_same : (limit : ℕ) (test : Bool) (x y z w : Grown) → count (if test then x else y).tree < limit
    → (count x.tree < limit → x ≡ z) → (count y.tree < limit → y ≡ w)
    → (if test then x else y) ≡ (if test then z else w)
choice_same limit true x y z w few first second = first few
choice_same limit false x y z w few first second = second few

-- The nodes of a map, where submaps of fewer nodes than a limit are made alike

module _ (limit : ℕ) (submap other : Element → Grown)
    (same : (element : Element) → count (submap element).tree < limit → submap element ≡ other element) where
  -- the node that an element makes
  kind_same : (kind : Option PlanKind) (around : MapAround) (place : ℕ) (element : Element)
      (below below_too : MapAround → Grown)
      → ((inner : MapAround) → count (below inner).tree < limit → below inner ≡ below_too inner)
      → count (nodes_by submap kind around place element below).tree < limit
      → nodes_by submap kind around place element below ≡ nodes_by other kind around place element below_too
  kind_same None around place element below below_too below_same few = refl
  kind_same (Some kind) around place element below below_too below_same few =
      let inner = around_below kind around in
      let included = new_head kinds.Included element around.level place in
      let own = new_head kind element around.level place in
      ap (with_faults (ignored_references element)) (choice_same limit (includes_map kind around element)
      (beneath included (beside (submap element) (below inner))) (beneath own (below inner))
      (beneath included (beside (other element) (below_too inner))) (beneath own (below_too inner)) few
      (λ less. let both = count_beside (submap element).tree (below inner).tree in
      ap₂ (λ first second. beneath included (beside first second)) (same element (omega arith))
      (below_same inner (omega arith)))
      (λ less. ap (beneath own) (below_same inner (omega arith))))

  -- what stands for an element, be it transparent, passed over or a node
  element_same : (around : MapAround) (place : ℕ) (element : Element) (below below_too : MapAround → Grown)
      → ((inner : MapAround) → count (below inner).tree < limit → below inner ≡ below_too inner)
      → count (nodes_of_element submap around place element below).tree < limit
      → nodes_of_element submap around place element below ≡ nodes_of_element other around place element below_too
  element_same around place element below below_too below_same few =
      choice_same limit (is_transparent element) (with_faults (class_faults element) (below around)) _
      (with_faults (class_faults element) (below_too around)) _ few
      (λ less. ap (with_faults (class_faults element)) (below_same around less))
      (kind_same (kind_of element) around place element below below_too below_same)

  -- what stands for all of a map's content
  among_same : (around : MapAround) (place : ℕ) (nodes : Written)
      → count (nodes_among submap around place nodes).tree < limit
      → nodes_among submap around place nodes ≡ nodes_among other around place nodes
  among_same around place End few = refl
  among_same around place (Chars text doc rest) few = among_same around (place + 1) rest few
  among_same around place (Node element inside rest) few =
      let below : MapAround → Grown = λ inner. nodes_among submap inner (place + 1) inside in
      let first = nodes_of_element submap around place element below in
      let more = nodes_among submap around (place + 1 + size inside) rest in
      let both = count_beside first.tree more.tree in
      ap₂ beside
      (element_same around place element below _ (λ inner. among_same inner (place + 1) inside) (omega arith))
      (among_same around (place + 1 + size inside) rest (omega arith))

-- Submaps

-- What stands for a reference, where maps of fewer nodes than the limit are made alike
module _ (limit : ℕ) (world : World) (path : List (List ℕ)) (grow other : List ℕ → Whole → Grown)
    (same : (name : List ℕ) (root : Whole) → count (grow name root).tree < limit
    → grow name root ≡ other name root) where
  -- to a name, under which a map may stand
  found_same : (element : Element) (name : List ℕ) (found : Option Whole)
      → count (submap_found (grow name) path element name found).tree < limit
      → submap_found (grow name) path element name found ≡ submap_found (other name) path element name found
  found_same element name None few = refl
  found_same element name (Some root) few =
      choice_same limit (list_any (bytes_eq name) path) (fault_alone element faults.MapCycle name) (grow name root) _ _
      few (λ less. refl) (same name root)

  -- to whatever it names
  named_same : (element : Element) (href : List ℕ) (named : Named)
      → count (submap_named grow world path element href named).tree < limit
      → submap_named grow world path element href named ≡ submap_named other world path element href named
  named_same element href (Document name) few = found_same element name (map_in world name) few
  named_same element href Elsewhere few = refl
  named_same element href Unreadable few = refl

  -- of an element
  submap_same : (element : Element) → count (submap_of grow world path element).tree < limit
      → submap_of grow world path element ≡ submap_of other world path element
  submap_same element few =
      let href = unwrap_or (attribute (codes "href") element) [] in named_same element href (named_of element href) few

-- a map of fewer nodes than a limit is made alike by any two numbers of steps from the limit on
map_same : (limit n m : ℕ) (world : World) (path : List (List ℕ)) (level : ℕ) (root : Whole) → limit ≤ n → limit ≤ m
    → count (map_included n world path level root).tree < limit
    → map_included n world path level root ≡ map_included m world path level root
unfolding map_included
map_same zero n m world path level root first second few = absurd (omega arith)
map_same (suc limit) zero m world path level root first second few = absurd (omega arith)
map_same (suc limit) (suc n) zero world path level root first second few = absurd (omega arith)
map_same (suc limit) (suc n) (suc m) world path level root first second few =
    let grow = λ (name : List ℕ). map_included n world (path ++ name ∷ []) (level + 1) in
    let other = λ (name : List ℕ). map_included m world (path ++ name ∷ []) (level + 1) in
    let place = root_place world root.0.doc in
    ap (λ nodes. with_faults (ignored_references root.0) (beneath (new_head kinds.Map root.0 level place) nodes))
    (among_same limit (submap_of grow world path) (submap_of other world path)
    (submap_same limit world path grow other (λ name inner less.
    map_same limit n m world (path ++ name ∷ []) (level + 1) inner (omega arith) (omega arith) less))
    (record { level = level; in_table = false }) (place + 1) root.1 (omega arith))

-- two things are alike within a limit if each is the other where it counts no more than that
limited_same : (limit : ℕ) (some other : Grown) (within within_too : Bool) → nat_le (count some.tree) limit ≡ within
    → nat_le (count other.tree) limit ≡ within_too → (count some.tree < limit + 1 → some ≡ other)
    → (count other.tree < limit + 1 → other ≡ some) → limited limit some ≡ limited limit other
limited_same limit some other true test e e_too same back =
    ap (limited limit) (same (omega (arith, leb-true (count some.tree) limit e)))
limited_same limit some other false true e e_too same back =
    ap (limited limit) (sym (back (omega (arith, leb-true (count other.tree) limit e_too))))
limited_same limit some other false false e e_too same back = rw (e, e_too) refl

-- a map within the limit has as many steps as it takes
pub included_is_whole : IncludedIsWhole
included_is_whole limit more world path level root =
    limited_same limit (map_included (limit + 1 + more) world path level root)
    (map_included (limit + 1) world path level root) _ _ refl refl
    (map_same (limit + 1) (limit + 1 + more) (limit + 1) world path level root (omega arith) (omega arith))
    (map_same (limit + 1) (limit + 1) (limit + 1 + more) world path level root (omega arith) (omega arith))
