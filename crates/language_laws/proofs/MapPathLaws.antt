-- No map is included within itself: a map's name is on the path of all that it includes.
use Rattle.std.specs.Prelude.{◌≡◌, ◌+◌, ◌++◌, ℕ, zero, suc, Bool, true, false, List, [], ◌∷◌, Option, Some, None, Result, Ok, Err, IfOk, IfSome, nat_le, codes, unwrap_or, bytes_eq, if◌then◌else◌}
use Rattle.std.specs.List.{list_any}
use Rattle.std.specs.Option.{option_and_then, option_map}
use Rattle.std.proofs.Common.{refl, sym, subst, ◌∙◌}
use Rattle.std.proofs.lemmas.Bool.{cond_both, cond-false, or_from, or_parts}
use Rattle.std.proofs.lemmas.List.Folds.{list_any-append}
use Rattle.dita_doc.specs.Tree as tree
use Rattle.dita_doc.specs.Tree.{Content}
use Rattle.dita_doc.specs.declared.plan.PlanKind.{PlanKind}
use Rattle.dita_doc.specs.declared.plan.PlanKind.TheVariants as kinds
use Rattle.dita_doc.specs.declared.plan.PlanStop.{PlanStop}
use Rattle.dita_doc.specs.declared.plan.PlanStop.TheVariants as stops
use Rattle.reader_spec.specs.World.{World}
use Rattle.map_spec.specs.Branches.{is_map_node}
use Rattle.map_spec.specs.Elements.{attribute, is_a, is_transparent}
use Rattle.map_spec.specs.Included.{MapAround, if_map, included, included_from, includes_map, is_map, kind_of, limited, map_in, map_included, new_head, nodes_among, nodes_by, nodes_of_element, root_in, root_place, submap_found, submap_named, submap_of}
use Rattle.map_spec.specs.MapTree.{Grown, Head, MapTree, NoNodes, MapNode, count, trees_beside}
use Rattle.map_spec.specs.Target.{Named, Document, Elsewhere, Unreadable, named_of}
use Rattle.map_spec.specs.Written.{Element, Whole, Written, End, Chars, Node, first_sibling, size, written_in}
use Rattle.language_laws.specs.Paths.{HasNoCycle}

-- The root of a document says the name under which the document stands

-- so does the first element of any content
first_written : (name : List ℕ) (content : Content)
    → IfSome (first_sibling (written_in name content)) (λ root. root.0.doc ≡ name)
first_written name tree.End = tt
first_written name (tree.Chars text origin line rest) = first_written name rest
first_written name (tree.Element element attributes origin line inside rest) = refl

-- so does that of a document that may be there
first_stored : (name : List ℕ) (content : Option Content)
    → IfSome (option_and_then first_sibling (option_map (written_in name) content)) (λ root. root.0.doc ≡ name)
first_stored name None = tt
first_stored name (Some content) = first_written name content

-- so does a root that may be a map's
first_of_map : (name : List ℕ) (found : Option Whole) → IfSome found (λ root. root.0.doc ≡ name)
    → IfSome (option_and_then if_map found) (λ root. root.0.doc ≡ name)
first_of_map name None named = tt
first_of_map name (Some root) named = cond_both (is_map root) (Some root) None
    (λ (found : Option Whole). IfSome found (λ other. other.0.doc ≡ name)) (λ e. named) (λ e. tt)

-- the root that stands under a name
root_named : (world : World) (name : List ℕ) → IfSome (root_in world name) (λ root. root.0.doc ≡ name)
root_named world name = first_stored name (world name)

-- the map that stands under a name
map_named : (world : World) (name : List ℕ) → IfSome (map_in world name) (λ root. root.0.doc ≡ name)
map_named world name = first_of_map name (root_in world name) (root_named world name)

-- Trees

-- no cycle is in trees side by side if none is in either
beside_fits : (around : List (List ℕ)) (first second : MapTree) → HasNoCycle around first → HasNoCycle around second
    → HasNoCycle around (trees_beside first second)
beside_fits around NoNodes second fits too = too
beside_fits around (MapNode head below more) second fits too =
    (fits.0, fits.1, beside_fits around more second fits.2 too)

-- a node that is no map's root
other_node : (around : List (List ℕ)) (head : Head) (below : MapTree) → is_map_node head.kind ≡ false
    → HasNoCycle around below → HasNoCycle around (MapNode head below NoNodes)
other_node around head below other fits = (
  cond-false (is_map_node head.kind) _ false other,
  subst (λ test. HasNoCycle (if test then head.doc ∷ around else around) below) (sym other) fits,
  tt,
)

-- none of the kinds of elements within a map is that of a map's root
never_map : (a b c d e : Bool) → IfSome (if a then Some kinds.DitavalRef else if b then Some kinds.Reference
    else if c then Some kinds.RelTable else if d then Some kinds.RelRow else if e then Some kinds.RelCell else None)
    (λ kind. is_map_node kind ≡ false)
never_map true b c d e = refl
never_map false true c d e = refl
never_map false false true d e = refl
never_map false false false true e = refl
never_map false false false false true = refl
never_map false false false false false = tt

-- no element within a map makes the node of a map's root
kind_no_map : (element : Element) → IfSome (kind_of element) (λ kind. is_map_node kind ≡ false)
kind_no_map element =
    never_map (is_a (codes "ditavalref-d/ditavalref") element) (is_a (codes "map/topicref") element)
    (is_a (codes "map/reltable") element) (is_a (codes "map/relrow") element) (is_a (codes "map/relcell") element)

-- The nodes of a map, where those of its submaps fit

module _ (submap : Element → Grown) (names : List (List ℕ))
    (fits : (element : Element) → HasNoCycle names (submap element).tree) where
  -- the node that an element makes
  kind_fits : (kind : Option PlanKind) (around : MapAround) (place : ℕ) (element : Element) (below : MapAround → Grown)
      → IfSome kind (λ made. is_map_node made ≡ false) → ((inner : MapAround) → HasNoCycle names (below inner).tree)
      → HasNoCycle names (nodes_by submap kind around place element below).tree
  kind_fits None around place element below no_map below_fits = tt
  kind_fits (Some kind) around place element below no_map below_fits =
      cond_both (includes_map kind around element) _ _ (λ (grown : Grown). HasNoCycle names grown.tree)
      (λ e. other_node names (new_head kinds.Included element around.level place) _ refl
      (beside_fits names _ _ (fits element) (below_fits _)))
      (λ e. other_node names (new_head kind element around.level place) _ no_map (below_fits _))

  -- what stands for an element, be it transparent, passed over or a node
  element_fits : (around : MapAround) (place : ℕ) (element : Element) (below : MapAround → Grown)
      → ((inner : MapAround) → HasNoCycle names (below inner).tree)
      → HasNoCycle names (nodes_of_element submap around place element below).tree
  element_fits around place element below below_fits =
      cond_both (is_transparent element) _ _ (λ (grown : Grown). HasNoCycle names grown.tree)
      (λ e. below_fits around)
      (λ e. kind_fits (kind_of element) around place element below (kind_no_map element) below_fits)

  -- what stands for all of a map's content
  among_fits : (around : MapAround) (place : ℕ) (nodes : Written)
      → HasNoCycle names (nodes_among submap around place nodes).tree
  among_fits around place End = tt
  among_fits around place (Chars text doc rest) = among_fits around (place + 1) rest
  among_fits around place (Node element inside rest) =
      let below : MapAround → Grown = λ inner. nodes_among submap inner (place + 1) inside in
      beside_fits names _ _ (element_fits around place element below (λ inner. among_fits inner (place + 1) inside))
      (among_fits around (place + 1 + size inside) rest)

-- Submaps

-- the names around stand on the path
abbrev Covers : List (List ℕ) → List (List ℕ) → Type 0
Covers path names = (name : List ℕ) → list_any (bytes_eq name) path ≡ false → list_any (bytes_eq name) names ≡ false

-- they still do with one map more
covers_more : (path names : List (List ℕ)) (name doc : List ℕ) → doc ≡ name → Covers path names
    → Covers (path ++ name ∷ []) (doc ∷ names)
covers_more path names name doc same covers other absent =
    let parts = or_parts (list_any (bytes_eq other) path) (list_any (bytes_eq other) (name ∷ []))
    (sym (list_any-append (bytes_eq other) path (name ∷ [])) ∙ absent) in
    or_from (bytes_eq other doc) (list_any (bytes_eq other) names)
    (subst (λ text. bytes_eq other text ≡ false) (sym same) (or_parts (bytes_eq other name) false parts.1).0)
    (covers other parts.0)

-- What stands for a reference, where the maps of names that are not on the path fit
module _ (world : World) (path names : List (List ℕ)) (grow : List ℕ → Whole → Grown) (covers : Covers path names)
    (fits : (name : List ℕ) (root : Whole) → root.0.doc ≡ name → list_any (bytes_eq name) path ≡ false
    → HasNoCycle names (grow name root).tree) where
  -- to a name, under which a map may stand
  found_fits : (element : Element) (name : List ℕ) (found : Option Whole)
      → IfSome found (λ root. root.0.doc ≡ name)
      → HasNoCycle names (submap_found (grow name) path element name found).tree
  found_fits element name None named = tt
  found_fits element name (Some root) named =
      cond_both (list_any (bytes_eq name) path) _ _ (λ (grown : Grown). HasNoCycle names grown.tree) (λ e. tt)
      (fits name root named)

  -- to whatever it names
  named_fits : (element : Element) (href : List ℕ) (named : Named)
      → HasNoCycle names (submap_named grow world path element href named).tree
  named_fits element href (Document name) = found_fits element name (map_in world name) (map_named world name)
  named_fits element href Elsewhere = tt
  named_fits element href Unreadable = tt

  -- of an element
  submap_fits : (element : Element) → HasNoCycle names (submap_of grow world path element).tree
  submap_fits element =
      let href = unwrap_or (attribute (codes "href") element) [] in named_fits element href (named_of element href)

-- the nodes of a map have no cycle, if its name is not around it and its path has all names around its content
map_fits : (fuel : ℕ) (world : World) (path names : List (List ℕ)) (level : ℕ) (root : Whole)
    → list_any (bytes_eq root.0.doc) names ≡ false → Covers path (root.0.doc ∷ names)
    → HasNoCycle names (map_included fuel world path level root).tree
unfolding map_included
map_fits zero world path names level root absent covers = tt
map_fits (suc fuel) world path names level root absent covers = (
  absent,
  among_fits _ (root.0.doc ∷ names) (submap_fits world path (root.0.doc ∷ names)
      (λ name. map_included fuel world (path ++ name ∷ []) (level + 1)) covers
      (λ name inner same not_on. map_fits fuel world (path ++ name ∷ []) (root.0.doc ∷ names) (level + 1) inner
      (covers inner.0.doc (subst (λ doc. list_any (bytes_eq doc) path ≡ false) (sym same) not_on))
      (covers_more path (root.0.doc ∷ names) name inner.0.doc same covers)))
      (record { level = level; in_table = false }) (root_place world root.0.doc + 1) root.1,
  tt,
)

-- The whole

-- the nodes of a map have no cycle, where there is a map and it is not too large
from_fits : (limit : ℕ) (world : World) (map : List ℕ) (found : Option Whole)
    → IfSome found (λ root. root.0.doc ≡ map)
    → IfOk (included_from limit world map found) (λ grown. HasNoCycle [] grown.tree)
from_fits limit world map None named = tt
from_fits limit world map (Some root) named =
    let Fits : Result Grown PlanStop → Type 0 = λ result. IfOk result (λ grown. HasNoCycle [] grown.tree) in
    let made = map_included (limit + 1) world (map ∷ []) 0 root in
    let covers : Covers (map ∷ []) (root.0.doc ∷ []) =
    λ name absent. subst (λ doc. list_any (bytes_eq name) (doc ∷ []) ≡ false) (sym named) absent in
    cond_both (is_map root) (limited limit made) (Err stops.NotMap) Fits
    (λ e. cond_both (nat_le (count made.tree) limit) (Ok made) (Err stops.TooManyNodes) Fits
    (λ few. map_fits (limit + 1) world (map ∷ []) [] 0 root refl covers) (λ many. tt)) (λ e. tt)

-- what is included has no map within itself
pub included_fits : (limit : ℕ) (world : World) (map : List ℕ) (grown : Grown) → included limit world map ≡ Ok grown
    → HasNoCycle [] grown.tree
included_fits limit world map grown e =
    subst (λ (result : Result Grown PlanStop). IfOk result (λ whole. HasNoCycle [] whole.tree)) e
    (from_fits limit world map (root_in world map) (root_named world map))
