-- What is known of names that were asked for: which map stands under each, if one does.
use Rattle.std.specs.Prelude.{◌≡◌, ◌<◌, ◌++◌, ℕ, List, [], ◌∷◌, Option, Some, None, length}
use Rattle.std.specs.BTreeMap.{get}
use Rattle.std.specs.Cmp.Lexicographic.{slice_cmp}
use Rattle.std.specs.Option.{option_and_then}
use Rattle.std.specs.Ordering.{nat_cmp}
use Rattle.dita_doc.specs.Tree.{tree_of}
use Rattle.dita_doc.specs.declared.doc.Node.{Node}
use Rattle.map_spec.specs.Included.{if_map, map_in}
use Rattle.map_spec.specs.Written.{Whole, first_place, first_sibling, written_in}
use Rattle.reader_spec.specs.World.{World}
use Rattle.readers.specs.Told.{Told, Agrees}
use Rattle.map_expand.specs.Homes.{Home, HomeFits, IsPlaced, home_at, homes, name_at, root_in}
use Rattle.map_expand.specs.Telling.{IsTold}
use Rattle.map_expand.specs.declared.maps.Maps.{Maps}

-- a map of this name
pub record IsNamed (homes : List Home) (name : List ℕ) (at : ℕ) : Type 0 where
  pub within : at < length homes
  pub named : name_at homes at ≡ name

-- this map stands under the name, and its root where the world has it
pub record IsMap (world : World) (homes : List Home) (name : List ℕ) (at : ℕ) : Type 0 where
  pub named : IsNamed homes name at
  pub root : Whole
  pub is : map_in world name ≡ Some root
  pub here : root_in (home_at homes at) ≡ Some root
  pub placed : IsPlaced world (home_at homes at)

-- what was found for a name is right
abbrev pub IsFound : World → List Home → List ℕ → Option ℕ → Type 0
IsFound world homes name None = map_in world name ≡ None
IsFound world homes name (Some at) = IsMap world homes name at

abbrev pub IsKnown : World → List Home → List ℕ → Option (Option ℕ) → Type 0
IsKnown world homes name None = Unit {0}
IsKnown world homes name (Some found) = IsFound world homes name found

-- all that is known is right in each world that agrees with what was told, and each map is known by its name
pub record MapsFit (told : List Told) (maps : Maps) : Type 0 where
  pub knows : (world : World) → Agrees world told → (name : List ℕ)
      → IsKnown world (homes maps.maps.items) name (get (slice_cmp nat_cmp) maps.known name)
  pub stored : (at : ℕ) → at < length (homes maps.maps.items)
      → get (slice_cmp nat_cmp) maps.known (name_at (homes maps.maps.items) at) ≡ Some (Some at)
  pub fits : (at : ℕ) → at < length (homes maps.maps.items) → HomeFits (home_at (homes maps.maps.items) at)
  pub names : (name : List ℕ) (at : ℕ) → get (slice_cmp nat_cmp) maps.known name ≡ Some (Some at)
      → IsNamed (homes maps.maps.items) name at
  pub tells : (at : ℕ) → at < length (homes maps.maps.items) → IsTold told (home_at (homes maps.maps.items) at)

-- Roots

-- the root that was looked for stands at this place of a document, behind as many texts
pub record IsRoot (name : List ℕ) (nodes : List Node) (wanted : Option Whole) (place : ℕ) : Type 0 where
  pub fits : HomeFits (record { name = name; nodes = nodes; root = place })
  pub here : root_in (record { name = name; nodes = nodes; root = place }) ≡ wanted
  pub behind : first_place (written_in name (tree_of nodes)) ≡ place

-- the root of a document under a name, and that of a map
abbrev pub root_wanted : List ℕ → List Node → Option Whole
root_wanted name nodes = first_sibling (written_in name (tree_of nodes))

abbrev pub map_wanted : List ℕ → List Node → Option Whole
map_wanted name nodes = option_and_then if_map (root_wanted name nodes)

-- the map of a document was put behind the others, if its root is one
abbrev pub IsPut : List ℕ → List Node → List Home → List Home → Option ℕ → Type 0
IsPut name nodes old new None = (map_wanted name nodes ≡ None) × (new ≡ old)
IsPut name nodes old new (Some at) = (at ≡ length old) × ((root : ℕ)
    × (new ≡ old ++ record { name = name; nodes = nodes; root = root } ∷ [])
    × IsRoot name nodes (map_wanted name nodes) root)

-- what was found for a name, if it was a new map, stands behind the others
abbrev pub IsAdded : List ℕ → List Home → List Home → Option ℕ → Type 0
IsAdded name old new None = new ≡ old
IsAdded name old new (Some at) = (at ≡ length old) × ((home : Home) × (new ≡ old ++ home ∷ [])
    × (home.name ≡ name) × HomeFits home)
