-- The nodes of a map with its submaps are those of its root, within a limit.
use Rattle.std.specs.Prelude.{◌≡◌, ◌+◌, ℕ, Bool, true, false, List, [], ◌∷◌, Option, Some, None, Ok, Err, nat_le, if◌then◌else◌}
use Rattle.std.specs.Option.{option_and_then}
use Rattle.std.proofs.Common.{refl, ap, subst}
use Rattle.dita_doc.specs.declared.plan.PlanStop.TheVariants as stops
use Rattle.map_spec.specs.Included.{if_map, included, included_from, is_map, limited, map_in, map_included, root_in}
use Rattle.map_spec.specs.MapTree.{Grown, count}
use Rattle.map_spec.specs.Written.{Whole}
use Rattle.reader_spec.specs.World.{World}

-- a result within a limit is what was limited
pub within : (limit : ℕ) (grown made : Grown) → limited limit grown ≡ Ok made → grown ≡ made
within limit grown made is = by_test (nat_le (count grown.tree) limit) is
  where
    by_test : (test : Bool) → (if test then Ok grown else Err stops.TooManyNodes) ≡ Ok made → grown ≡ made
    by_test true same = cc
    by_test false same = cc

-- what is included is what a map's root makes
pub record IsMade (limit : ℕ) (world : World) (map : List ℕ) (grown : Grown) : Type 0 where
  pub root : Whole
  pub there : root_in world map ≡ Some root
  pub a_map : is_map root ≡ true
  pub is : map_included (limit + 1) world (map ∷ []) 0 root ≡ grown

made_by : (limit : ℕ) (world : World) (map : List ℕ) (grown : Grown) (root : Whole) (test : Bool) → is_map root ≡ test
    → root_in world map ≡ Some root
    → (if test then limited limit (map_included (limit + 1) world (map ∷ []) 0 root) else Err stops.NotMap) ≡ Ok grown
    → IsMade limit world map grown
made_by limit world map grown root true is there made =
    record { root = root; there = there; a_map = is; is = within limit _ grown made }
made_by limit world map grown root false is there made = cc

made_from : (limit : ℕ) (world : World) (map : List ℕ) (grown : Grown) (found : Option Whole)
    → root_in world map ≡ found → included_from limit world map found ≡ Ok grown → IsMade limit world map grown
made_from limit world map grown None there made = cc
made_from limit world map grown (Some root) there made = made_by limit world map grown root (is_map root) refl there made

pub included_made : (limit : ℕ) (world : World) (map : List ℕ) (grown : Grown) → included limit world map ≡ Ok grown
    → IsMade limit world map grown
included_made limit world map grown made = made_from limit world map grown (root_in world map) refl made

-- a map that stands under a name is a root, and a map
map_by : (root found : Whole) (test : Bool) → is_map found ≡ test → (if test then Some found else None) ≡ Some root
    → (found ≡ root) × (is_map found ≡ true)
map_by root found true is same = (cc, is)
map_by root found false is same = cc

map_from : (root : Whole) (found : Option Whole) → option_and_then if_map found ≡ Some root
    → (found ≡ Some root) × (is_map root ≡ true)
map_from root None is = cc
map_from root (Some whole) is =
    let both = map_by root whole (is_map whole) refl is in
    let same : whole ≡ root = both.0 in
    (ap Some same, subst (λ w. is_map w ≡ true) same both.1)

pub map_of : (world : World) (name : List ℕ) (root : Whole) → map_in world name ≡ Some root
    → (root_in world name ≡ Some root) × (is_map root ≡ true)
map_of world name root is = map_from root (root_in world name) is
