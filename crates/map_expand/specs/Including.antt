-- The submap of an element at a level, by what its href names.
use Rattle.std.specs.Prelude.{◌+◌, ◌-◌, ◌++◌, ℕ, List, [], ◌∷◌, Option}
use Rattle.reader_spec.specs.World.{World}
use Rattle.map_spec.specs.Included.{map_included, map_node_limit, submap_found, submap_named}
use Rattle.map_spec.specs.MapTree.{Grown}
use Rattle.map_spec.specs.Target.{Named}
use Rattle.map_spec.specs.Written.{Element, Whole}

abbrev pub grow_at : World → List (List ℕ) → ℕ → List ℕ → Whole → Grown
grow_at world path level name root = map_included (map_node_limit - level) world (path ++ name ∷ []) (level + 1) root

abbrev pub submap_for : World → List (List ℕ) → ℕ → Element → List ℕ → Named → Grown
submap_for world path level element href named = submap_named (grow_at world path level) world path element href named

-- where this map stands under a name, if one does
abbrev pub submap_under : World → List (List ℕ) → ℕ → Element → List ℕ → Option Whole → Grown
submap_under world path level element name root = submap_found (grow_at world path level name) path element name root
