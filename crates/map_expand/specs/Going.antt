-- How the walk over a map goes on: what was made, with what is left, stays the same.
use Rattle.std.specs.Prelude.{◌≡◌, ◌<◌, ◌≤◌, ℕ, false, List, [], ◌∷◌, Result, Ok, Err, length, bytes_eq}
use Rattle.std.specs.List.{list_any}
use Rattle.dita_doc.specs.declared.plan.PlanStop.{PlanStop}
use Rattle.dita_doc.specs.declared.plan.PlanStop.TheVariants as stops
use Rattle.dita_doc.specs.declared.stop.Stop.{Stop}
use Rattle.dita_doc.specs.declared.stop.Stop.TheVariants.{Fault, NoMemory}
use Rattle.map_spec.specs.Included.{map_node_limit}
use Rattle.reader_spec.specs.World.{World}
use Rattle.readers.specs.Founded as founded
use Rattle.readers.specs.Told.{Told}
use Rattle.map_expand.specs.AskedFor.{AreAsked}
use Rattle.map_expand.specs.Homes.{Home, flag_at, homes, name_at}
use Rattle.map_expand.specs.Known.{MapsFit}
use Rattle.map_expand.specs.Making.{AllFit, MadeNodes, after, made_of, path_of}
use Rattle.map_expand.specs.declared.expansion.Expansion.{Expansion}
use Rattle.map_expand.specs.declared.maps.Maps.{Maps}

-- no two of the names are alike
abbrev pub AreApart : List (List ℕ) → Type 0
AreApart [] = Unit {0}
AreApart (name ∷ names) = (list_any (bytes_eq name) names ≡ false) × AreApart names

abbrev pub homes_of : Maps → List Home
homes_of maps = homes maps.maps.items

-- The work that is left can be done, the maps that stand around it are marked, and the documents of the nodes were
-- asked for
pub record Ready (told : List Told) (maps : Maps) (x : Expansion) : Type 0 where
  pub maps_fit : MapsFit told maps
  pub work : AllFit (homes_of maps) (length x.nodes) x.left.items
  pub around : (at : ℕ) → at < length (homes_of maps) → flag_at maps.maps.items at
      ≡ list_any (bytes_eq (name_at (homes_of maps) at)) (path_of (homes_of maps) x.left.items)
  pub apart : AreApart (path_of (homes_of maps) x.left.items)
  pub asked : AreAsked told (founded.homes x.nodes)

abbrev pub path_at : Maps → Expansion → List (List ℕ)
path_at maps x = path_of (homes_of maps) x.left.items

-- what was made so far
abbrev pub so_far : Expansion → MadeNodes
so_far x = made_of x.nodes x.faults

-- what there is in the end, if this is made next
abbrev pub rest : World → Maps → Expansion → MadeNodes → MadeNodes
rest world maps x made = after world (homes_of maps) [] x.left.items made

-- a stop that is told only where there is too much
abbrev pub IsOver : Stop PlanStop → MadeNodes → Type 0
IsOver (Fault stop) all = (stop ≡ stops.TooManyNodes) × (map_node_limit < length all.nodes)
IsOver NoMemory all = Unit {0}

-- what there is in the end is this, or is too much
abbrev pub Goes : {A : Type 0} → World → Result A (Stop PlanStop) → Maps → Expansion → MadeNodes → Type 0
Goes world (Ok value) maps x all = rest world maps x (so_far x) ≡ all
Goes world (Err stop) maps x all = IsOver stop all

-- there is no room for a node
abbrev pub HasNoRoom : Stop PlanStop → ℕ → Type 0
HasNoRoom (Fault stop) count = (stop ≡ stops.TooManyNodes) × (map_node_limit ≤ count)
HasNoRoom NoMemory count = Unit {0}
