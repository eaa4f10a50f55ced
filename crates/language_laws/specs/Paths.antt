-- Paths (own): no map is included within itself, and no target is resolved within itself.
use Rattle.std.specs.Prelude.{◌≡◌, ◌≤◌, ℕ, Bool, true, false, List, [], ◌∷◌, ◌++◌, length, bytes_eq, if◌then◌else◌}
use Rattle.std.specs.List.{All, list_any}
use Rattle.map_spec.specs.Branches.{is_map_node}
use Rattle.map_spec.specs.MapTree.{MapTree, NoNodes, MapNode}
use Rattle.conref_spec.specs.Content.{Followed, Place, Range, is_place, path_limit}

-- the maps on the way to a node, and its own if it is the root of one
abbrev pub maps_to : MapTree → List (List ℕ) → List (List ℕ)
maps_to NoNodes around = around
maps_to (MapNode head below more) around = if is_map_node head.kind then head.doc ∷ around else around

abbrev pub is_around : MapTree → List (List ℕ) → Bool
is_around NoNodes around = false
is_around (MapNode head below more) around =
    if is_map_node head.kind then list_any (bytes_eq head.doc) around else false

-- no node is the root of a map that stands around it
abbrev pub HasNoCycle : List (List ℕ) → MapTree → Type 0
HasNoCycle around NoNodes = Unit {0}
HasNoCycle around (MapNode head below more) = (is_around (MapNode head below more) around ≡ false)
    × HasNoCycle (maps_to (MapNode head below more) around) below × HasNoCycle around more

-- a path of targets has no target twice, and no more than its limit
abbrev pub AreDistinct : List Place → Type 0
AreDistinct [] = Unit {0}
AreDistinct (place ∷ path) = (list_any (is_place place) path ≡ false) × AreDistinct path

pub record IsPath (path : List Place) : Type 0 where
  pub distinct : AreDistinct path
  pub short : length path ≤ path_limit

-- a path that goes on from another, by a target at least
abbrev pub GoesOn : List Place → List Place → Type 0
GoesOn path longer = (next : Place) × (more : List Place) × (longer ≡ path ++ next ∷ more)

-- a range is resolved within a path that goes on
abbrev pub IsRangeFrom : List Place → Range → Type 0
IsRangeFrom path range = IsPath range.path × GoesOn path range.path

-- the path goes on if something was taken, and else stays
abbrev pub GoesOnIf : Bool → List Place → List Place → Type 0
GoesOnIf true path longer = GoesOn path longer
GoesOnIf false path longer = longer ≡ path

-- where an element's reference leads, this and that of each range is a path that goes on from the given one, if anything was
-- taken; else it is the given one
pub record HasPaths (path : List Place) (found : Followed) : Type 0 where
  pub own : IsPath found.path
  pub on : GoesOnIf found.has_taken path found.path
  pub ranges : All (IsRangeFrom path) found.ranges
