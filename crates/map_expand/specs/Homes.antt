-- The maps that were asked for, as the walk over them sees them.
use Rattle.std.specs.Prelude.{◌≡◌, ◌+◌, ◌-◌, ◌<◌, ◌≤◌, ℕ, Bool, false, List, [], ◌++◌, Option, Some, None, length, map, get_or, take, drop, slice_get}
use Rattle.std.specs.Arc.{arc_value}
use Rattle.dita_doc.specs.Tree.{ArePreorder, content_of}
use Rattle.dita_doc.specs.declared.doc.Node.{Node}
use Rattle.map_spec.specs.Included.{root_place}
use Rattle.map_spec.specs.Written.{Whole, Written, written_in}
use Rattle.reader_spec.specs.World.{World}
use Rattle.doc_elements.specs.Walk.{element_of}
use Rattle.map_expand.specs.declared.maps.MapDoc.{MapDoc}
use Rattle.map_expand.specs.declared.work.Walk.{Walk}

-- a map: its name, the nodes of its document, and where its root stands among them
pub record Home : Type 0 where
  pub name : List ℕ
  pub nodes : List Node
  pub root : ℕ

abbrev pub home_of : MapDoc → Home
home_of map = record { name = map.name; nodes = (arc_value map.doc).nodes; root = map.root }

abbrev pub homes : List MapDoc → List Home
homes maps = map home_of maps

abbrev pub no_home : Home
no_home = record { name = []; nodes = []; root = 0 }

abbrev pub home_at : List Home → ℕ → Home
home_at homes at = get_or homes at no_home

abbrev pub name_at : List Home → ℕ → List ℕ
name_at homes at = (home_at homes at).name

-- nodes that stand side by side in a map, from one place to another; places are counted from the document's first node
abbrev pub nodes_between : Home → ℕ → ℕ → List Node
nodes_between home place end = take (end - place) (drop place home.nodes)

abbrev pub content_between : Home → ℕ → ℕ → Written
content_between home place end =
    written_in home.name (content_of (nodes_between home place end) place)

-- the nodes between these places are those of siblings
pub record AreSiblings (home : Home) (place end : ℕ) : Type 0 where
  pub order : place ≤ end
  pub within : end ≤ length home.nodes
  pub tree : ArePreorder (nodes_between home place end) place

-- the root stands there, and what it holds stands behind it
pub record HomeFits (home : Home) : Type 0 where
  pub node : Node
  pub here : slice_get home.nodes home.root ≡ Some node
  pub after : home.root < node.end
  pub inside : AreSiblings home (home.root + 1) node.end

abbrev pub whole_by : Home → Option Node → Option Whole
whole_by home None = None
whole_by home (Some node) =
    Some (element_of home.name node, content_between home (home.root + 1) node.end)

-- the root of a map, with what it holds
abbrev pub root_in : Home → Option Whole
root_in home = whole_by home (slice_get home.nodes home.root)

-- in this world, the root of the document under the map's name stands where that of the map does
abbrev pub IsPlaced : World → Home → Type 0
IsPlaced world home = root_place world home.name ≡ home.root

-- Which maps stand around what is walked over

abbrev pub flags : List MapDoc → List Bool
flags maps = map (λ (map : MapDoc). map.is_around) maps

abbrev pub flag_at : List MapDoc → ℕ → Bool
flag_at maps at = get_or (flags maps) at false

-- more maps behind those that were there
pub record Extends (old new : List Home) : Type 0 where
  pub more : List Home
  pub is : new ≡ old ++ more

-- the node at the begin of a walk, in the document of this name
pub record IsFirst (home : Home) (walk : Walk) (name : List ℕ) (node : Node) : Type 0 where
  pub named : name ≡ home.name
  pub here : slice_get home.nodes walk.place ≡ Some node

abbrev pub IsNodeOf : Home → Walk → Node → Type 0
IsNodeOf home walk node = slice_get home.nodes walk.place ≡ Some node
