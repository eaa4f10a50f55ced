-- What the work that is left of the walk over a map still makes, behind what was made before.
use Rattle.std.specs.Prelude.{◌≡◌, ◌+◌, ◌-◌, ◌<◌, ℕ, false, List, [], ◌∷◌, ◌++◌, Some, length, map, slice_get}
use Rattle.dita_doc.specs.declared.doc.Node as doc
use Rattle.dita_doc.specs.declared.fault.Fault.{Fault}
use Rattle.dita_doc.specs.declared.plan.PlanKind.{PlanKind}
use Rattle.dita_doc.specs.declared.plan.PlanNode.{PlanNode}
use Rattle.doc_elements.specs.Walk.{element_of}
use Rattle.map_spec.specs.Elements.{class_faults}
use Rattle.map_spec.specs.Included.{MapAround, around_below, map_included, map_node_limit, map_node_made, nodes_among, nodes_of_element, submap_of}
use Rattle.map_spec.specs.MapTree.{Grown, beside, nodes_below, with_faults}
use Rattle.map_spec.specs.Written.{Element, Whole, Written}
use Rattle.plan_nodes.specs.Preorder.{without_end}
use Rattle.reader_spec.specs.World.{World}
use Rattle.map_expand.specs.Homes.{AreSiblings, Home, content_between, home_at, name_at, root_in}
use Rattle.map_expand.specs.declared.element.Makes.TheVariants as makes
use Rattle.map_expand.specs.declared.work.Walk.{Walk}
use Rattle.map_expand.specs.declared.work.Work.{Work}
use Rattle.map_expand.specs.declared.work.Work.TheVariants as works

-- What was made: nodes, whose ends are not known yet, and faults

pub record MadeNodes : Type 0 where
  pub nodes : List PlanNode
  pub faults : List Fault

abbrev pub without_ends : List PlanNode → List PlanNode
without_ends nodes = map without_end nodes

abbrev pub made_of : List PlanNode → List Fault → MadeNodes
made_of nodes faults = record { nodes = without_ends nodes; faults = faults }

-- a tree behind what was made, below the node at this place
abbrev pub put : ℕ → Grown → MadeNodes → MadeNodes
put parent grown made = record {
  nodes = made.nodes ++ without_ends (nodes_below parent (length made.nodes) grown.tree);
  faults = made.faults ++ grown.faults;
}

abbrev pub put_faults : List Fault → MadeNodes → MadeNodes
put_faults faults made = record { nodes = made.nodes; faults = made.faults ++ faults }

-- What a walk makes

-- a map at this level, with all maps that it includes
abbrev pub whole_map : World → List (List ℕ) → ℕ → Whole → Grown
whole_map world path level root = map_included (map_node_limit + 1 - level) world path level root

-- the submap of an element at this level
abbrev pub submap_at : World → List (List ℕ) → ℕ → Element → Grown
submap_at world path level element =
    submap_of (λ name. map_included (map_node_limit - level) world (path ++ name ∷ []) (level + 1)) world path element

abbrev pub around_of : Walk → MapAround
around_of walk = record { level = walk.level; in_table = walk.in_table }

abbrev pub among : World → List (List ℕ) → Walk → MapAround → ℕ → Written → Grown
among world path walk around place nodes = nodes_among (submap_at world path walk.level) around place nodes

abbrev pub grown_of : World → List (List ℕ) → Home → Walk → Grown
grown_of world path home walk =
    among world path walk (around_of walk) walk.place (content_between home walk.place walk.end)

-- what the element at the begin of a walk makes, which ends there
abbrev pub element_grown : World → List (List ℕ) → Home → Walk → Element → ℕ → Grown
element_grown world path home walk element end =
    nodes_of_element (submap_at world path walk.level) (around_of walk) walk.place element
    (λ around. among world path walk around (walk.place + 1) (content_between home (walk.place + 1) end))

-- the node of that element
abbrev pub node_grown : World → List (List ℕ) → Home → Walk → PlanKind → Element → ℕ → Grown
node_grown world path home walk kind element end =
    map_node_made (submap_at world path walk.level) kind (around_of walk) walk.place element
    (among world path walk (around_below kind (around_of walk)) (walk.place + 1) (content_between home (walk.place + 1) end))

-- What work makes

abbrev pub done_by : World → List Home → List (List ℕ) → Work → MadeNodes → MadeNodes
done_by world homes path (works.Walk walk) made =
    put walk.parent (grown_of world path (home_at homes walk.map) walk) made
done_by world homes path (works.Leave at) made = made

-- the maps around what stands above some work
abbrev pub path_in : List Home → List (List ℕ) → Work → List (List ℕ)
path_in homes path (works.Walk walk) = path
path_in homes path (works.Leave at) = path ++ name_at homes at ∷ []

-- the last work is done first
abbrev pub after : World → List Home → List (List ℕ) → List Work → MadeNodes → MadeNodes
after world homes path [] made = made
after world homes path (work ∷ more) made =
    done_by world homes path work (after world homes (path_in homes path work) more made)

abbrev pub path_after : List Home → List (List ℕ) → List Work → List (List ℕ)
path_after homes path [] = path
path_after homes path (work ∷ more) = path_after homes (path_in homes path work) more

-- the maps around what is next
abbrev pub path_of : List Home → List Work → List (List ℕ)
path_of homes work = path_after homes [] work

-- Work that can be done where so many nodes were made

pub record IsOn (homes : List Home) (walk : Walk) : Type 0 where
  pub map : walk.map < length homes
  pub siblings : AreSiblings (home_at homes walk.map) walk.place walk.end

pub record WalkFits (homes : List Home) (count : ℕ) (walk : Walk) : Type 0 where
  pub on : IsOn homes walk
  pub level : walk.level < count

abbrev pub WorkFits : List Home → ℕ → Work → Type 0
WorkFits homes count (works.Walk walk) = WalkFits homes count walk
WorkFits homes count (works.Leave at) = at < length homes

abbrev pub AllFit : List Home → ℕ → List Work → Type 0
AllFit homes count [] = Unit {0}
AllFit homes count (work ∷ more) = WorkFits homes count work × AllFit homes count more

-- the walk over the root of a map
pub record IsRootWalk (homes : List Home) (at below high : ℕ) (walk : Walk) : Type 0 where
  pub map : walk.map ≡ at
  pub place : walk.place ≡ (home_at homes at).root
  pub parent : walk.parent ≡ below
  pub level : walk.level ≡ high
  pub in_table : walk.in_table ≡ false
  pub some : walk.place < walk.end
  pub inside : AreSiblings (home_at homes at) ((home_at homes at).root + 1) walk.end
  pub root : (node : doc.Node) → slice_get (home_at homes at).nodes (home_at homes at).root ≡ Some node
      → root_in (home_at homes at) ≡ Some (
        element_of (home_at homes at).name node,
        content_between (home_at homes at) ((home_at homes at).root + 1) walk.end,
      )

-- What the first of the nodes of a walk makes, which ends there

abbrev pub behind : Walk → ℕ → Walk
behind walk end = record walk { place = end }

abbrev pub content : Walk → ℕ → Walk
content walk end = record walk { place = walk.place + 1; end = end }

abbrev pub Makes : World → List (List ℕ) → Home → Walk → ℕ → Element → makes.the_data → Type 0
Makes world path home walk end element makes.Nothing =
    grown_of world path home walk ≡ grown_of world path home (behind walk end)
Makes world path home walk end element (makes.Node kind) =
    grown_of world path home walk
    ≡ beside (node_grown world path home walk kind element end) (grown_of world path home (behind walk end))
Makes world path home walk end element makes.Content =
    grown_of world path home walk
    ≡ beside (with_faults (class_faults element) (grown_of world path home (content walk end)))
    (grown_of world path home (behind walk end))

pub record IsSeen (home : Home) (walk : Walk) (what : makes.the_data) (end : ℕ) : Type 0 where
  pub inside : AreSiblings home (walk.place + 1) end
  pub behind : AreSiblings home end walk.end
  pub made : (node : doc.Node) → slice_get home.nodes walk.place ≡ Some node
      → (world : World) (path : List (List ℕ)) → Makes world path home walk end (element_of home.name node) what
