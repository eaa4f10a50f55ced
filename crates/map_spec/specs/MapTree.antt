-- The nodes of a map as a tree, and its form as a list (own): each node says where its parent stands, and where its own
-- subtree ends.
use Rattle.std.specs.Prelude.{◌+◌, ℕ, List, [], ◌∷◌, ◌++◌}
use Rattle.dita_doc.specs.declared.doc.Attribute.{Attribute}
use Rattle.dita_doc.specs.declared.fault.Fault.{Fault}
use Rattle.dita_doc.specs.declared.plan.Affix.{Affix}
use Rattle.dita_doc.specs.declared.plan.PlanKind.{PlanKind}
use Rattle.dita_doc.specs.declared.plan.PlanNode.{PlanNode}

-- what a node says, wherever it stands
pub record Head : Type 0 where
  pub kind : PlanKind
  pub doc : List ℕ
  pub place : ℕ
  pub line : ℕ
  pub level : ℕ
  pub scope : ℕ
  pub scope_names : List (List ℕ)
  pub filters : List (List ℕ)
  pub affixes : List Affix
  pub cascaded : List Attribute

-- nodes side by side: none; or a node, with those below it, and more
pub data MapTree : Type 0 where
  NoNodes : MapTree
  MapNode : (head : Head) (below more : MapTree) → MapTree

abbrev pub count : MapTree → ℕ
count NoNodes = 0
count (MapNode head below more) = 1 + (count below + count more)

abbrev pub trees_beside : MapTree → MapTree → MapTree
trees_beside NoNodes others = others
trees_beside (MapNode head below more) others = MapNode head below (trees_beside more others)

abbrev pub node_of : Head → ℕ → ℕ → PlanNode
node_of head parent end = record {
  kind = head.kind;
  doc = head.doc;
  place = head.place;
  line = head.line;
  level = head.level;
  parent = parent;
  end = end;
  scope = head.scope;
  scope_names = head.scope_names;
  filters = head.filters;
  affixes = head.affixes;
  cascaded = head.cascaded;
}

-- the nodes in preorder, the first of them at this place, below the node at `parent`
abbrev pub nodes_below : (parent place : ℕ) → MapTree → List PlanNode
nodes_below parent place NoNodes = []
nodes_below parent place (MapNode head below more) =
    let end = place + 1 + count below in
    node_of head parent end ∷ (nodes_below place (place + 1) below ++ nodes_below parent end more)

-- the nodes of a whole map: the root is at place 0 and its own parent
abbrev pub plan_nodes : MapTree → List PlanNode
plan_nodes tree = nodes_below 0 0 tree

-- A tree with the faults that were found while it was made

pub record Grown : Type 0 where
  pub tree : MapTree
  pub faults : List Fault

abbrev pub no_growth : Grown
no_growth = record { tree = NoNodes; faults = [] }

abbrev pub with_faults : List Fault → Grown → Grown
with_faults faults grown = record { tree = grown.tree; faults = faults ++ grown.faults }

abbrev pub beside : Grown → Grown → Grown
beside first second =
    record { tree = trees_beside first.tree second.tree; faults = first.faults ++ second.faults }

-- a node with these below it
abbrev pub beneath : Head → Grown → Grown
beneath head below = record { tree = MapNode head below.tree NoNodes; faults = below.faults }
