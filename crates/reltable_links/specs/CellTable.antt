-- The rows and cells of a plan, and the nodes below cells (own): what is known behind so many nodes.
use Rattle.std.specs.Prelude.{◌≡◌, ◌==◌, ◌&&◌, ◌||◌, ℕ, Bool, false, not, List, [], ◌∷◌, ◌++◌, Option, Some, None, filter, is_some, map, max, nat_lt, slice_get, codes, if◌then◌else◌}
use Rattle.std.specs.List.{filter_map, list_any}
use Rattle.std.specs.Option.{option_and_then, option_map_or, option_to_list}
use Rattle.dita_doc.specs.declared.plan.PagePlan.{PagePlan}
use Rattle.dita_doc.specs.declared.plan.Plan.{Plan}
use Rattle.dita_doc.specs.declared.plan.PlanNode.{PlanNode}
use Rattle.link_groups.specs.LinkNodes.{link_node_at}
use Rattle.link_groups.specs.declared.link_nodes.LinkNode.{LinkNode}
use Rattle.map_spec.specs.Elements.{is_value}
use Rattle.map_spec.specs.Pages.{local_name}
use Rattle.map_spec.specs.Scopes.{places}
use Rattle.map_spec.specs.Cascade.{whole_at}
use Rattle.map_spec.specs.Written.{Whole}
use Rattle.link_spec.specs.Links.{cell_of, has_node_value, has_page, is_cell, is_kind_at, is_row, rows, plan_target}
use Rattle.plan_nodes.specs.Carried.{CarryValues}
use Rattle.plan_nodes.specs.Preorder.{IsTree}
use Rattle.reader_spec.specs.World.{World}
use Rattle.reltable_links.specs.declared.cells.RowCell.{RowCell}
use Rattle.reltable_links.specs.declared.cells.Cells.{Cells}

-- One cell and another

-- a node stands below a cell
abbrev pub contains : ℕ → RowCell → Bool
contains at cell = nat_lt cell.at at && nat_lt at cell.end

-- the nodes below one cell are related to those below another: of the same row, and another cell or a family
abbrev pub relates : RowCell → RowCell → Bool
relates one other = (one.row == other.row) && (not (one.at == other.at) || other.is_family)

-- The cells of a plan

-- a node is a cell of a row
abbrev pub is_row_cell : List PlanNode → ℕ → PlanNode → Bool
is_row_cell nodes at node = not (at == 0) && is_cell node.kind
    && option_map_or (λ (parent : PlanNode). is_row parent.kind) (slice_get nodes node.parent) false

abbrev pub cell_for : World → Plan → ℕ → PlanNode → RowCell
cell_for world plan at node = record {
  row = node.parent;
  at = at;
  end = node.end;
  is_family = has_node_value world plan (codes "collection-type") (codes "family") at;
}

abbrev pub cell_made : World → Plan → ℕ → PlanNode → Option RowCell
cell_made world plan at node = if is_row_cell plan.nodes at node then Some (cell_for world plan at node) else None

abbrev pub cell_at : World → Plan → ℕ → Option RowCell
cell_at world plan at = option_and_then (cell_made world plan at) (slice_get plan.nodes at)

-- The nodes below cells

-- a node stands below a cell of some row
abbrev pub is_below : Plan → ℕ → Bool
is_below plan at = list_any (λ row. is_some (cell_of plan row at)) (rows plan)

-- it leads to a DITA document without a page
abbrev pub is_lost : Plan → ℕ → Bool
is_lost plan at = is_some (local_name (plan_target plan at)) && not (has_page plan at)

abbrev pub node_below : World → Plan → Bool → ℕ → Option LinkNode
node_below world plan below at = if below then link_node_at world plan at else None

abbrev pub node_at : World → Plan → ℕ → Option LinkNode
node_at world plan at = node_below world plan (is_below plan at) at

abbrev pub lost_below : Plan → Bool → ℕ → List ℕ
lost_below plan below at = if below && is_lost plan at then at ∷ [] else []

abbrev pub is_lost_below : Plan → ℕ → Bool
is_lost_below plan at = is_below plan at && is_lost plan at

-- what is known of these places
pub record AreCellsOf (world : World) (plan : Plan) (places : List ℕ) (table : Cells) : Type 0 where
  pub rows : table.rows.items ≡ filter (is_kind_at plan is_row) places
  pub cells : table.cells.items ≡ filter_map (cell_at world plan) places
  pub nodes : table.nodes.items ≡ filter_map (node_at world plan) places
  pub lost : table.lost.items ≡ filter (is_lost_below plan) places
  pub end : (at : ℕ) → nat_lt at table.end ≡ list_any (λ (cell : RowCell). nat_lt at cell.end) table.cells.items

abbrev pub AreCells : World → Plan → Cells → Type 0
AreCells world plan cells = AreCellsOf world plan (places plan.nodes) cells

-- What nodes stand on: they are those of a tree, and carry their values; the pages are the plan's; and the elements of
-- nodes are known
pub record IsReady (world : World) (plan : Plan) (known : List PagePlan) (elements : List (Option Whole)) : Type 0 where
  pub tree : IsTree plan.nodes
  pub values : CarryValues world plan.nodes
  pub pages : known ≡ plan.pages
  pub homes : elements ≡ map (whole_at world) plan.nodes

-- a node was put behind the others, if it stands below a cell
pub record PutsNode (world : World) (plan : Plan) (at : ℕ) (old new : Cells) : Type 0 where
  pub rows : new.rows.items ≡ old.rows.items
  pub cells : new.cells.items ≡ old.cells.items
  pub end : new.end ≡ old.end
  pub nodes : new.nodes.items ≡ old.nodes.items ++ option_to_list (node_below world plan (nat_lt at old.end) at)
  pub lost : new.lost.items ≡ old.lost.items ++ lost_below plan (nat_lt at old.end) at

abbrev pub row_put : Plan → ℕ → List ℕ
row_put plan at = if is_kind_at plan is_row at then at ∷ [] else []

abbrev pub ends_behind : ℕ → Option RowCell → Bool
ends_behind at cell = option_map_or (λ (c : RowCell). nat_lt at c.end) cell false

-- a row or a cell was put behind the others
pub record PutsCell (world : World) (plan : Plan) (at : ℕ) (old new : Cells) : Type 0 where
  pub rows : new.rows.items ≡ old.rows.items ++ row_put plan at
  pub cells : new.cells.items ≡ old.cells.items ++ option_to_list (cell_at world plan at)
  pub end : (k : ℕ) → nat_lt k new.end ≡ (nat_lt k old.end || ends_behind k (cell_at world plan at))
  pub nodes : new.nodes.items ≡ old.nodes.items
  pub lost : new.lost.items ≡ old.lost.items

-- The same as the code has them

abbrev pub if_row : ℕ → PlanNode → List ℕ
if_row at node = if is_row node.kind then at ∷ [] else []

abbrev pub end_with : ℕ → Option RowCell → ℕ
end_with end None = end
end_with end (Some cell) = max end cell.end

abbrev pub is_family_by : Option (List ℕ) → Bool
is_family_by value = is_value (codes "family") value

abbrev pub cell_by : List PlanNode → Bool → ℕ → ℕ → PlanNode → Option RowCell
cell_by nodes is_family at place node = if is_row_cell nodes at node
    then Some (record { row = node.parent; at = place; end = node.end; is_family = is_family }) else None
