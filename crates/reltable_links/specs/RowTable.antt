-- The rows of a plan as they are kept, and the faults of nodes in them that lead to documents without pages (own).
use Rattle.std.specs.Prelude.{◌≡◌, ◌&&◌, ℕ, Bool, List, [], filter, option_map, slice_get, if◌then◌else◌}
use Rattle.std.specs.List.{flat_map, list_any}
use Rattle.std.specs.Option.{option_and_then, option_to_list}
use Rattle.dita_doc.specs.declared.fault.Fault.{Fault}
use Rattle.dita_doc.specs.declared.fault.FaultCode.TheVariants as faults
use Rattle.dita_doc.specs.declared.plan.PagePlan.{PagePlan}
use Rattle.dita_doc.specs.declared.plan.Plan.{Plan}
use Rattle.link_groups.specs.LinkNodes.{AreLinkNodes}
use Rattle.link_groups.specs.declared.link_nodes.LinkNodes.{LinkNodes}
use Rattle.map_spec.specs.Pages.{local_name}
use Rattle.map_spec.specs.Scopes.{node_fault, places}
use Rattle.link_spec.specs.Links.{plan_target}
use Rattle.plan_nodes.specs.Carried.{CarryValues}
use Rattle.plan_nodes.specs.Preorder.{IsTree}
use Rattle.reader_spec.specs.World.{World}
use Rattle.reltable_links.specs.CellTable.{AreCells, contains, is_lost_below}
use Rattle.reltable_links.specs.Standings.{AreStandings, is_in}
use Rattle.reltable_links.specs.declared.cells.RowCell.{RowCell}
use Rattle.reltable_links.specs.declared.table.Rows.{Rows}

-- what a plan must be: its nodes are those of a tree, and carry their values, and the asker knows its pages
pub record CanLink (world : World) (plan : Plan) (known : List PagePlan) : Type 0 where
  pub tree : IsTree plan.nodes
  pub values : CarryValues world plan.nodes
  pub pages : known ≡ plan.pages

-- these are the rows of a plan
pub record AreRowsOf (world : World) (plan : Plan) (rows : Rows) : Type 0 where
  pub tree : IsTree plan.nodes
  pub cells : AreCells world plan rows.cells
  pub standings : AreStandings rows.cells.cells.items rows.cells.nodes.items rows.standings

pub record AreRowsFound (world : World) (plan : Plan) (rows : Rows) (nodes : LinkNodes) : Type 0 where
  pub are : AreRowsOf world plan rows
  pub kept : AreLinkNodes world plan nodes

-- Faults

abbrev pub lost_fault : Plan → ℕ → List Fault
lost_fault plan at = option_to_list (option_and_then (λ name. option_map
    (λ node. node_fault node faults.LinkNoPage name) (slice_get plan.nodes at)) (local_name (plan_target plan at)))

-- of each node below a cell that leads to a DITA document without a page, once
abbrev pub cell_faults : Plan → List Fault
cell_faults plan = flat_map (lost_fault plan) (filter (is_lost_below plan) (places plan.nodes))

-- a node stands below one of these cells that is a cell of the row
abbrev pub is_in_row : List RowCell → ℕ → ℕ → Bool
is_in_row cells row at = list_any (λ (cell : RowCell). is_in row cell && contains at cell) cells

abbrev pub lost_in_row : Plan → List RowCell → ℕ → ℕ → List Fault
lost_in_row plan cells row at = if is_in_row cells row at then lost_fault plan at else []

abbrev pub faults_of_row : Plan → List RowCell → List ℕ → ℕ → List Fault
faults_of_row plan cells lost row = flat_map (lost_in_row plan cells row) lost

abbrev pub faults_of_rows : Plan → List RowCell → List ℕ → List ℕ → List Fault
faults_of_rows plan cells rows lost = flat_map (faults_of_row plan cells lost) rows
