use Rattle.std.proofs.Common.{◌≡◌, ℕ, take}
use Rattle.std.specs.Prelude.{◌||◌}
use Rattle.std.specs.List.{list_any}
use Rattle.reltable_links.specs.Standings.{leads_from, reaches_at}
use Rattle.reltable_links.specs.declared.cells.RowCell.{RowCell}
use Rattle.reltable_links.proofs.standings.put_nodes.Given as goal

abbrev pub invariant-loop-node : goal.invariant-loop-node
invariant-loop-node l = (page : ℕ) (cell : RowCell) → reaches_at page l.pages.entries cell
    ≡ (reaches_at page l.fn.pages.entries cell || list_any (leads_from page l.own cell) (take l.node-index l.nodes))
