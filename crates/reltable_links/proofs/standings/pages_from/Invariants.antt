use Rattle.std.proofs.Common.{◌≡◌, ℕ, take}
use Rattle.std.specs.List.{list_any}
use Rattle.std.specs.List.Sorted.{IsNonDecreasingBy}
use Rattle.link_groups.specs.declared.link_nodes.LinkNode.{LinkNode}
use Rattle.reltable_links.specs.Standings.{reaches_at, stands_in}
use Rattle.reltable_links.specs.declared.cells.RowCell.{RowCell}
use Rattle.reltable_links.proofs.standings.pages_from.Given as goal

abbrev pub invariant-loop-own : goal.invariant-loop-own
invariant-loop-own l = IsNonDecreasingBy (λ (node : LinkNode). node.at) l.nodes → (page : ℕ) (cell : RowCell)
    → reaches_at page l.pages.entries cell ≡ list_any (stands_in page l.nodes cell) (take l.own-index l.cells)
