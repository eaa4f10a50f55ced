use Rattle.std.proofs.Common.{◌≡◌, ℕ, ◌++◌, take}
use Rattle.std.specs.Prelude.{filter, nat_lt}
use Rattle.std.specs.List.{flat_map}
use Rattle.std.specs.List.Sorted.{IsNonDecreasingBy}
use Rattle.reltable_links.specs.Below.{ends_behind_one, is_below_one}
use Rattle.reltable_links.specs.RowTable.{lost_fault}
use Rattle.reltable_links.specs.declared.cells.RowCell.{RowCell}
use Rattle.reltable_links.proofs.faults.append_below.Given as goal

abbrev pub invariant-loop-cell : goal.invariant-loop-cell
invariant-loop-cell l = record {
  are : IsNonDecreasingBy (λ (cell : RowCell). cell.at) l.cells → IsNonDecreasingBy (λ (at : ℕ). at) l.lost
      → l.faults ≡ l.fn.faults ++ flat_map (lost_fault l.plan)
      (filter (is_below_one (take l.cell-index l.cells)) l.lost);
  done : (at : ℕ) → nat_lt at l.done ≡ ends_behind_one (take l.cell-index l.cells) at;
}
