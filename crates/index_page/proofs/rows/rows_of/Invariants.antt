use Rattle.std.proofs.Common.{◌≡◌, ◌++◌, drop}
use Rattle.index_page.specs.Rows.{entries_of}
use Rattle.index_page.proofs.rows.rows_of.Given as goal

abbrev pub invariant-loop-entry : goal.invariant-loop-entry
invariant-loop-entry l = entries_of l.rows.items ++ drop l.entry-index l.entries ≡ l.entries
