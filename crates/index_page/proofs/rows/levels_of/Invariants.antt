use Rattle.std.proofs.Common.{◌≡◌, drop}
use Rattle.html_spec.specs.Terms.{levels_of}
use Rattle.index_page.specs.Rows.{entries_of}
use Rattle.index_page.proofs.GroupLaws.{with_levels}
use Rattle.index_page.proofs.rows.levels_of.Given as goal

abbrev pub invariant-loop-row : goal.invariant-loop-row
invariant-loop-row l = with_levels l.most (drop l.row-index l.rows) ≡ levels_of (entries_of l.rows)
