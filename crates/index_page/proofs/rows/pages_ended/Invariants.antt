use Rattle.std.proofs.Common.{◌≡◌, drop}
use Rattle.html_spec.specs.Terms.{pages_ended}
use Rattle.index_page.specs.Rows.{entries_of}
use Rattle.index_page.proofs.GroupLaws.{with_pages}
use Rattle.index_page.proofs.rows.pages_ended.Given as goal

abbrev pub invariant-loop-row : goal.invariant-loop-row
invariant-loop-row l = with_pages l.pages.keys (drop l.row-index l.rows) ≡ pages_ended (entries_of l.rows)
