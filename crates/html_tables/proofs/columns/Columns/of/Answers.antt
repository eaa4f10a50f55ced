use Rattle.std.proofs.Common.{[]}
use Rattle.html_tables.proofs.columns.Columns.of.Goals as goal

pub returns : goal.returns
returns c = λ names. c.in_ok-append_columns.ensures names [] c.empty-columns.ensures
