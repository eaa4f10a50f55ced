use Rattle.std.proofs.Common.{sym, ◌∙◌, arith}
use Rattle.html_tables.proofs.ColumnLaws.{column_below, spans_same}
use Rattle.html_tables.proofs.columns.Columns.spanned.Goals as goal

pub returns : goal.returns
returns c = λ name names are.
    c.span_of.ensures (λ at is.
    let below = column_below names _ at (sym (c.place-last.ensures name names are) ∙ is) in
    let count = are.count in
    omega arith)
    ∙ spans_same _ _ _ _ (c.place-first.ensures name names are) (c.place-last.ensures name names are)
