use Rattle.std.proofs.Common.{◌≤◌, length, sym, ap, ◌∙◌, subst, get_or, arith}
use Rattle.std.proofs.lemmas.Option.{get_or_from_slice_get, none-some, slice_get_past}
use Rattle.html_tables.specs.declared.columns.Columns.{Columns}
use Rattle.html_tables.specs.Walk.{AreColumns}
use Rattle.html_tables.proofs.groups.Groups.spanned_in.Goals as goal

pub returns-in-Some : goal.returns-in-Some
returns-in-Some c = λ name names at.
    let same = c.in-Some.ensures.lookup.4 (omega arith) at.columns
    ∙ ap (λ all. get_or all c.args.number at.columns) c.as_slice.ensures
    ∙ get_or_from_slice_get c.args.self.now.groups c.args.number at.columns at.columns at.here in
    c.spanned.ensures name names (subst (λ (columns : Columns). AreColumns columns names) (sym same) at.are)

pub returns-in-None : goal.returns-in-None
returns-in-None c = λ name names at.
    let past = subst (λ all. length all ≤ c.args.number) c.as_slice.ensures c.in-None.ensures.lookup.3 in
    absurd (none-some at.columns (sym (slice_get_past c.args.self.now.groups c.args.number past) ∙ at.here))
