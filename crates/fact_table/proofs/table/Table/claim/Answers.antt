-- No row agrees and no claim runs, and this claim is drawn.
use Rattle.std.proofs.Common.{Option, subst}
use Rattle.std.specs.Arc.{arc_value}
use Rattle.facts.specs.Latest.{Agrees, IsLatest}
use Rattle.facts.specs.declared.row.Row.{Row}
use Rattle.fact_table.specs.Shelf.{row_found}
use Rattle.fact_table.proofs.AnswerLaws.{drawn_is}
use Rattle.fact_table.proofs.table.Table.claim.Goals as goal

pub returns-clause-answers : goal.returns-clause-answers
returns-clause-answers g c =
    let agrees = Agrees g.P.Parts.plan_agrees g.P.Parts.own_agrees in
    let first = c.args.self.now.table in
    let key = c.args.key.now in
    let judges = g.J.Judge.sources c.args.judge.now in
    drawn_is agrees first c.seek.new.self.table key c.args.stamp judges (arc_value c.args.sources.now)
    c.seek.ensures.same c.requires.sources c.in_ok-draw.field-0
    (subst (λ (found : Option Row). IsLatest agrees first.rows key judges (row_found found)) c.in_default.is
    c.in_ok-row.ensures.found)
    c.in_default-running_for.ensures.absent c.in_ok-draw.ensures.ticket
