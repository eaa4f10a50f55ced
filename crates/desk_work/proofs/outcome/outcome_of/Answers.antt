use Rattle.std.proofs.Common.{◌∙◌, ap}
use Rattle.desk_work.specs.Cited.{facts_of}
use Rattle.desk_work.specs.Outcome.{report_of_all, total_of}
use Rattle.desk_work.proofs.OutcomeLaws.{done_seen, rows_named}
use Rattle.desk_work.proofs.outcome.outcome_of.Goals as goal

pub returns-clause-outcome : goal.returns-clause-outcome
returns-clause-outcome c = done_seen c.args.plan.now c.in_ok-pages.pages c.in_ok-faults.faults c.args.rows.items
    c.in_ok-total.total (c.in_ok-total.ensures ∙ ap (λ rows. total_of (facts_of rows)) c.as_slice.ensures.value)
    c.if-total-gt-TOTAL_LIMIT.false c.in_ok-pages.ensures.names c.in_ok-pages.ensures.rows
    (c.in_ok-faults.ensures ∙ ap (λ rows. report_of_all c.args.plan.now (facts_of rows)) c.as_slice-2.ensures.value)

pub returns-clause-named : goal.returns-clause-named
returns-clause-named c = rows_named c.in_ok-pages.pages c.args.rows.items c.in_ok-pages.ensures.rows
