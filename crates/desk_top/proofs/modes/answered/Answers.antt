use Rattle.std.proofs.Common.{sym, subst}
use Rattle.run_spec.specs.CleanRun.{HasForm}
use Rattle.script_text.specs.Read.{steps_seen}
use Rattle.desk_top.proofs.EndsLaws.{rejected_run, rejected_pages, answered_run, answered_pages}
use Rattle.desk_top.proofs.TakesLaws.{puts_front}
use Rattle.desk_top.proofs.modes.answered.Goals as goal

pub returns-in_ok-to_line-in-Err-Fault-clause-ok : goal.returns-in_ok-to_line-in-Err-Fault-clause-ok
returns-in_ok-to_line-in-Err-Fault-clause-ok g c =
    let fault = rw c.in-Err-Fault.field-0-is at c.in-Err-Fault.ensures in
    rejected_run c.args.with_terms c.args.input _ c.in-Err-Fault.fault fault c.in_ok-to_line-in-Err-Fault.ensures

pub returns-in_ok-to_line-in-Err-Fault-clause-pages : goal.returns-in_ok-to_line-in-Err-Fault-clause-pages
returns-in_ok-to_line-in-Err-Fault-clause-pages g c =
    let fault = rw c.in-Err-Fault.field-0-is at c.in-Err-Fault.ensures in
    rejected_pages c.args.with_terms c.args.input c.in-Err-Fault.fault _ fault

pub returns-in_ok-to_line-in-Err-Fault-clause-form : goal.returns-in_ok-to_line-in-Err-Fault-clause-form
returns-in_ok-to_line-in-Err-Fault-clause-form g c =
    let fault = rw c.in-Err-Fault.field-0-is at c.in-Err-Fault.ensures in
    subst HasForm (sym fault) tt

pub returns-in_err-answer_all-in-Ok-clause-pages : goal.returns-in_err-answer_all-in-Ok-clause-pages
returns-in_err-answer_all-in-Ok-clause-pages g c =
    let pages = answered_pages c.args.with_terms c.args.input (steps_seen c.in-Ok.script.steps) c.in-Ok.ensures in
    puts_front _ _ _ _ c.from_residual.result c.from_residual.ensures.1
    (rw pages c.in_err-answer_all-in-Ok.ensures.pages)

pub returns-in_ok-answer_all-in-Ok-clause-ok : goal.returns-in_ok-answer_all-in-Ok-clause-ok
returns-in_ok-answer_all-in-Ok-clause-ok g c =
    answered_run c.args.with_terms c.args.input _ (steps_seen c.in-Ok.script.steps) c.in-Ok.ensures
    c.in_ok-answer_all-in-Ok.ensures.text

pub returns-in_ok-answer_all-in-Ok-clause-pages : goal.returns-in_ok-answer_all-in-Ok-clause-pages
returns-in_ok-answer_all-in-Ok-clause-pages g c =
    rw (answered_pages c.args.with_terms c.args.input (steps_seen c.in-Ok.script.steps) c.in-Ok.ensures)
    c.in_ok-answer_all-in-Ok.ensures.pages

pub returns-in_ok-answer_all-in-Ok-clause-form : goal.returns-in_ok-answer_all-in-Ok-clause-form
returns-in_ok-answer_all-in-Ok-clause-form g c =
    subst HasForm (sym c.in-Ok.ensures) c.in_ok-answer_all-in-Ok.ensures.form
