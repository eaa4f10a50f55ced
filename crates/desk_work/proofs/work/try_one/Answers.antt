use Rattle.std.proofs.Common.{sym, ◌∙◌}
use Rattle.desk_work.proofs.ProgressLaws.{nothing_goes_on, row_goes_on, stays_goes_on}
use Rattle.desk_work.proofs.work.try_one.Goals as goal

pub returns-then-is_some-clause-goes_on : goal.returns-then-is_some-clause-goes_on
returns-then-is_some-clause-goes_on g c = nothing_goes_on _ _ _

pub returns-in_err-job-clause-goes_on : goal.returns-in_err-job-clause-goes_on
returns-in_err-job-clause-goes_on g c = stays_goes_on _ _ _ _ c.in_err-job.ensures.attempts

pub returns-clause-goes_on : goal.returns-clause-goes_on
returns-clause-goes_on g c =
    row_goes_on _ _ _ _ c.args.job.now.row _ (sym c.is_some.ensures ∙ c.if-is_some.false) c.in_ok-job.ensures.attempts
