use Rattle.std.proofs.Common.{not, ap, ◌∙◌, arith}
use Rattle.desk_work.proofs.WorkLaws.{done_all, done_more}
use Rattle.desk_work.proofs.work.are_done.Goals as goal

pub loop-job-init : goal.loop-job-init
loop-job-init c = tt

pub loop-job-preserved : goal.loop-job-preserved
loop-job-preserved c = done_more c.args.jobs.now c.loop-job.job-index c.job-item.result (omega arith) c.job-item.is
    (c.is_none.ensures ∙ ap not c.if-is_none.false) c.loop-job.invariant

pub returns : goal.returns
returns c = λ all. done_all c.args.jobs.now c.loop-job.job-index (omega arith) c.loop-job.invariant
