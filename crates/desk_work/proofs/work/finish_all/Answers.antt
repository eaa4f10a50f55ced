use Rattle.std.specs.Option.{option_map}
use Rattle.desk_work.specs.Attempts.{jobs_seen}
use Rattle.desk_work.proofs.WorkLaws.{parts_stay, works_none, works_then}
use Rattle.desk_work.proofs.work.finish_all.Goals as goal

pub loop-init : goal.loop-init
loop-init g c = record {
  at = c.requires.hand;
  parts = c.requires.parts;
  judge = c.requires.judge;
  maker = c.requires.maker;
  works = works_none _ _ _;
}

pub loop-preserved : goal.loop-preserved
loop-preserved g c = record {
  at = c.try_all.ensures.hand;
  parts = parts_stay c.args.site.now.key.now (option_map g.M.Makers.ready_row c.args.site.now.ready.now)
      (jobs_seen c.loop.jobs) (jobs_seen c.try_all.new.jobs) c.loop.invariant.parts c.try_all.ensures.works.same;
  judge = c.try_all.ensures.judge;
  maker = c.try_all.ensures.maker;
  works = works_then _ _ _ _ _ _ _ c.loop.invariant.works c.try_all.ensures.works;
}

pub returns-in_err-try_all-clause-works : goal.returns-in_err-try_all-clause-works
returns-in_err-try_all-clause-works g c =
    works_then _ _ _ _ _ _ _ c.loop.invariant.works c.try_all.ensures.works

pub returns-then-are_done-clause-works : goal.returns-then-are_done-clause-works
returns-then-are_done-clause-works g c =
    works_then _ _ _ _ _ _ _ c.loop.invariant.works c.try_all.ensures.works
