use Rattle.std.proofs.Common.{arith}
use Rattle.std.specs.Option.{option_map}
use Rattle.desk_work.specs.Attempts.{jobs_seen}
use Rattle.desk_work.proofs.WorkLaws.{parts_stay, works_none, works_then}
use Rattle.desk_work.proofs.work.try_all.Goals as goal

pub loop-place-init : goal.loop-place-init
loop-place-init g c = record {
  at = c.requires.hand;
  parts = c.requires.parts;
  judge = c.requires.judge;
  maker = c.requires.maker;
  works = works_none _ _ _;
  within = omega arith;
}

pub loop-place-preserved : goal.loop-place-preserved
loop-place-preserved g c = record {
  at = c.try_at.ensures.hand;
  parts = parts_stay c.args.site.now.key.now (option_map g.M.Makers.ready_row c.args.site.now.ready.now)
      (jobs_seen c.loop-place.jobs) (jobs_seen c.try_at.new.jobs) c.loop-place.invariant.parts
      c.try_at.ensures.works.same;
  judge = c.try_at.ensures.judge;
  maker = c.try_at.ensures.maker;
  works = works_then _ _ _ _ _ _ _ c.loop-place.invariant.works c.try_at.ensures.works;
  within = omega arith;
}

pub returns-in_err-try_at-clause-works : goal.returns-in_err-try_at-clause-works
returns-in_err-try_at-clause-works g c =
    works_then _ _ _ _ _ _ _ c.loop-place.invariant.works c.try_at.ensures.works
