use Rattle.std.proofs.Common.{get_or}
use Rattle.std.specs.Option.{option_map}
use Rattle.std.proofs.lemmas.Option.{slice_get-get_or}
use Rattle.desk_work.proofs.WorkLaws.{part_at, works_at}
use Rattle.desk_work.proofs.work.try_at.Goals as goal

pub try_one-requires-clause-of : goal.try_one-requires-clause-of
try_one-requires-clause-of g c κs within =
    let jobs = c.args.jobs.now in
    let job = get_or jobs c.args.place c.index-jobs-place.result in
    part_at c.args.site.now.key.now (option_map g.M.Makers.ready_row c.args.site.now.ready.now) jobs c.args.place job
    c.requires.parts (slice_get-get_or jobs c.args.place c.index-jobs-place.result c.requires.within)

pub returns-clause-works : goal.returns-clause-works
returns-clause-works g c =
    let jobs = c.args.jobs.now in
    let job = get_or jobs c.args.place c.index-jobs-place.result in
    works_at _ _ _ jobs c.args.place job c.try_one.new.job
    (slice_get-get_or jobs c.args.place c.index-jobs-place.result c.requires.within) c.try_one.ensures.key
    c.try_one.ensures.goes_on
