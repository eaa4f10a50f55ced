use Rattle.std.specs.Prelude.{◌++◌, []}
use Rattle.std.proofs.Common.{ap, subst}
use Rattle.reader_spec.specs.World.{World, world_of}
use Rattle.readers.specs.Documents.{AsksOnly}
use Rattle.readers.specs.Founded.{StaysFounded, homes}
use Rattle.readers.specs.Setting.{Setting}
use Rattle.clean_build.specs.Told.{told_by_plan}
use Rattle.clean_build.proofs.OverLaws.{agrees_here, agrees_then, goes_on_then, setting_is, stands_for, told_moved}
use Rattle.clean_build.proofs.work_done.over_tables.Goals as goal

pub returns-clause-goes_on : goal.returns-clause-goes_on
returns-clause-goes_on g c =
    let plan = c.args.plan.now in
    let new = c.new-reader.ensures in
    goes_on_then c.args.sources.now plan _ _ _ _ _ c.in_ok-made.ensures.stand (ap world_of new.sources)
    (setting_is plan _ _ _ new.nodes new.documents new.pages) new.asked c.into_asked-asked.ensures.asked _
    c.into_asked-asked.ensures.goes_on

pub returns-clause-known : goal.returns-clause-known
returns-clause-known g c = λ world agrees.
    let plan = c.args.plan.now in
    let new = c.new-reader.ensures in
    let made = setting_is plan _ _ _ new.nodes new.documents new.pages in
    stands_for c.args.sources.now plan _ _ _ _ _ c.in_ok-made.ensures.stand (ap world_of new.sources) made new.asked
    c.into_asked-asked.ensures.asked
    (λ (here : World) (setting : Setting). g.W.PlanTask.makes c.args.work here world setting c.in_ok-made.made)
    (c.in_ok-made.ensures.known world (agrees_then c.args.sources.now plan _ _ _ _ _ c.in_ok-made.ensures.stand
    (ap world_of new.sources) made new.asked c.into_asked-asked.ensures.asked world agrees))

pub returns-clause-agrees : goal.returns-clause-agrees
returns-clause-agrees g c =
    let plan = c.args.plan.now in
    let new = c.new-reader.ensures in
    agrees_here c.args.sources.now plan _ _ _ _ _ c.in_ok-made.ensures.stand (ap world_of new.sources)
    (setting_is plan _ _ _ new.nodes new.documents new.pages) new.asked c.into_asked-asked.ensures.asked
    c.run.new.asker.agreed

pub returns-clause-founded : goal.returns-clause-founded
returns-clause-founded g c =
    let plan = c.args.plan.now in
    let new = c.new-reader.ensures in
    let made = setting_is plan _ _ _ new.nodes new.documents new.pages in
    subst (λ (setting : Setting). StaysFounded (homes setting.nodes ++ g.W.PlanTask.about c.args.work) []
    (told_by_plan plan c.into_asked-asked.result.0)) made
    (told_moved c.args.sources.now plan _ _ _ _ _ c.in_ok-made.ensures.stand (ap world_of new.sources) made new.asked
    c.into_asked-asked.ensures.asked (StaysFounded _) c.in_ok-made.ensures.founded)

pub returns-clause-asks : goal.returns-clause-asks
returns-clause-asks g c =
    let plan = c.args.plan.now in
    let new = c.new-reader.ensures in
    told_moved c.args.sources.now plan _ _ _ _ _ c.in_ok-made.ensures.stand (ap world_of new.sources)
    (setting_is plan _ _ _ new.nodes new.documents new.pages) new.asked c.into_asked-asked.ensures.asked (AsksOnly _ _)
    c.in_ok-made.ensures.asks

pub returns-clause-only : goal.returns-clause-only
returns-clause-only g c = λ world agrees.
    let plan = c.args.plan.now in
    let new = c.new-reader.ensures in
    let made = setting_is plan _ _ _ new.nodes new.documents new.pages in
    subst (λ (setting : Setting). g.W.PlanTask.tells c.args.work world setting []
    (told_by_plan plan c.into_asked-asked.result.0)) made
    (told_moved c.args.sources.now plan _ _ _ _ _ c.in_ok-made.ensures.stand (ap world_of new.sources) made new.asked
    c.into_asked-asked.ensures.asked (g.W.PlanTask.tells c.args.work world _)
    (c.in_ok-made.ensures.only world (agrees_then c.args.sources.now plan _ _ _ _ _ c.in_ok-made.ensures.stand
    (ap world_of new.sources) made new.asked c.into_asked-asked.ensures.asked world agrees)))
