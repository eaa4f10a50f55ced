use Rattle.std.specs.Option.{option_copied}
use Rattle.std.proofs.Common.{refl}
use Rattle.part_spec.specs.Parts.{parts_of, rooms}
use Rattle.reader_spec.specs.World.{world_of}
use Rattle.clean_build.proofs.PartLaws.{good_build}
use Rattle.clean_build.proofs.PlanLaws.{plan_facts}
use Rattle.clean_build.proofs.whole_build.build_of_parts.Goals as goal

pub put_parts-requires-clause-links : goal.put_parts-requires-clause-links
put_parts-requires-clause-links c = c.in_ok-links.ensures.made (record { is = c.requires.plan; made = refl })

pub put_parts-requires-clause-gathered : goal.put_parts-requires-clause-gathered
put_parts-requires-clause-gathered c = c.in_ok-gathered.ensures (world_of c.args.sources.now)
    (c.in_ok-links.ensures.made (record { is = c.requires.plan; made = refl }))

pub returns-clause-built : goal.returns-clause-built
returns-clause-built c =
    let world = world_of c.args.sources.now in
    let ground = c.args.ground in
    let plan = ground.plan.now in
    let val = option_copied ground.val in
    let topics = (plan_facts world ground.map.now val plan c.requires.plan).topics in
    c.in_ok-clean.ensures plan (parts_of rooms world plan val) _ c.in_ok-cache.ensures.put
    (good_build world plan val topics)
