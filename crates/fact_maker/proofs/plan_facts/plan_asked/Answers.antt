use Rattle.std.specs.Option.{option_copied}
use Rattle.std.proofs.Common.{ap, reverse, subst, ◌∙◌}
use Rattle.build_plan.specs.Documents.{build_names, plan_targets}
use Rattle.map_spec.specs.PlanOf.{limits, plan_of}
use Rattle.reader_spec.specs.World.{world_of}
use Rattle.readers.specs.Documents.{AsksOnly}
use Rattle.readers.specs.Founded.{StaysFounded}
use Rattle.readers.specs.Noted.{answered_of}
use Rattle.readers.specs.Setting.{Stand}
use Rattle.readers.specs.Told.{Agrees}
use Rattle.source_reader.specs.Stored.{told_alone}
use Rattle.fact_maker.proofs.PlannedLaws.{is_planned}
use Rattle.fact_maker.proofs.plan_facts.plan_asked.Goals as goal

pub returns : goal.returns
returns c =
    let map = c.args.map.now in
    let val = option_copied c.args.val in
    let all = c.planned.new.asker.asked in
    let world_same = subst (λ (s : Stand). Agrees s.world (told_alone all)) c.planned.ensures.stand
    c.planned.new.asker.agrees in
    is_planned c.args.sources.now map val all c.planned.new.asker.kinds c.in_ok-value.value
    (λ world agrees. c.in_ok-value.ensures (plan_of limits world map val) (c.planned.ensures.known world agrees))
    (subst (λ state. Agrees (world_of state) (told_alone all)) (c.new-reader.ensures.sources ∙ c.new.ensures) world_same)
    (subst (λ old. StaysFounded (build_names map val) (told_alone old) (told_alone all)) c.new-reader.ensures.asked
    c.planned.ensures.founded)
    (subst (λ old. AsksOnly plan_targets (build_names map val) (told_alone old) (told_alone all))
    c.new-reader.ensures.asked c.planned.ensures.asks)
    c.in_ok-asked.asked (c.in_ok-asked.ensures
    ∙ ap (λ notes. answered_of (reverse notes)) c.into_asked-asked.ensures.asked)
