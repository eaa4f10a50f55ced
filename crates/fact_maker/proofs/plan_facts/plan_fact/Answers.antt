use Rattle.std.specs.Option.{option_copied}
use Rattle.std.proofs.Common.{◌≡◌}
use Rattle.std.proofs.lemmas.Result.{IfOk-weaker}
use Rattle.fact_judge.specs.Sound.{IsSound}
use Rattle.facts.specs.declared.fact.Fact.{Fact}
use Rattle.fact_maker.proofs.PlannedLaws.{alone, sound_made}
use Rattle.fact_maker.proofs.plan_facts.plan_fact.Goals as goal

pub returns-clause-sound : goal.returns-clause-sound
returns-clause-sound c = IfOk-weaker c.of_plan.result
    (λ (fact : Fact). fact ≡ alone c.in_ok-key.key c.in_ok-new.field-0) IsSound
    (sound_made c.args.sources.now c.args.map.now (option_copied c.args.val) c.in_ok-key.key c.in_ok-new.field-0
    c.in_ok-plan.plan c.in_ok-key.ensures c.in_ok-new.ensures.ok c.in_ok-plan.ensures) c.of_plan.ensures
