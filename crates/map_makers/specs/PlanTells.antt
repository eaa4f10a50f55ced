-- The plan that a right fact has is that of its map: it tells how many pages the build has, or why it has none.
use Rattle.std.specs.Prelude.{◌≡◌, Result, Ok, Err}
use Rattle.std.specs.Arc.{arc_value}
use Rattle.std.proofs.Common.{ap}
use Rattle.desk_lock.specs.Meaning.{Meaning, meant_by}
use Rattle.desk_work.specs.Outcome.{IsRightPlan, PlanTells}
use Rattle.dita_doc.specs.Desk.{State}
use Rattle.dita_doc.specs.declared.fact.FactKey.{FactKey}
use Rattle.dita_doc.specs.declared.plan.Plan.{Plan}
use Rattle.dita_doc.specs.declared.plan.PlanStop.{PlanStop}
use Rattle.fact_judge.specs.Agreed.{own_agrees, plan_agrees}
use Rattle.fact_judge.specs.Sound.{IsSound}
use Rattle.facts.specs.declared.fact.Fact.{Fact}
use Rattle.map_spec.specs.PlanOf.{limits, plan_of}
use Rattle.part_spec.specs.Parts.{build_by, clean_build, rooms, total_limit}
use Rattle.reader_spec.specs.World.{world_of}
use Rattle.run_spec.specs.Language.{dita}
use Rattle.run_spec.specs.ValueBytes.{pages_in}

-- what parts of builds of maps are
abbrev pub meaning : Meaning
meaning = meant_by plan_agrees own_agrees IsSound

tells_by : (state : State) (key : FactKey) (value : Result Plan PlanStop)
    → plan_of limits (world_of state) key.map key.val ≡ value → PlanTells dita state key value
unfolding clean_build
tells_by state key (Ok plan) is = ap pages_in is
tells_by state key (Err stop) is = (ap pages_in is, ap (build_by rooms total_limit (world_of state) key.val) is)

pub plan_tells : (state : State) (fact : Fact) → IsRightPlan meaning state fact
    → PlanTells dita state fact.key (arc_value fact.plan).value
plan_tells state fact right = tells_by state fact.key (arc_value fact.plan).value
    (right.right.sound.plan (world_of state) right.right.agrees.plan)
