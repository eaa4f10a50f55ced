-- What the makers of the parts of maps make is what builds by workers want.
use Rattle.std.specs.Prelude.{◌≡◌, ℕ, Result, Ok, Err}
use Rattle.std.proofs.Common.{refl, ◌∙◌}
use Rattle.desk_work.specs.Makers.{HasPart, IsPartMade}
use Rattle.dita_doc.specs.Desk.{State}
use Rattle.dita_doc.specs.declared.fact.Part.{Part}
use Rattle.dita_doc.specs.declared.fact.Part.TheVariants as parts
use Rattle.dita_doc.specs.declared.plan.Plan.{Plan}
use Rattle.dita_doc.specs.declared.plan.PlanStop.{PlanStop}
use Rattle.fact_judge.specs.Agreed.{own_agrees, plan_agrees}
use Rattle.fact_maker.specs.Made.{IsMade, rests_on}
use Rattle.facts.specs.Latest.{Agrees}
use Rattle.facts.specs.Rows.{RowData, plan_in}
use Rattle.facts.specs.declared.fact.Fact.{Fact}
use Rattle.run_spec.specs.Language.{dita}
use Rattle.map_makers.specs.Counts.{counts}
use Rattle.map_makers.specs.PlanTells.{meaning}

rests_there : (value : Result Plan PlanStop) (part : Part) (serial : ℕ) → HasPart value part
    → rests_on part serial ≡ serial
rests_there (Err stop) part serial has = absurd has
rests_there (Ok plan) parts.Plan serial has = absurd has
rests_there (Ok plan) (parts.Page index) serial has = refl
rests_there (Ok plan) parts.Contents serial has = refl

pub part_is_made : (state : State) (row : RowData) (part : Part) (fact : Fact) → HasPart (plan_in row).value part
    → IsMade state row part fact → IsPartMade meaning dita row part state fact
part_is_made state row part fact has made =
    let both : Agrees plan_agrees own_agrees fact state =
    record { plan = made.plan_answers; own = made.own_answers } in
    record {
      of = made.of;
      right = record { sound = made.sound; agrees = both; counts = counts state fact made.sound both };
      planned = made.planned ∙ rests_there (plan_in row).value part row.serial has;
      plan = made.plan;
    }
