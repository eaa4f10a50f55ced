-- The fact of a part that is right for the plan of a row is sound.
use Rattle.std.specs.Prelude.{◌≡◌, ℕ, List, Option, Some, None, Result, Ok, Err, option_map}
use Rattle.std.specs.Arc.{arc_value}
use Rattle.std.specs.declared.alloc.Global.{Global}
use Rattle.std.specs.declared.sync.Arc.{Arc}
use Rattle.std.proofs.Common.{refl, sym, subst, ◌∙◌}
use Rattle.dita_doc.specs.Desk.{State}
use Rattle.dita_doc.specs.declared.fact.FactKey.{FactKey}
use Rattle.dita_doc.specs.declared.fact.Html.{Html}
use Rattle.dita_doc.specs.declared.fact.Part.{Part}
use Rattle.dita_doc.specs.declared.fact.Part.TheVariants as parts
use Rattle.dita_doc.specs.declared.plan.Plan.{Plan}
use Rattle.dita_doc.specs.declared.plan.PlanStop.{PlanStop}
use Rattle.dita_doc.specs.declared.question.Asked.{Asked}
use Rattle.fact_judge.specs.Agreed.{PlanAnswers}
use Rattle.fact_judge.specs.Asks.{OwnAsks}
use Rattle.fact_judge.specs.Sound.{IsPage, IsPartOf, IsSound, RestsOnItself}
use Rattle.facts.specs.Rows.{RowData, plan_in}
use Rattle.facts.specs.declared.fact.Fact.{Fact}
use Rattle.facts.specs.declared.fact.PlanFact.{PlanFact}
use Rattle.reader_spec.specs.World.{World, world_of}
use Rattle.fact_maker.proofs.PlannedLaws.{sound_alone}
use Rattle.fact_maker.specs.Made.{IsMade, rests_on}
use Rattle.fact_maker.specs.Planned.{IsPlanned}
use Rattle.fact_maker.specs.Ready.{IsPartOfRow, IsPlanOfRow}
use Rattle.fact_maker.specs.Right.{HtmlAsks, IsHtmlOf, IsRight}

-- what a sound fact says of its plan
pub planned_of : (sources : State) (fact : Fact) → IsSound fact → PlanAnswers (arc_value fact.plan) (world_of sources)
    → IsPlanned sources fact.key.map fact.key.val (arc_value fact.plan)
planned_of sources fact sound agrees = record {
  fixed = sound.plan;
  agrees = agrees;
  founded = sound.founded.plan;
  asks = sound.asks.plan;
  no_key = sound.asks.no_key;
}

-- A part with HTML

abbrev Share : Type 0
Share = Option (Arc Html Global)

abbrev held : Share → Option Html
held found = option_map (λ (share : Arc Html Global). arc_value share) found

part_with : (part : Part) (value : Result Plan PlanStop) (val : Option (List ℕ)) (html : Html) (found : Share)
    (world : World) → held found ≡ Some html → IsHtmlOf part value val html world → IsPartOf part value val found world
part_with (parts.Page index) (Ok plan) val html None world same is = absurd (cc)
part_with (parts.Page index) (Ok plan) val html (Some share) world same is =
    let here : arc_value share ≡ html = cc in subst (λ (h : Html). IsPage plan val index h world) (sym here) is
part_with (parts.Page index) (Err stop) val html found world same is = absurd is
part_with parts.Contents (Ok plan) val html None world same is = absurd (cc)
part_with parts.Contents (Ok plan) val html (Some share) world same is =
    let here : arc_value share ≡ html = cc in here ∙ is
part_with parts.Contents (Err stop) val html found world same is = absurd is
part_with parts.Plan value val html found world same is = absurd is

own_asks : (part : Part) (fact : Fact) → HtmlAsks part (arc_value fact.plan) fact.key.val fact.asked
    → OwnAsks part fact
own_asks (parts.Page index) fact asks = record { each = asks.each }
own_asks parts.Contents fact asks = asks
own_asks parts.Plan fact asks = absurd asks

rests : (part : Part) (fact other : Fact) → HtmlAsks part (arc_value other.plan) other.key.val other.asked
    → RestsOnItself part fact
rests (parts.Page index) fact other asks = tt
rests parts.Contents fact other asks = tt
rests parts.Plan fact other asks = absurd asks

serial_of : (part : Part) (plan : PlanFact) (val : Option (List ℕ)) (asked : List Asked) (serial : ℕ)
    → HtmlAsks part plan val asked → serial ≡ rests_on part serial
serial_of (parts.Page index) plan val asked serial asks = refl
serial_of parts.Contents plan val asked serial asks = refl
serial_of parts.Plan plan val asked serial asks = absurd asks

html_sound : (sources : State) (fact : Fact) (html : Html)
    → IsPlanned sources fact.key.map fact.key.val (arc_value fact.plan)
    → IsRight sources fact.key.map fact.key.val (arc_value fact.plan) fact.key.part html fact.asked
    → held fact.html ≡ Some html → IsSound fact
html_sound sources fact html planned right same = record {
  rests = rests fact.key.part fact fact right.asks;
  plan = planned.fixed;
  part = λ world answers own. part_with fact.key.part (arc_value fact.plan).value fact.key.val html fact.html world same
      (right.made world answers own);
  founded = record { plan = planned.founded; own = right.founded };
  asks = record { plan = planned.asks; no_key = planned.no_key; own = own_asks fact.key.part fact right.asks };
}

pub html_made : (sources : State) (row : RowData) (part : Part) (html : Html) (asked : List Asked) (fact : Fact)
    → IsPlanned sources row.fact.key.map row.fact.key.val (plan_in row)
    → IsRight sources row.fact.key.map row.fact.key.val (plan_in row) part html asked
    → IsPartOfRow row part html asked fact → IsMade sources row part fact
html_made sources row part html asked fact planned right is =
    let planned_there : IsPlanned sources fact.key.map fact.key.val (arc_value fact.plan) =
    subst (λ (k : FactKey). IsPlanned sources k.map k.val (arc_value fact.plan)) (sym is.key)
    (subst (IsPlanned sources row.fact.key.map row.fact.key.val) (sym is.plan) planned) in
    let right_there : IsRight sources fact.key.map fact.key.val (arc_value fact.plan) fact.key.part html fact.asked =
    subst (λ (k : FactKey). IsRight sources k.map k.val (arc_value fact.plan) k.part html fact.asked) (sym is.key)
    (subst (λ (p : PlanFact). IsRight sources row.fact.key.map row.fact.key.val p part html fact.asked) (sym is.plan)
    (subst (λ (own : List Asked). IsRight sources row.fact.key.map row.fact.key.val (plan_in row) part html own)
    (sym is.own) right)) in
    record {
      of = is.key;
      plan = is.plan;
      planned = is.planned ∙ serial_of part (plan_in row) row.fact.key.val asked row.serial right.asks;
      sound = html_sound sources fact html planned_there right_there is.shown;
      plan_answers = planned_there.agrees;
      own_answers = right_there.agrees;
    }

-- The plan itself

pub plan_made : (sources : State) (row : RowData) (fact : Fact)
    → IsPlanned sources row.fact.key.map row.fact.key.val (plan_in row) → IsPlanOfRow row fact
    → IsMade sources row parts.Plan fact
plan_made sources row fact planned is =
    let there = subst (IsPlanned sources row.fact.key.map row.fact.key.val) (sym is.is) planned in
    subst (IsMade sources row parts.Plan) (sym is.alone) (record {
      of = refl;
      plan = is.is;
      planned = refl;
      sound = sound_alone sources row.fact.key.map row.fact.key.val is.plan there;
      plan_answers = there.agrees;
      own_answers = tt;
    })
