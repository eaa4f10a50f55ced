-- One fact that is made alone.
use Rattle.std.specs.Prelude.{◌≡◌, ℕ, List, [], Option, Some, Result, Ok, Err, IsTrue, is_ok}
use Rattle.std.specs.Arc.{arc_value}
use Rattle.std.specs.declared.alloc.Global.{Global}
use Rattle.std.specs.declared.sync.Arc.{Arc}
use Rattle.std.proofs.Common.{refl, sym, ap, subst, ◌∙◌}
use Rattle.std.proofs.lemmas.Bool.{false≢true}
use Rattle.dita_doc.specs.Desk.{State}
use Rattle.dita_doc.specs.declared.fact.FactKey.{FactKey}
use Rattle.dita_doc.specs.declared.fact.Part.{Part}
use Rattle.dita_doc.specs.declared.fact.Part.TheVariants as parts
use Rattle.dita_doc.specs.declared.plan.Plan.{Plan}
use Rattle.dita_doc.specs.declared.plan.PlanStop.{PlanStop}
use Rattle.dita_doc.specs.declared.question.Asked.{Asked}
use Rattle.fact_judge.specs.Agreed.{PlanAnswers}
use Rattle.fact_judge.specs.Answer.{AreAnswers, setting_by}
use Rattle.fact_judge.specs.Sound.{IsSound, RestsOnItself}
use Rattle.facts.specs.Rows.{RowData}
use Rattle.facts.specs.declared.fact.Fact.{Fact}
use Rattle.facts.specs.declared.fact.PlanFact.{PlanFact}
use Rattle.reader_spec.specs.World.{world_of}
use Rattle.fact_maker.proofs.MakeLaws.{planned_of}
use Rattle.fact_maker.proofs.PlannedLaws.{alone, sound_alone}
use Rattle.fact_maker.specs.Alone.{GivenFor, HasPlanOf, IsAlone, IsPlanOf, IsRowOf}
use Rattle.fact_maker.specs.Made.{IsMade, rests_on}
use Rattle.fact_maker.specs.Parts.{has_page, is_planned}
use Rattle.fact_maker.specs.Planned.{IsPlanned}

-- no part is made from row 0 but by the number 0
rests_nowhere : (part : Part) → rests_on part 0 ≡ 0
rests_nowhere parts.Plan = refl
rests_nowhere (parts.Page index) = refl
rests_nowhere parts.Contents = refl

plan_given : (part : Part) (given fact : Fact) → arc_value fact.plan ≡ arc_value given.plan
    → HasPlanOf part (Some given) fact
plan_given parts.Plan given fact same = tt
plan_given (parts.Page index) given fact same = same
plan_given parts.Contents given fact same = same

-- a part that is made of the row of a plan alone
pub part_alone : (sources : State) (key : FactKey) (given : Fact) (row : RowData) (fact : Fact)
    → given.key ≡ record key { part = parts.Plan } → IsRowOf given row → IsMade sources row key.part fact
    → IsAlone key sources (Some given) fact
part_alone sources key given row fact same of made = record {
  of = made.of ∙ ap (λ (k : FactKey). record k { part = key.part }) (of.key
      ∙ ap (λ (k : FactKey). record k { part = parts.Plan }) same);
  plan = plan_given key.part given fact (made.plan ∙ of.plan);
  alone = made.planned ∙ ap (rests_on key.part) of.serial ∙ rests_nowhere key.part;
  sound = made.sound;
  plan_answers = made.plan_answers;
  own_answers = made.own_answers;
}

-- A plan, whose own questions are none

rests_plan : (part : Part) (fact : Fact) → part ≡ parts.Plan → RestsOnItself part fact → fact.asked ≡ []
rests_plan parts.Plan fact is rests = rests.0
rests_plan (parts.Page index) fact is rests = absurd (cc)
rests_plan parts.Contents fact is rests = absurd (cc)

given_none : (part : Part) (planned : Option Fact) (fact : Fact) → part ≡ parts.Plan → HasPlanOf part planned fact
given_none parts.Plan planned fact is = tt
given_none (parts.Page index) planned fact is = absurd (cc)
given_none parts.Contents planned fact is = absurd (cc)

pub plan_alone : (sources : State) (key : FactKey) (planned : Option Fact) (fact : Fact) → key.part ≡ parts.Plan
    → fact.key ≡ key → fact.planned ≡ 0 → IsSound fact → PlanAnswers (arc_value fact.plan) (world_of sources)
    → IsAlone key sources planned fact
plan_alone sources key planned fact plan same alone sound answers = record {
  of = same;
  plan = given_none key.part planned fact plan;
  alone = alone;
  sound = sound;
  plan_answers = answers;
  own_answers = subst (λ (own : List Asked). AreAnswers (world_of sources) (setting_by (arc_value fact.plan).value) own)
      (sym (rests_plan fact.key.part fact (ap (λ (k : FactKey). k.part) same ∙ plan) sound.rests)) tt;
}

-- A row of a plan alone

pub row_alone : (given fact : Fact) (key : FactKey) (plan : Arc PlanFact Global) (row : RowData) → row.serial ≡ 0
    → row.fact ≡ fact → fact ≡ alone key plan → key ≡ record given.key { part = parts.Plan }
    → arc_value plan ≡ arc_value given.plan → IsRowOf given row
row_alone given fact key plan row serial held is named same =
    let all : row.fact ≡ alone (record given.key { part = parts.Plan }) plan =
    held ∙ is ∙ ap (λ (k : FactKey). alone k plan) named in
    record {
      serial = serial;
      key = ap (λ (f : Fact). f.key) all;
      plan = ap (λ (f : Fact). arc_value f.plan) all ∙ same;
      sound = λ sound sources answers. subst IsSound (sym all) (sound_alone sources given.key.map given.key.val plan
          (subst (IsPlanned sources given.key.map given.key.val) (sym same) (planned_of sources given sound answers)));
    }

-- What is given for a part that is not the plan

pub given_plan : (part : Part) (key : FactKey) (sources : State) (given : Fact) → (part ≡ parts.Plan → ⊥)
    → GivenFor part key sources (Some given) → IsPlanOf key sources given
given_plan parts.Plan key sources given other for = absurd (other refl)
given_plan (parts.Page index) key sources given other for = for
given_plan parts.Contents key sources given other for = for

page_has_plan : (value : Result Plan PlanStop) (index : ℕ) → IsTrue (has_page value index) → IsTrue (is_ok value)
page_has_plan (Ok plan) index has = refl
page_has_plan (Err stop) index has = absurd (false≢true has)

pub has_plan : (part : Part) (given : Fact) → (part ≡ parts.Plan → ⊥) → IsTrue (is_planned part (Some given))
    → IsTrue (is_ok (arc_value given.plan).value)
has_plan parts.Plan given other has = absurd (other refl)
has_plan (parts.Page index) given other has = page_has_plan (arc_value given.plan).value index has
has_plan parts.Contents given other has = has
