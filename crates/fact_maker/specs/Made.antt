-- The fact of a part that is made of a row's plan over sources (own).
use Rattle.std.specs.Prelude.{◌≡◌, ℕ, List}
use Rattle.std.specs.Arc.{arc_value}
use Rattle.dita_doc.specs.Desk.{State}
use Rattle.dita_doc.specs.declared.fact.Html.{Html}
use Rattle.dita_doc.specs.declared.fact.Part.{Part}
use Rattle.dita_doc.specs.declared.fact.Part.TheVariants as parts
use Rattle.dita_doc.specs.declared.question.Asked.{Asked}
use Rattle.fact_judge.specs.Agreed.{OwnAnswers, PlanAnswers}
use Rattle.fact_judge.specs.Sound.{IsSound}
use Rattle.facts.specs.Rows.{RowData, plan_in}
use Rattle.facts.specs.declared.fact.Fact.{Fact}
use Rattle.reader_spec.specs.World.{world_of}
use Rattle.fact_maker.specs.Right.{IsRight}

-- the fact of a plan rests on itself, that of another part on the row of its plan
abbrev pub rests_on : Part → ℕ → ℕ
rests_on parts.Plan serial = 0
rests_on _ serial = serial

-- it has the part of the row's map and DITAVAL, with the row's plan; it is sound, and agrees with the sources
pub record IsMade (sources : State) (row : RowData) (part : Part) (fact : Fact) : Type 0 where
  pub of : fact.key ≡ record row.fact.key { part = part }
  pub plan : arc_value fact.plan ≡ plan_in row
  pub planned : fact.planned ≡ rests_on part row.serial
  pub sound : IsSound fact
  pub plan_answers : PlanAnswers (arc_value fact.plan) (world_of sources)
  pub own_answers : OwnAnswers fact (world_of sources)

-- what is made of the plan on which a fact rests is right
abbrev pub IsRightOf : State → Fact → Part → Html → List Asked → Type 0
IsRightOf sources fact part html asked =
    IsRight sources fact.key.map fact.key.val (arc_value fact.plan) part html asked
