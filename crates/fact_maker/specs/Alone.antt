-- One fact that is made alone (own): for a page or the contents page the fact of its plan is given.
use Rattle.std.specs.Prelude.{◌≡◌, IfSome, Option}
use Rattle.std.specs.Arc.{arc_value}
use Rattle.dita_doc.specs.Desk.{State}
use Rattle.dita_doc.specs.declared.fact.FactKey.{FactKey}
use Rattle.dita_doc.specs.declared.fact.Part.{Part}
use Rattle.dita_doc.specs.declared.fact.Part.TheVariants as parts
use Rattle.fact_judge.specs.Agreed.{OwnAnswers, PlanAnswers}
use Rattle.fact_judge.specs.Sound.{IsSound}
use Rattle.facts.specs.Rows.{RowData}
use Rattle.facts.specs.declared.fact.Fact.{Fact}
use Rattle.reader_spec.specs.World.{world_of}

-- it is the plan of this key's map and DITAVAL, which is sound and agrees with the sources
pub record IsPlanOf (key : FactKey) (sources : State) (fact : Fact) : Type 0 where
  pub of : fact.key ≡ record key { part = parts.Plan }
  pub sound : IsSound fact
  pub agrees : PlanAnswers (arc_value fact.plan) (world_of sources)

-- the plan that is given for a part; for the plan itself none is wanted
abbrev pub GivenFor : Part → FactKey → State → Option Fact → Type 0
GivenFor parts.Plan key sources planned = Unit {0}
GivenFor _ key sources planned = IfSome planned (IsPlanOf key sources)

abbrev pub HasPlanOf : Part → Option Fact → Fact → Type 0
HasPlanOf parts.Plan planned fact = Unit {0}
HasPlanOf _ planned fact = IfSome planned (λ given. arc_value fact.plan ≡ arc_value given.plan)

-- the part of this key, with the plan that was given; it is sound, agrees with the sources, and names no row
pub record IsAlone (key : FactKey) (sources : State) (planned : Option Fact) (fact : Fact) : Type 0 where
  pub of : fact.key ≡ key
  pub plan : HasPlanOf key.part planned fact
  pub alone : fact.planned ≡ 0
  pub sound : IsSound fact
  pub plan_answers : PlanAnswers (arc_value fact.plan) (world_of sources)
  pub own_answers : OwnAnswers fact (world_of sources)

-- a row of the plan of a fact, which no table keeps
pub record IsRowOf (given : Fact) (row : RowData) : Type 0 where
  pub serial : row.serial ≡ 0
  pub key : row.fact.key ≡ record given.key { part = parts.Plan }
  pub plan : arc_value row.fact.plan ≡ arc_value given.plan
  pub sound : IsSound given → (sources : State) → PlanAnswers (arc_value given.plan) (world_of sources)
      → IsSound row.fact
