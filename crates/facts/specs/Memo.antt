-- Judgements of plans that are kept (own): the facts of the parts of one plan share its questions, so that their plan
-- is judged once for each stamp. A judgement is known by the serial under which the plan is judged and by the stamp.
use Rattle.std.specs.Prelude.{◌≡◌, ◌⊎◌, ℕ, List}
use Rattle.dita_doc.specs.Desk.{State}
use Rattle.facts.specs.Judged.{Tells}
use Rattle.facts.specs.Rows.{RowData, Stands, plan_in, plan_serial}
use Rattle.facts.specs.declared.fact.PlanFact.{PlanFact}
use Rattle.facts.specs.declared.judged.Judged.{Judged}

abbrev pub PlanAgrees : Type 1
PlanAgrees = PlanFact → State → Type 0

-- it is a judgement of this row's plan for this stamp
pub record IsOf (row : RowData) (stamp : ℕ) (judged : Judged) : Type 0 where
  pub plan : judged.plan ≡ plan_serial row
  pub at : judged.stamp ≡ stamp

-- what it says of this row's plan is so over these sources
abbrev pub IsRight : PlanAgrees → State → RowData → Judged → Type 0
IsRight agrees sources row judged = Tells judged.agreed (agrees (plan_in row) sources)

-- what is kept of this row's plan for this stamp, whose sources are these, is right
pub record AreRight (agrees : PlanAgrees) (sources : State) (stamp : ℕ) (row : RowData) (all : List Judged) : Type 0 where
  pub each : (judged : Judged) → Stands all judged → IsOf row stamp judged → IsRight agrees sources row judged

-- a judgement of the plan of one of these rows, which is right
pub record IsNew (agrees : PlanAgrees) (sources : State) (stamp : ℕ) (rows : List RowData) (judged : Judged) : Type 0 where
  pub row : RowData
  pub stands : Stands rows row
  pub of : IsOf row stamp judged
  pub right : IsRight agrees sources row judged

-- what a claim may do: each judgement was kept before, or is new
pub record MayNote (agrees : PlanAgrees) (sources : State) (stamp : ℕ) (rows : List RowData) (old new : List Judged)
    : Type 0 where
  pub each : (judged : Judged) → Stands new judged → Stands old judged ⊎ IsNew agrees sources stamp rows judged

-- each judgement is of the plan of one of these rows
pub record HaveRows (rows : List RowData) (all : List Judged) : Type 0 where
  pub each : (judged : Judged) → Stands all judged → (row : RowData) × Stands rows row × (plan_serial row ≡ judged.plan)
