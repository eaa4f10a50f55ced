-- Judgements of plans that a table keeps, each with the rank of the last row that is known to rest on the plan (own); and
-- what a claim must know of rows so that they may be judged.
use Rattle.std.specs.Prelude.{◌≡◌, ◌⊎◌, ℕ, Bool, List, filter, map, nat_lt, if◌then◌else◌, nat_le}
use Rattle.dita_doc.specs.Desk.{State}
use Rattle.dita_doc.specs.declared.fact.FactKey.{FactKey}
use Rattle.facts.specs.Judged.{BuildKey, HasAgreed, build_key}
use Rattle.facts.specs.Latest.{FactAgrees}
use Rattle.facts.specs.Memo.{AreRight, IsOf, IsRight, PlanAgrees}
use Rattle.facts.specs.Rows.{RowData, Stands, plan_in, plan_serial}
use Rattle.facts.specs.declared.fact.Fact.{Fact}
use Rattle.facts.specs.declared.judged.Judged.{Judged}
use Rattle.fact_table.specs.declared.memo.Noted.{Noted}

abbrev pub judged_of : Noted → Judged
judged_of noted = noted.judged

abbrev pub judged_seen : List Noted → List Judged
judged_seen memo = map judged_of memo

-- a row's stamp, if the sources of this stamp are not older, and else 0
abbrev pub since : RowData → ℕ → ℕ
since row stamp = if nat_le row.stamp stamp then row.stamp else 0

-- a row may be judged for a stamp over these sources
pub record MayJudge (plan_agrees : PlanAgrees) (own_agrees : FactAgrees) (sound : Fact → Type 0) (sources : State)
    (build : BuildKey) (stamp : ℕ) (all : List Judged) (row : RowData) : Type 0 where
  pub is_sound : sound row.fact
  pub of : build_key row.fact.key ≡ build
  pub plan : HasAgreed plan_agrees (plan_in row) (since row stamp) sources
  pub own : HasAgreed own_agrees row.fact (since row stamp) sources
  pub right : AreRight plan_agrees sources stamp row all

-- each row of a key may be judged for a stamp over these sources, and rows whose plan is judged under one serial have
-- one plan
pub record MayClaim (plan_agrees : PlanAgrees) (own_agrees : FactAgrees) (sound : Fact → Type 0) (rows : List RowData)
    (all : List Judged) (key : FactKey) (stamp : ℕ) (sources : State) (build : BuildKey) : Type 0 where
  pub each : (row : RowData) → Stands rows row → row.fact.key ≡ key
      → MayJudge plan_agrees own_agrees sound sources build stamp all row
  pub one_plan : (row other : RowData) → Stands rows row → Stands rows other → plan_serial row ≡ plan_serial other
      → plan_in row ≡ plan_in other

-- what judging a row may note: each judgement was kept before, or is of this row's plan and right

pub record IsNoted (agrees : PlanAgrees) (sources : State) (stamp : ℕ) (row : RowData) (noted : Noted) : Type 0 where
  pub rank : noted.rank ≡ row.rank
  pub of : IsOf row stamp noted.judged
  pub right : IsRight agrees sources row noted.judged

pub record MayGrow (agrees : PlanAgrees) (sources : State) (stamp : ℕ) (row : RowData) (old new : List Noted)
    : Type 0 where
  pub each : (noted : Noted) → Stands new noted → Stands old noted ⊎ IsNoted agrees sources stamp row noted

-- each judgement is of the plan of the row of its rank
pub record HasRow (rows : List RowData) (noted : Noted) : Type 0 where
  pub row : RowData
  pub stands : Stands rows row
  pub rank : row.rank ≡ noted.rank
  pub plan : plan_serial row ≡ noted.judged.plan

abbrev pub AllHaveRows : List RowData → List Noted → Type 0
AllHaveRows rows memo = (noted : Noted) → Stands memo noted → HasRow rows noted

-- a judgement with this answer is kept of a plan for a stamp
pub record IsKnown (memo : List Noted) (plan stamp : ℕ) (agreed : Bool) : Type 0 where
  pub noted : Noted
  pub stands : Stands memo noted
  pub plan_is : noted.judged.plan ≡ plan
  pub at : noted.judged.stamp ≡ stamp
  pub answer : noted.judged.agreed ≡ agreed

-- the same judgements, those of this plan maybe with this rank
pub record IsRaised (plan rank : ℕ) (old : List Noted) (noted : Noted) : Type 0 where
  pub before : Noted
  pub stands : Stands old before
  pub same : noted.judged ≡ before.judged
  pub rank_is : (noted.rank ≡ before.rank) ⊎ ((noted.rank ≡ rank) × (noted.judged.plan ≡ plan))

pub record AreRaised (plan rank : ℕ) (old new : List Noted) : Type 0 where
  pub each : (noted : Noted) → Stands new noted → IsRaised plan rank old noted

-- each judgement was there, or is the one that is added
pub record AddsAtMost (added : Noted) (old new : List Noted) : Type 0 where
  pub each : (noted : Noted) → Stands new noted → Stands old noted ⊎ (noted ≡ added)

-- those whose row is not among so many dropped ones
abbrev pub is_behind : ℕ → Noted → Bool
is_behind dropped noted = nat_lt dropped noted.rank

abbrev pub remembered : ℕ → List Noted → List Noted
remembered dropped memo = filter (is_behind dropped) memo
