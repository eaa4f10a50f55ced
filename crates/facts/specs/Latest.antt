-- What a claim of a key and a snapshot is answered (own): the last published of the kept rows of the key that agree
-- with the snapshot's sources; else the claim of this key and stamp that runs; else a claim that is drawn for it.
use Rattle.std.specs.Prelude.{◌≡◌, ◌+◌, ◌≤◌, ℕ, List, Option, Some, None, slice_get}
use Rattle.std.specs.Arc.{arc_value}
use Rattle.dita_doc.specs.Desk.{State}
use Rattle.dita_doc.specs.declared.fact.FactKey.{FactKey}
use Rattle.facts.specs.Memo.{PlanAgrees}
use Rattle.facts.specs.Rows.{Claim, RowData, Running, Stands, claim_of}
use Rattle.facts.specs.Table.{TableData, claimed, next_claim}
use Rattle.facts.specs.declared.fact.Fact.{Fact}

-- When a fact agrees with sources: each question of its plan has its recorded answer there, and so has each question of
-- its own

abbrev pub FactAgrees : Type 1
FactAgrees = Fact → State → Type 0

pub record Agrees (plan_agrees : PlanAgrees) (own_agrees : FactAgrees) (fact : Fact) (sources : State) : Type 0 where
  pub plan : plan_agrees (arc_value fact.plan) sources
  pub own : own_agrees fact sources

-- Rows of a key that agree with sources

-- from this place on no row of the key agrees
pub record NoneFrom (agrees : FactAgrees) (rows : List RowData) (key : FactKey) (sources : State) (from : ℕ) : Type 0 where
  pub each : (place : ℕ) (row : RowData) → from ≤ place → slice_get rows place ≡ Some row → row.fact.key ≡ key
      → agrees row.fact sources → ⊥

abbrev pub NoneAgrees : FactAgrees → List RowData → FactKey → State → Type 0
NoneAgrees agrees rows key sources = NoneFrom agrees rows key sources 0

-- it is the last row of the key that agrees
pub record IsLast (agrees : FactAgrees) (rows : List RowData) (key : FactKey) (sources : State) (row : RowData)
    : Type 0 where
  pub place : ℕ
  pub stands : slice_get rows place ≡ Some row
  pub of : row.fact.key ≡ key
  pub agreed : agrees row.fact sources
  pub later : NoneFrom agrees rows key sources (place + 1)

-- the last row of the key that agrees, or none if none does
abbrev pub IsLatest : FactAgrees → List RowData → FactKey → State → Option RowData → Type 0
IsLatest agrees rows key sources None = NoneAgrees agrees rows key sources
IsLatest agrees rows key sources (Some row) = IsLast agrees rows key sources row

-- Running claims of a key and a stamp

-- this claim runs, for this key and stamp
pub record Runs (running : List Running) (key : FactKey) (stamp : ℕ) (claim : Running) : Type 0 where
  pub stands : Stands running claim
  pub of : claim.key ≡ key
  pub at : claim.stamp ≡ stamp

abbrev pub NoneRuns : List Running → FactKey → ℕ → Type 0
NoneRuns running key stamp = (claim : Running) → Runs running key stamp claim → ⊥

-- The answer

pub data ClaimAnswer : Type 0 where
  Have : RowData → ClaimAnswer
  Taken : (serial : ℕ) → ClaimAnswer
  Yours : Claim → ClaimAnswer

-- no row of the key agrees, and the claim of this serial runs for the key and the stamp
pub record IsTaken (agrees : FactAgrees) (table : TableData) (key : FactKey) (stamp : ℕ) (sources : State) (serial : ℕ)
    : Type 0 where
  pub none_agrees : NoneAgrees agrees table.rows key sources
  pub claim : Running
  pub runs : Runs table.running key stamp claim
  pub number : serial ≡ claim.serial

-- no row of the key agrees, no claim runs for the key and the stamp, and this one is drawn next
pub record IsDrawn (agrees : FactAgrees) (table : TableData) (key : FactKey) (stamp : ℕ) (sources : State) (claim : Claim)
    : Type 0 where
  pub none_agrees : NoneAgrees agrees table.rows key sources
  pub none_runs : NoneRuns table.running key stamp
  pub drawn : claim ≡ claim_of (next_claim table key stamp sources)

abbrev pub IsClaimAnswer : FactAgrees → TableData → FactKey → ℕ → State → ClaimAnswer → Type 0
IsClaimAnswer agrees table key stamp sources (Have row) = IsLast agrees table.rows key sources row
IsClaimAnswer agrees table key stamp sources (Taken serial) = IsTaken agrees table key stamp sources serial
IsClaimAnswer agrees table key stamp sources (Yours claim) = IsDrawn agrees table key stamp sources claim

-- the table that a claim with this answer leaves
abbrev pub after_claim : TableData → FactKey → ℕ → State → ClaimAnswer → TableData
after_claim table key stamp sources (Have row) = table
after_claim table key stamp sources (Taken serial) = table
after_claim table key stamp sources (Yours claim) = claimed table key stamp sources
