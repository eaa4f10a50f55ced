-- Rows and running claims as data (own): an `Arc` is what it holds. A row is a fact that is kept. A claim is leave to
-- make a part for a snapshot, and runs until its row is published or it is released.
use Rattle.std.specs.Prelude.{◌≡◌, ◌==◌, ℕ, List, Some, slice_get, if◌then◌else◌}
use Rattle.std.specs.Arc.{arc_value}
use Rattle.dita_doc.specs.Desk.{State}
use Rattle.dita_doc.specs.declared.fact.FactKey.{FactKey}
use Rattle.facts.specs.declared.fact.Fact.{Fact}
use Rattle.facts.specs.declared.fact.PlanFact.{PlanFact}
use Rattle.facts.specs.declared.row.Row.{Row}

pub record RowData : Type 0 where
  pub serial : ℕ
  pub stamp : ℕ
  pub rank : ℕ
  pub mark : ℕ
  pub bytes : ℕ
  pub fact : Fact

abbrev pub row_data : Row → RowData
row_data row = record {
  serial = row.serial;
  stamp = row.stamp;
  rank = row.rank;
  mark = row.mark;
  bytes = row.bytes;
  fact = arc_value row.fact;
}

-- what a claim is known by, and what its ticket says
pub record Claim : Type 0 where
  pub serial : ℕ
  pub key : FactKey
  pub stamp : ℕ

-- a claim that runs, with the sources of its snapshot
pub record Running : Type 0 where
  pub serial : ℕ
  pub key : FactKey
  pub stamp : ℕ
  pub state : State

abbrev pub claim_of : Running → Claim
claim_of running = record { serial = running.serial; key = running.key; stamp = running.stamp }

-- it is an element of the list
abbrev pub Stands : {X : Type 0} → List X → X → Type 0
Stands xs x = (k : ℕ) × (slice_get xs k ≡ Some x)

-- The plan on which a row rests

abbrev pub plan_in : RowData → PlanFact
plan_in row = arc_value row.fact.plan

-- the serial under which a fact's plan is judged: that of the plan's row, or else that of the fact's own row
abbrev pub serial_of_plan : Fact → ℕ → ℕ
serial_of_plan fact serial = if fact.planned == 0 then serial else fact.planned

abbrev pub plan_serial : RowData → ℕ
plan_serial row = serial_of_plan row.fact row.serial

-- each row whose plan is judged under this serial has this plan
abbrev pub HaveOnePlan : List RowData → ℕ → PlanFact → Type 0
HaveOnePlan rows serial plan = (row : RowData) → Stands rows row → plan_serial row ≡ serial → plan_in row ≡ plan
