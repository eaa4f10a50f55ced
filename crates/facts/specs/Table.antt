-- The table of rows as data (own), and what each of its events leaves. Rows stand in the order in which they were
-- published. Serials are 1, 2, 3 and so on, each drawn by a claim. Once a row is published, the first rows go while the
-- bytes of all exceed the limit.
use Rattle.std.specs.Prelude.{◌+◌, ◌-◌, ◌*◌, ◌==◌, ℕ, not, List, [], ◌∷◌, ◌++◌, Option, Some, None, Result, Ok, Err, filter, length, nat_le, sum_by, if◌then◌else◌}
use Rattle.std.specs.Arc.{arc_value}
use Rattle.std.specs.declared.alloc.Global.{Global}
use Rattle.std.specs.declared.sync.Arc.{Arc}
use Rattle.dita_doc.specs.Desk.{State}
use Rattle.dita_doc.specs.declared.fact.FactKey.{FactKey}
use Rattle.dita_doc.specs.declared.fact.Html.{Html}
use Rattle.dita_doc.specs.declared.fact.Part.{Part}
use Rattle.dita_doc.specs.declared.fact.Part.TheVariants as parts
use Rattle.dita_doc.specs.declared.plan.Plan.{Plan}
use Rattle.dita_doc.specs.declared.plan.PlanStop.{PlanStop}
use Rattle.facts.specs.Rows.{RowData, Running}
use Rattle.facts.specs.declared.fact.Fact.{Fact}

-- the rows that are kept, the claims that run, how many serials were drawn, how many rows were dropped, and how many
-- bytes the rows may have
pub record TableData : Type 0 where
  pub rows : List RowData
  pub running : List Running
  pub drawn : ℕ
  pub dropped : ℕ
  pub limit : ℕ

abbrev pub new_table : ℕ → TableData
new_table limit = record { rows = []; running = []; drawn = 0; dropped = 0; limit = limit }

-- how many rows were published
abbrev pub made : TableData → ℕ
made table = table.dropped + length table.rows

-- Bytes

-- 256 for each node and each page of a plan, and none for a build without a plan
abbrev pub plan_bytes : Result Plan PlanStop → ℕ
plan_bytes (Ok plan) = 256 * (length plan.nodes + length plan.pages)
plan_bytes (Err stop) = 0

abbrev pub html_bytes : Option (Arc Html Global) → ℕ
html_bytes None = 0
html_bytes (Some html) = length (arc_value html).bytes

abbrev pub bytes_of_part : Part → Fact → ℕ
bytes_of_part parts.Plan fact = plan_bytes (arc_value fact.plan).value
bytes_of_part (parts.Page index) fact = html_bytes fact.html
bytes_of_part parts.Contents fact = html_bytes fact.html

abbrev pub value_bytes : Fact → ℕ
value_bytes fact = bytes_of_part fact.key.part fact

-- what a row counts for: its value, 64, and 32 for each name that is stored in its snapshot's sources
abbrev pub row_bytes : Fact → State → ℕ
row_bytes fact sources = value_bytes fact + 64 + 32 * length sources

abbrev pub size : List RowData → ℕ
size rows = sum_by (λ (row : RowData). row.bytes) rows

-- what is left of rows within a limit: the first go while the bytes of all exceed it
abbrev pub left : ℕ → List RowData → List RowData
left limit [] = []
left limit (row ∷ rows) = if nat_le (size (row ∷ rows)) limit then row ∷ rows else left limit rows

-- Claims

-- the claim that is drawn next
abbrev pub next_claim : TableData → FactKey → ℕ → State → Running
next_claim table key stamp sources = record { serial = table.drawn + 1; key = key; stamp = stamp; state = sources }

abbrev pub claimed : TableData → FactKey → ℕ → State → TableData
claimed table key stamp sources = record table {
  running = table.running ++ next_claim table key stamp sources ∷ [];
  drawn = table.drawn + 1;
}

-- the claims but for that of this serial
abbrev pub others : ℕ → List Running → List Running
others serial running = filter (λ (claim : Running). not (claim.serial == serial)) running

-- a claim ends, and makes no row
abbrev pub released : TableData → ℕ → TableData
released table serial = record table { running = others serial table.running }

-- Rows

-- the row of a fact that is published for a running claim
abbrev pub row_of : TableData → Running → Fact → RowData
row_of table claim fact = record {
  serial = claim.serial;
  stamp = claim.stamp;
  rank = made table + 1;
  mark = table.drawn;
  bytes = row_bytes fact claim.state;
  fact = fact;
}

abbrev pub with_row : TableData → Running → Fact → List RowData
with_row table claim fact = table.rows ++ row_of table claim fact ∷ []

-- the claim ends, its row stands last, and the first rows go while the bytes exceed the limit
abbrev pub published : TableData → Running → Fact → TableData
published table claim fact = record table {
  rows = left table.limit (with_row table claim fact);
  running = others claim.serial table.running;
  dropped = table.dropped
      + (length (with_row table claim fact) - length (left table.limit (with_row table claim fact)));
}
