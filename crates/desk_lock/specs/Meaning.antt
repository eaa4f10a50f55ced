-- What a desk must know of finished parts (own): which sources a part agrees with, so that each of its questions has
-- its recorded answer there, and whether it is sound, so that it is the part wherever it agrees, and asks for no
-- document out of reach. The language gives both.
use Rattle.std.specs.Prelude.{◌≡◌, ◌<◌, List}
use Rattle.dita_doc.specs.Desk.{State}
use Rattle.dita_doc.specs.declared.fact.FactKey.{FactKey}
use Rattle.facts.specs.Latest.{Agrees, FactAgrees}
use Rattle.facts.specs.Memo.{PlanAgrees}
use Rattle.facts.specs.Rows.{RowData}
use Rattle.facts.specs.declared.fact.Fact.{Fact}
use Rattle.desk_lock.specs.Lists.{Each}

pub record Meaning : Type 1 where
  pub agrees : FactAgrees
  pub is_sound : Fact → Type 0

-- the row keeps this part, and is right over these sources
pub record IsRightRow (means : Meaning) (row : RowData) (part : FactKey) (state : State) : Type 0 where
  pub key : row.fact.key ≡ part
  pub agrees : means.agrees row.fact state
  pub sound : means.is_sound row.fact

-- of these rows none of this part that was published later agrees
abbrev pub NoLaterAgrees : Meaning → List RowData → RowData → FactKey → State → Type 0
NoLaterAgrees means rows row part state =
    Each (λ (old : RowData). old.fact.key ≡ part → row.rank < old.rank → means.agrees old.fact state → ⊥) rows

-- what the parts of a language are by: the questions of their plan, and their own
abbrev pub meant_by : PlanAgrees → FactAgrees → (Fact → Type 0) → Meaning
meant_by plan_agrees own_agrees is_sound =
    record { agrees = Agrees plan_agrees own_agrees; is_sound = is_sound }
