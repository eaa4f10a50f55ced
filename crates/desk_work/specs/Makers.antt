-- What judges and makers of parts give a build (own). They stand for the language: a plan that is made is that of its
-- map, a part that is made is that of its key, and both count for what the language says.
use Rattle.std.specs.Prelude.{◌≡◌, ◌<◌, Option, Some, None, Result, Ok, Err, length}
use Rattle.std.specs.Arc.{arc_value}
use Rattle.dita_doc.specs.Desk.{State}
use Rattle.dita_doc.specs.declared.fact.FactKey.{FactKey}
use Rattle.dita_doc.specs.declared.fact.Part.{Part}
use Rattle.dita_doc.specs.declared.fact.Part.TheVariants as parts
use Rattle.dita_doc.specs.declared.plan.Plan.{Plan}
use Rattle.dita_doc.specs.declared.plan.PlanStop.{PlanStop}
use Rattle.facts.specs.Rows.{RowData, plan_in}
use Rattle.facts.specs.Table.{value_bytes}
use Rattle.facts.specs.declared.fact.Fact.{Fact}
use Rattle.desk_language.specs.Language.{Language}
use Rattle.desk_lock.specs.Meaning.{Meaning}

-- the fact is right over these sources, and its value has the bytes of its part there
pub record IsRightFact (means : Meaning) (language : Language) (state : State) (fact : Fact) : Type 0 where
  pub sound : means.is_sound fact
  pub agrees : means.agrees fact state
  pub counts : value_bytes fact ≡ language.value_bytes state fact.key

-- the plan of this key, which rests on itself
pub record IsPlanMade (means : Meaning) (language : Language) (root : FactKey) (state : State) (fact : Fact) : Type 0
  where
    pub of : fact.key ≡ root
    pub right : IsRightFact means language state fact
    pub alone : fact.planned ≡ 0

-- which parts are made by a plan
abbrev pub HasPart : Result Plan PlanStop → Part → Type 0
HasPart (Err stop) part = ⊥
HasPart (Ok plan) parts.Plan = ⊥
HasPart (Ok plan) (parts.Page index) = index < length plan.pages
HasPart (Ok plan) parts.Contents = Unit {0}

-- the part of the map and the DITAVAL of a plan's row, which rests on that row
pub record IsPartMade (means : Meaning) (language : Language) (row : RowData) (part : Part) (state : State)
    (fact : Fact) : Type 0 where
  pub of : fact.key ≡ record row.fact.key { part = part }
  pub right : IsRightFact means language state fact
  pub planned : fact.planned ≡ row.serial
  pub plan : arc_value fact.plan ≡ plan_in row

-- Parts as workers make them

-- the fact is a plan, or rests on the plan of this row
abbrev pub RestsOn : Option RowData → Fact → Type 0
RestsOn None fact = fact.planned ≡ 0
RestsOn (Some row) fact = (fact.planned ≡ row.serial) × (arc_value fact.plan ≡ plan_in row)

-- the part of this key, right over these sources
pub record IsMade (means : Meaning) (language : Language) (state : State) (plan : Option RowData) (part : FactKey)
    (fact : Fact) : Type 0 where
  pub of : fact.key ≡ part
  pub right : IsRightFact means language state fact
  pub rests : RestsOn plan fact
