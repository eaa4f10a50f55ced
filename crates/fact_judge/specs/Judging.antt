-- What a judge goes by (own): what is known of older sources, and the tables of the plan there.
use Rattle.std.specs.Prelude.{◌≡◌, ℕ, Bool, true, false, List, Option, Some, None, Ok}
use Rattle.std.specs.Arc.{arc_value}
use Rattle.std.specs.declared.alloc.Global.{Global}
use Rattle.std.specs.declared.sync.Arc.{Arc}
use Rattle.std.proofs.Props.{props}
use Rattle.dita_doc.specs.Desk.{State}
use Rattle.dita_doc.specs.declared.fact.Part.TheVariants as parts
use Rattle.dita_doc.specs.declared.plan.Plan.{Plan}
use Rattle.dita_doc.specs.declared.question.Question.{Question}
use Rattle.dita_doc.specs.declared.question.Question.TheVariants as questions
use Rattle.fact_judge.specs.Agreed.{plan_agrees}
use Rattle.fact_judge.specs.Sound.{IsSound}
use Rattle.facts.specs.Judged.{HasStood}
use Rattle.facts.specs.declared.fact.Fact.{Fact}
use Rattle.map_spec.specs.PlanOf.{limits, plan_of}
use Rattle.plan_reader.specs.Tables.{AreTables, AreTables-prop}
use Rattle.plan_reader.specs.declared.tables.PlanTables.{PlanTables}
use Rattle.reader_spec.specs.World.{World, world_of}

-- it was so over older sources, of which all has stood that has a version of at most this
pub record WasSo (is : State → Type 0) (since : ℕ) (newer : State) : Type 0 where
  pub older : State
  pub was : is older
  pub stood : HasStood since older newer

-- the document under this name has stood: it is the one of all older sources of which so much has stood
pub record HasStoodAt (since : ℕ) (newer : State) (name : List ℕ) : Type 0 where
  pub same : (older : State) → HasStood since older newer → world_of older name ≡ world_of newer name

-- the question is put for the nodes, the documents or the pages of a plan
abbrev pub is_about_plan : Question → Bool
is_about_plan (questions.Document name) = false
is_about_plan (questions.Kind name) = false
is_about_plan (questions.Title name topic) = false
is_about_plan (questions.First name) = false
is_about_plan (questions.Key scope text) = true
is_about_plan (questions.Pushes name) = true
is_about_plan (questions.PageOf name context) = true

-- the tables are those of the plan that a map with a DITAVAL, or without, has in the world
pub record AreTablesOf (world : World) (map : List ℕ) (val : Option (List ℕ)) (tables : PlanTables) : Type 0 where
  pub each : (plan : Plan) → plan_of limits world map val ≡ Ok plan
      → AreTables world plan.nodes plan.documents plan.pages tables

-- so are those that a judge has, if it has any
abbrev pub HasTablesOf : World → List ℕ → Option (List ℕ) → Option (Arc PlanTables Global) → Type 0
HasTablesOf world map val None = Unit {0}
HasTablesOf world map val (Some tables) = AreTablesOf world map val (arc_value tables)

-- there is one proof of this at most
AreTablesOf-prop : (world : World) (map : List ℕ) (val : Option (List ℕ)) (tables : PlanTables)
    → IsProp (AreTablesOf world map val tables)
AreTablesOf-prop world map val tables = hlevel (props, AreTables-prop)

pub HasTablesOf-prop : (world : World) (map : List ℕ) (val : Option (List ℕ)) (tables : Option (Arc PlanTables Global))
    → IsProp (HasTablesOf world map val tables)
HasTablesOf-prop world map val None = hlevel props
HasTablesOf-prop world map val (Some tables) = AreTablesOf-prop world map val (arc_value tables)

-- A fact that a judge is handed for its tables: it is that of the plan of its map and DITAVAL, sound, and its questions
-- have their answers there

pub record IsPlanFact (sources : State) (map : List ℕ) (val : Option (List ℕ)) (fact : Fact) : Type 0 where
  pub key : fact.key ≡ record { map = map; val = val; part = parts.Plan }
  pub sound : IsSound fact
  pub agrees : plan_agrees (arc_value fact.plan) sources

abbrev pub IsPlannedBy : State → List ℕ → Option (List ℕ) → Option Fact → Type 0
IsPlannedBy sources map val None = Unit {0}
IsPlannedBy sources map val (Some fact) = IsPlanFact sources map val fact
