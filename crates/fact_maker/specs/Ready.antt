-- A plan that is ready for the making of its parts (own): over sources with which it agrees, with its tables and its links
-- there.
use Rattle.std.specs.Prelude.{◌≡◌, List, [], Some, None, Ok, option_map}
use Rattle.std.specs.Arc.{arc_value}
use Rattle.std.specs.declared.alloc.Global.{Global}
use Rattle.std.specs.declared.sync.Arc.{Arc}
use Rattle.std.specs.Option.{option_copied}
use Rattle.clean_build.specs.declared.build_input.BuildInput.{BuildInput}
use Rattle.dita_doc.specs.Desk.{State}
use Rattle.dita_doc.specs.declared.fact.Html.{Html}
use Rattle.dita_doc.specs.declared.fact.Part.{Part}
use Rattle.dita_doc.specs.declared.fact.Part.TheVariants as parts
use Rattle.dita_doc.specs.declared.plan.Plan.{Plan}
use Rattle.dita_doc.specs.declared.question.Asked.{Asked}
use Rattle.fact_judge.specs.Agreed.{PlanAnswers}
use Rattle.fact_judge.specs.Founded.{plan_documents}
use Rattle.fact_judge.specs.Sound.{IsSound}
use Rattle.facts.specs.Rows.{RowData}
use Rattle.facts.specs.declared.fact.Fact.{Fact}
use Rattle.facts.specs.declared.fact.PlanFact.{PlanFact}
use Rattle.node_links.specs.NodeTable.{AreNodeLinks}
use Rattle.node_links.specs.declared.table.NodeLinks.{NodeLinks}
use Rattle.plan_reader.specs.Tables.{AreTables}
use Rattle.plan_reader.specs.declared.tables.PlanTables.{PlanTables}
use Rattle.reader_spec.specs.World.{world_of}
use Rattle.fact_maker.specs.Findings.{GoOn, GoOn-prop}
use Rattle.fact_maker.specs.declared.findings.Findings.{Findings}

-- the tables and the links are those of the plan
pub record AreReady (sources : State) (plan : Plan) (tables : PlanTables) (links : NodeLinks) : Type 0 where
  pub tabled : AreTables (world_of sources) plan.nodes plan.documents plan.pages tables
  pub linked : AreNodeLinks (world_of sources) plan links

-- the fact is sound, and its plan agrees with the sources
pub record HasAgreed (sources : State) (fact : Fact) : Type 0 where
  pub sound : IsSound fact
  pub agrees : PlanAnswers (arc_value fact.plan) (world_of sources)

pub record IsReadyFor (sources : State) (fact : Fact) (tables : PlanTables) (links : NodeLinks) : Type 0 where
  pub plan : Plan
  pub is : (arc_value fact.plan).value ≡ Ok plan
  pub agreed : HasAgreed sources fact
  pub ready : AreReady sources plan tables links

-- of the plan on which a fact rests
abbrev pub IsReady : State → Fact → PlanTables → NodeLinks → Type 0
IsReady sources fact tables links = ∥ IsReadyFor sources fact tables links ∥₁

-- what a part is made for is the plan of a fact
pub record IsGround (sources : State) (fact : Fact) (ground : BuildInput) : Type 0 where
  pub map : ground.map.now ≡ fact.key.map
  pub val : option_copied ground.val ≡ fact.key.val
  pub plan : (arc_value fact.plan).value ≡ Ok ground.plan.now
  pub agreed : HasAgreed sources fact

-- What is made of a row

-- the plan of a row, as a fact that rests on no other row
pub record IsPlanOfRow (row : RowData) (fact : Fact) : Type 0 where
  pub plan : Arc PlanFact Global
  pub is : arc_value plan ≡ arc_value row.fact.plan
  pub alone :
      fact ≡ record { key = record row.fact.key { part = parts.Plan }; plan = plan; planned = 0; asked = []; html = None }

-- a part of the plan of a row, with its HTML and its own questions
pub record IsPartOfRow (row : RowData) (part : Part) (html : Html) (asked : List Asked) (fact : Fact) : Type 0 where
  pub key : fact.key ≡ record row.fact.key { part = part }
  pub plan : arc_value fact.plan ≡ arc_value row.fact.plan
  pub planned : fact.planned ≡ row.serial
  pub own : fact.asked ≡ asked
  pub shown : option_map (λ (share : Arc Html Global). arc_value share) fact.html ≡ Some html

-- What goes on from part to part

abbrev pub FindingsGoOn : State → Fact → Findings → Type 0
FindingsGoOn sources fact findings = GoOn (world_of sources) (plan_documents (arc_value fact.plan).value) findings

pub FindingsGoOn-prop : (sources : State) (fact : Fact) (findings : Findings) → IsProp (FindingsGoOn sources fact findings)
FindingsGoOn-prop sources fact findings = GoOn-prop _ _ findings
