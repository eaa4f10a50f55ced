-- What workers of a build share, and what is so of each (own). A build has a root, the key of its plan; the sources of
-- its snapshot; and, once its plan is there, the plan's row. A hand that is at work is of the build's desk, has seen the
-- history up to the snapshot, and knows the plan's row.
use Rattle.std.specs.Prelude.{◌≡◌, List, Option, Some, None, IfSome}
use Rattle.dita_doc.specs.Desk.{State}
use Rattle.dita_doc.specs.declared.fact.FactKey.{FactKey}
use Rattle.dita_doc.specs.declared.fact.Part.TheVariants as parts
use Rattle.desk_core.specs.Book.{SnapshotData}
use Rattle.desk_core.specs.Steps.{IsSnapshotOf}
use Rattle.desk_lock.specs.Knows.{hand_parts}
use Rattle.desk_lock.specs.Lists.{Each, StartsWith}
use Rattle.desk_lock.specs.Meaning.{meant_by}
use Rattle.desk_lock.specs.Tokens.{IsHandOf, hand_view}
use Rattle.desk_lock.specs.declared.desk.Desk.{Desk}
use Rattle.desk_lock.specs.declared.desk.Hand.{Hand}
use Rattle.desk_lock.specs.declared.view.View.{View}
use Rattle.desk_language.specs.Language.{Language}
use Rattle.facts.specs.Judged.{BuildKey, build_key}
use Rattle.facts.specs.Latest.{FactAgrees}
use Rattle.facts.specs.Memo.{PlanAgrees}
use Rattle.facts.specs.Rows.{RowData, Stands, plan_in}
use Rattle.facts.specs.declared.fact.Fact.{Fact}
use Rattle.desk_work.specs.Makers.{HasPart}
use Rattle.desk_work.specs.Work.{Basis, Job}

-- the part is made by this plan; without a plan it is the plan that is made
abbrev pub IsPartBy : Option RowData → FactKey → Type 0
IsPartBy None part = part.part ≡ parts.Plan
IsPartBy (Some row) part =
    (part ≡ record row.fact.key { part = part.part }) × HasPart (plan_in row).value part.part

-- the part is one of the root's build
pub record IsPartOf (root : FactKey) (plan : Option RowData) (part : FactKey) : Type 0 where
  pub build_is : build_key part ≡ build_key root
  pub by : IsPartBy plan part

-- the plan that is ready is one over these sources
abbrev pub IsReadyOver : {R : Type 0} → (R → State) → State → Option R → Type 0
IsReadyOver state_of state ready = IfSome ready (λ plan. state_of plan ≡ state)

-- the maker is that of the plan's row, over these sources
pub record IsMakerOf {K : Type 0} (row : K → RowData) (state_of : K → State) (state : State) (plan : Option RowData)
    (maker : K) : Type 0 where
  pub plans : plan ≡ Some (row maker)
  pub over : state_of maker ≡ state

abbrev pub HasMaker : {K : Type 0} → (K → RowData) → (K → State) → State → Option RowData → Option K → Type 0
HasMaker row state_of state plan maker = IfSome maker (IsMakerOf row state_of state plan)

-- the judge judges facts of the root's build by these sources
pub record IsJudgeOf {J : Type 0} (sources : J → State) (build : J → BuildKey) (root : FactKey) (state : State) (judge : J)
    : Type 0 where
  pub sources_are : sources judge ≡ state
  pub build_is : build judge ≡ build_key root

pub record IsAtWork {B : Type 0} (desk : Desk B) (snapshot : SnapshotData) (plan : Option RowData) (hand : Hand B)
    : Type 0 where
  pub of : IsHandOf desk hand
  pub saw : IsSnapshotOf (hand_view hand).seen snapshot
  pub knows : IfSome plan (Stands (hand_view hand).rows)
  pub one : (hand_view hand).parts ≡ hand_parts

-- it has seen and knows what it had seen and knew before, and has the parts that it had
pub record Stays (v w : View) : Type 0 where
  pub seen : StartsWith w.seen v.seen
  pub known : StartsWith w.rows v.rows
  pub parts : w.parts ≡ v.parts

abbrev pub ArePartsOf : FactKey → Option RowData → List Job → Type 0
ArePartsOf root plan jobs = Each (λ (job : Job). IsPartOf root plan job.key) jobs

-- what is made for the snapshot, in this language
abbrev pub basis_of : PlanAgrees → FactAgrees → (Fact → Type 0) → Language → SnapshotData → Basis
basis_of plan_agrees own_agrees is_sound language snapshot = record {
  means = meant_by plan_agrees own_agrees is_sound;
  language = language;
  snapshot = snapshot;
}
