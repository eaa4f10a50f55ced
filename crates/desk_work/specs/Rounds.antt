-- What a build does with its workers (own), over what the pass knew before and what it knows then: parts are given out,
-- and come back with a row each; what is built is put together from the rows. If memory runs out, the workers came so
-- far.
use Rattle.std.specs.Prelude.{◌≡◌, List, ◌++◌, Option, Some, None, Ok, length, map}
use Rattle.dita_doc.specs.declared.fact.FactKey.{FactKey}
use Rattle.dita_doc.specs.declared.plan.Plan.{Plan}
use Rattle.facts.specs.Rows.{RowData, plan_in}
use Rattle.desk_lock.specs.Lists.{Each, StartsWith}
use Rattle.desk_lock.specs.declared.view.View.{View}
use Rattle.desk_language.specs.Language.{pages_from, parts_of}
use Rattle.desk_work.specs.Attempts.{IsDone, keys_of}
use Rattle.desk_work.specs.Build.{NamesCited, outcome_seen}
use Rattle.desk_work.specs.Cited.{NamesRows}
use Rattle.desk_work.specs.Outcome.{outcome_of}
use Rattle.desk_work.specs.Work.{Basis, Job, Progress}
use Rattle.desk_work.specs.declared.built.Outcome.{Outcome}

-- Parts that are given out

-- behind what it had done so far, the pass has done these parts too
abbrev pub GoesOnBy : Basis → View → List Job → View → Type 0
GoesOnBy basis before jobs after = (v : View) (first : List Job) → Progress basis v before first
    → Progress basis v after (first ++ jobs)

-- these are the parts, and for each this row is cited
pub record GetsRows (basis : Basis) (before : View) (keys : List FactKey) (after : View) (rows : List RowData) : Type 0
  where
    pub jobs : List Job
    pub keys_are : keys_of jobs ≡ keys
    pub rows_are : map (λ (job : Job). job.row) jobs ≡ map (λ (row : RowData). Some row) rows
    pub goes_on : GoesOnBy basis before jobs after

-- the first of these parts were given out, perhaps none and perhaps all
pub record TriesParts (basis : Basis) (before : View) (keys : List FactKey) (after : View) : Type 0 where
  pub jobs : List Job
  pub keys_are : StartsWith keys (keys_of jobs)
  pub goes_on : GoesOnBy basis before jobs after

-- The plan of a build

-- the row is that of the root, and keeps this plan
pub record KeepsPlan (root : FactKey) (plan : Plan) (row : RowData) : Type 0 where
  pub of : row.fact.key ≡ root
  pub value : (plan_in row).value ≡ Ok plan

abbrev pub HasPlan : FactKey → Plan → Option RowData → Type 0
HasPlan root plan None = ⊥
HasPlan root plan (Some row) = KeepsPlan root plan row

-- the parts of a build that has this plan, but for the plan
abbrev pub parts_behind : FactKey → Plan → List FactKey
parts_behind root plan = pages_from root.map root.val 0 (length plan.pages)

-- What is built

-- it is put together from the rows of these parts
pub record PutsTogether (basis : Basis) (root : FactKey) (plan : Plan) (before after : View) (outcome : Outcome) : Type 0
  where
    pub rows : List RowData
    pub gets : GetsRows basis before (parts_behind root plan) after rows
    pub outcome_is : outcome_seen outcome ≡ outcome_of plan (map (λ (row : RowData). row.fact) rows)
    pub names : NamesRows outcome rows

-- each part of the root's build was done, and what is built is what the language says
pub record Builds (basis : Basis) (root : FactKey) (before after : View) (outcome : Outcome) : Type 0 where
  pub jobs : List Job
  pub progress : Progress basis before after jobs
  pub all : keys_of jobs ≡ parts_of basis.language basis.snapshot.state root.map root.val
  pub done : Each IsDone jobs
  pub outcome_is : outcome_seen outcome ≡ basis.language.clean basis.snapshot.state root.map root.val
  pub cited : NamesCited outcome jobs

-- the workers came so far with the parts of the root's build
pub record ComesSoFar (basis : Basis) (root : FactKey) (before after : View) : Type 0 where
  pub jobs : List Job
  pub progress : Progress basis before after jobs
  pub keys : StartsWith (parts_of basis.language basis.snapshot.state root.map root.val) (keys_of jobs)
