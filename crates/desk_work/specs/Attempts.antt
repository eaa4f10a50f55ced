-- How an attempt of a worker at a part ends, and how a worker goes on (own), over what its hand knew, `v`, and what it
-- knows then, `w`.
use Rattle.std.specs.Prelude.{◌≡◌, ◌≤◌, ℕ, Bool, false, List, [], Option, Some, None, Result, Ok, Err, IsSome, map, set, slice_get, sum_by}
use Rattle.std.specs.Arc.{arc_value}
use Rattle.std.specs.Option.{option_map}
use Rattle.dita_doc.specs.declared.fact.FactKey.{FactKey}
use Rattle.dita_doc.specs.declared.stop.NoMemory.{NoMemory}
use Rattle.facts.specs.Rows.{Claim, RowData, row_data}
use Rattle.facts.specs.declared.fact.Fact.{Fact}
use Rattle.facts.specs.declared.pair.FactPair.{FactPair}
use Rattle.facts.specs.declared.row.Row.{Row}
use Rattle.desk_lock.specs.Calls.{Publishes, Releases}
use Rattle.desk_lock.specs.Lists.{Each}
use Rattle.desk_lock.specs.declared.view.View.{View}
use Rattle.desk_work.specs.Makers.{IsMade}
use Rattle.desk_work.specs.Work.{Basis, Cites, Job, Progress, Worked}
use Rattle.desk_work.specs.declared.work.Job.{Job as WorkerJob}

abbrev pub job_seen : WorkerJob → Job
job_seen job = record { key = job.key; row = option_map row_data job.row }

abbrev pub jobs_seen : List WorkerJob → List Job
jobs_seen jobs = map job_seen jobs

abbrev pub keys_of : List Job → List FactKey
keys_of jobs = map (λ (job : Job). job.key) jobs

-- Attempts

-- there is a row, which is cited for the part, and nothing else was published
pub record Got (basis : Basis) (v : View) (part : FactKey) (row : RowData) (w : View) : Type 0 where
  pub rows : List RowData
  pub worked : Worked basis v w rows
  pub cites : Cites basis v w part rows row
  pub once : (weight : RowData → ℕ) → sum_by weight rows ≤ weight row
  pub among : Each (λ (one : RowData). one ≡ row) rows

-- there is none, because another makes the part or memory ran out: nothing was published, and no claim is left
abbrev pub Attempts : Basis → View → FactKey → Result (Option Row) NoMemory → View → Type 0
Attempts basis v part (Ok (Some row)) w = Got basis v part (row_data row) w
Attempts basis v part (Ok None) w = Worked basis v w []
Attempts basis v part (Err stop) w = Worked basis v w []

-- a claim is ended with what was made for it, or without
abbrev pub EndsClaim : View → Claim → Result FactPair NoMemory → Result (Option Row) NoMemory → View → Type 0
EndsClaim v claim (Ok pair) (Ok (Some row)) w = Publishes v claim (arc_value pair.kept) (row_data row) w
EndsClaim v claim (Ok pair) (Ok None) w = ⊥
EndsClaim v claim (Ok pair) (Err stop) w = ⊥
EndsClaim v claim (Err none) (Ok row) w = ⊥
EndsClaim v claim (Err none) (Err stop) w = Releases v claim.serial w

-- a claim is ended with the part, which was made for the snapshot, or without
abbrev pub IsClaimDone : Basis → Option RowData → FactKey → View → Claim → Result (Option Row) NoMemory → View → Type 0
IsClaimDone basis plan part v claim (Ok (Some row)) w = (fact : Fact)
    × IsMade basis.means basis.language basis.snapshot.state plan part fact × Publishes v claim fact (row_data row) w
IsClaimDone basis plan part v claim (Ok None) w = ⊥
IsClaimDone basis plan part v claim (Err stop) w = Releases v claim.serial w

-- Workers

-- so far as the pass is with these parts before, so far it is with those behind
abbrev pub GoesOn : Basis → View → List Job → View → List Job → Type 0
GoesOn basis before jobs after more = (v : View) → Progress basis v before jobs → Progress basis v after more

-- the same of one part among any others
abbrev pub GoesOnAt : Basis → View → Job → View → Job → Type 0
GoesOnAt basis before job after new = (jobs : List Job) (k : ℕ) → slice_get jobs k ≡ Some job
    → GoesOn basis before jobs after (set jobs k new)

abbrev pub IsDone : Job → Type 0
IsDone job = IsSome job.row

-- a worker that did not fail has a row for each of its parts
abbrev pub HasAll : Bool → List Job → Type 0
HasAll failed jobs = failed ≡ false → Each IsDone jobs

-- the parts are the same, and the pass is on with them
pub record WorksOn (basis : Basis) (before : View) (jobs : List Job) (after : View) (more : List Job) : Type 0 where
  pub same : keys_of more ≡ keys_of jobs
  pub goes_on : GoesOn basis before jobs after more
