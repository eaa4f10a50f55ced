-- How a build by workers ends (own), over what its caller knew, `v`, and what it knows then, `w`, and over the pages
-- that the outlet took before and after. The build has a place in the history, and its pages are those of the clean
-- build of the sources there. What the workers did is said in every case in which it has its place.
use Rattle.std.specs.Prelude.{◌≡◌, ◌⊎◌, ◌≤◌, ℕ, List, [], Option, Some, None, Result, Ok, Err, IsSome, drop, map}
use Rattle.std.specs.Arc.{arc_value}
use Rattle.std.specs.declared.alloc.Global.{Global}
use Rattle.std.specs.declared.sync.Arc.{Arc}
use Rattle.build_spec.specs.Built as clean_spec
use Rattle.dita_doc.specs.Desk.{State}
use Rattle.dita_doc.specs.Request.{Build}
use Rattle.dita_doc.specs.declared.fact.Html.{Html}
use Rattle.dita_outside.specs.Cause.{Rose}
use Rattle.dita_outside.specs.Pages.{Pages, TakesPages, TakesPagesFront}
use Rattle.facts.specs.Rows.{row_data}
use Rattle.desk_lock.specs.Calls.{Begins, IsFull, Looks}
use Rattle.desk_lock.specs.Lists.{Each, StartsWith}
use Rattle.desk_lock.specs.Meaning.{Meaning}
use Rattle.desk_lock.specs.declared.view.View.{View}
use Rattle.version_store.specs.declared.full.Full as full_declared
use Rattle.desk_language.specs.Language.{Language, parts_of}
use Rattle.desk_work.specs.Work.{Job, Progress}
use Rattle.desk_work.specs.declared.built.BuildStop.{BuildStop}
use Rattle.desk_work.specs.declared.built.BuildStop.TheVariants.{OutletFault, NoMemory, Full}
use Rattle.desk_work.specs.declared.built.Built.{Built}
use Rattle.desk_work.specs.declared.built.Outcome.{Outcome}
use Rattle.desk_work.specs.declared.built.Outcome.TheVariants.{Done, Stopped, TooLarge}
use Rattle.desk_work.specs.declared.built.PageRow.{PageRow}

-- what is asked for: a map with a DITAVAL or without, by the request of this number
pub record BuildOrder : Type 0 where
  pub number : ℕ
  pub root : List ℕ
  pub val : Option (List ℕ)

abbrev pub order_of : ℕ → List ℕ → Option (List ℕ) → BuildOrder
order_of asked map val = record { number = asked; root = map; val = val }

-- The outcome, as the clean build would say it

abbrev pub html_in : Option (Arc Html Global) → List ℕ
html_in None = []
html_in (Some html) = (arc_value html).bytes

abbrev pub page_seen : PageRow → clean_spec.Page
page_seen page = (page.name, html_in (row_data page.row).fact.html)

abbrev pub outcome_seen : Outcome → clean_spec.BuildOutcome
outcome_seen (Done pages faults) = clean_spec.Done (map page_seen pages) faults
outcome_seen (Stopped stop) = clean_spec.Stopped stop
outcome_seen (TooLarge total) = clean_spec.TooLarge total

-- the rows that a finished build names are those cited for its pages and its contents page: the plan's is the first job
abbrev pub NamesCited : Outcome → List Job → Type 0
NamesCited (Done pages faults) jobs =
    map (λ (page : PageRow). Some (row_data page.row)) pages ≡ map (λ (job : Job). job.row) (drop 1 jobs)
NamesCited (Stopped stop) jobs = Unit {0}
NamesCited (TooLarge total) jobs = Unit {0}

-- The build stands at its place, and its workers came so far

pub record Stood (means : Meaning) (language : Language) (v : View) (order : BuildOrder) (place : ℕ) (state : State)
    (jobs : List Job) (w : View) : Type 0 where
  pub stamp : ℕ
  pub between : View
  pub begun :
      Begins v order.number order.root order.val place (record { stamp = stamp; state = state }) between
  pub progress : Progress
      (record { means = means; language = language; snapshot = record { stamp = stamp; state = state } }) between w jobs
  -- the parts that were given to workers are the first of the build's parts, in order
  pub keys : StartsWith (parts_of language state order.root order.val) (map (λ (job : Job). job.key) jobs)
  pub parts : w.parts ≡ v.parts

-- each part of the build was done
pub record Whole (language : Language) (order : BuildOrder) (state : State) (jobs : List Job) : Type 0 where
  pub all : map (λ (job : Job). job.key) jobs ≡ parts_of language state order.root order.val
  pub done : Each (λ (job : Job). IsSome job.row) jobs

-- the pages of the clean build of the sources at the build's place
abbrev pub clean_pages : Language → BuildOrder → State → Pages
clean_pages language order state = clean_spec.built_pages (language.clean state order.root order.val)

-- How it ends

pub record EndsBuilt (means : Meaning) (language : Language) (v : View) (order : BuildOrder) (built : Built) (w : View)
    (old new : Option Pages) : Type 0 where
  pub state : State
  pub jobs : List Job
  pub stood : Stood means language v order built.place state jobs w
  pub whole : Whole language order state jobs
  pub outcome : outcome_seen built.outcome ≡ language.clean state order.root order.val
  pub cited : NamesCited built.outcome jobs
  pub took : TakesPages old new (clean_pages language order state)

-- the outlet failed, when each part was done
pub record EndsUndelivered (means : Meaning) (language : Language) (v : View) (order : BuildOrder) (w : View)
    (old new : Option Pages) : Type 0 where
  pub place : ℕ
  pub state : State
  pub jobs : List Job
  pub stood : Stood means language v order place state jobs w
  pub whole : Whole language order state jobs
  pub took : TakesPagesFront old new (clean_pages language order state)

-- the build has its place, and then there was no memory
pub record EndsShort (means : Meaning) (language : Language) (v : View) (order : BuildOrder) (w : View)
    (old new : Option Pages)
    : Type 0 where
  pub place : ℕ
  pub state : State
  pub jobs : List Job
  pub stood : Stood means language v order place state jobs w
  pub took : TakesPagesFront old new (clean_pages language order state)

-- the build has no place, and the outlet took nothing
pub record EndsNowhere (v w : View) (old new : Option Pages) : Type 0 where
  pub looks : Looks v w
  pub took : TakesPages old new []

pub record EndsFull (v : View) (order : BuildOrder) (full : full_declared.Full) (w : View)
    (old new : Option Pages) : Type 0 where
  pub passed : IsFull v (Build order.root order.val) full w
  pub took : TakesPages old new []

abbrev pub Ends : Meaning → Language → View → BuildOrder → Result Built BuildStop → View → Option Pages → Option Pages
    → Type 0
Ends means language v order (Ok built) w old new = EndsBuilt means language v order built w old new
Ends means language v order (Err OutletFault) w old new = EndsUndelivered means language v order w old new
Ends means language v order (Err (Full full)) w old new = EndsFull v order full w old new
Ends means language v order (Err NoMemory) w old new =
    EndsShort means language v order w old new ⊎ EndsNowhere v w old new

-- the outlet's count of faults never falls, and rose if the outlet failed; it stays if the build gives something or the
-- history is full
abbrev pub HasBuildCause : ℕ → ℕ → Result Built BuildStop → Type 0
HasBuildCause before now (Ok built) = now ≡ before
HasBuildCause before now (Err OutletFault) = (before ≤ now) × Rose before now
HasBuildCause before now (Err (Full full)) = now ≡ before
HasBuildCause before now (Err NoMemory) = before ≤ now
