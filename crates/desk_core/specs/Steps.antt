-- What each event of the book is answered, and the book that it leaves (own). A commit and a begin are answered by the
-- one-thread desk at the end of the history; a claim, a publish and a release by the table. An event that has no
-- answer changes nothing. A publish and a release always have one.
use Rattle.std.specs.Prelude.{◌≡◌, ◌≤◌, ℕ, List, [], ◌∷◌, Option, Ok, Err, length}
use Rattle.std.specs.Arc.{arc_value}
use Rattle.dita_doc.specs.Desk.{Reply, State}
use Rattle.dita_doc.specs.History.{Entry, sources}
use Rattle.dita_doc.specs.Request.{HasFewEdits, Request, Single, Get, Names, Build, Group}
use Rattle.dita_doc.specs.declared.fact.FactKey.{FactKey}
use Rattle.dita_doc.specs.declared.stop.Stop.TheVariants.{Fault, NoMemory}
use Rattle.desk_core.specs.Book.{BookData, SnapshotData, snapshot_of}
use Rattle.desk_core.specs.Events as events
use Rattle.desk_core.specs.Events.{Begun, Claimed, Ending, Event, Placed, Published, Released}
use Rattle.facts.specs.Judged.{BuildKey, build_key}
use Rattle.facts.specs.Latest.{ClaimAnswer, FactAgrees, IsClaimAnswer, after_claim}
use Rattle.facts.specs.Rows.{Claim, RowData, Running, Stands, HaveOnePlan, claim_of, serial_of_plan}
use Rattle.facts.specs.Table.{TableData, published, released, row_of}
use Rattle.facts.specs.declared.fact.Fact.{Fact}
use Rattle.version_store.specs.Kept.{Fits, IsFull, answered, reply_now}
use Rattle.version_store.specs.declared.full.Full.{Full}

-- Which events may be put

abbrev pub IsNoBuild : Request → Type 0
IsNoBuild (Single edit) = Unit {0}
IsNoBuild (Get name) = Unit {0}
IsNoBuild Names = Unit {0}
IsNoBuild (Build root val) = ⊥
IsNoBuild (Group edits) = Unit {0}

pub record MayCommit (request : Request) : Type 0 where
  pub no_build : IsNoBuild request
  pub few : HasFewEdits request

-- the snapshot is what was stored after as many entries as its stamp says
pub record IsSnapshotOf (history : List Entry) (snapshot : SnapshotData) : Type 0 where
  pub within : snapshot.stamp ≤ length history
  pub state : snapshot.state ≡ sources history snapshot.stamp

-- the claim of this ticket runs
pub record RunsAs (running : List Running) (ticket : Claim) (claim : Running) : Type 0 where
  pub stands : Stands running claim
  pub same : claim_of claim ≡ ticket

-- the fact is of the claim's key, and is sound; it agrees with the sources that the claim keeps; and each kept row whose
-- plan is judged under the same serial has the same plan
pub record MayPublish (agrees : FactAgrees) (sound : Fact → Type 0) (table : TableData) (ticket : Claim) (fact : Fact)
    : Type 0 where
  pub claim : Running
  pub runs : RunsAs table.running ticket claim
  pub key : fact.key ≡ claim.key
  pub is_sound : sound fact
  pub agreed : agrees fact claim.state
  pub one_plan : HaveOnePlan table.rows (serial_of_plan fact claim.serial) (arc_value fact.plan)

pub record MayRelease (table : TableData) (ticket : Claim) : Type 0 where
  pub claim : Running
  pub runs : RunsAs table.running ticket claim

abbrev pub MayStep : FactAgrees → (Fact → Type 0) → BookData → Event → Type 0
MayStep agrees sound book (events.Commit session number request) = MayCommit request
MayStep agrees sound book (events.Begin session number root val) = Unit {0}
MayStep agrees sound book (events.Claim key snapshot) = IsSnapshotOf book.store.history snapshot
MayStep agrees sound book (events.Publish ticket fact) = MayPublish agrees sound book.table ticket fact
MayStep agrees sound book (events.Release ticket) = MayRelease book.table ticket

-- the judge of an event has this build and these sources: only a claim uses it, for its key's build and its snapshot
pub record IsJudgeOfClaim (build : BuildKey) (sources : State) (key : FactKey) (snapshot : SnapshotData) : Type 0 where
  pub build_is : build ≡ build_key key
  pub sources_are : sources ≡ snapshot.state

abbrev pub IsJudgeFor : BuildKey → State → Event → Type 0
IsJudgeFor build sources (events.Commit session number request) = Unit {0}
IsJudgeFor build sources (events.Begin session number root val) = Unit {0}
IsJudgeFor build sources (events.Claim key snapshot) = IsJudgeOfClaim build sources key snapshot
IsJudgeFor build sources (events.Publish ticket fact) = Unit {0}
IsJudgeFor build sources (events.Release ticket) = Unit {0}

-- Requests

-- the book in which a request of a session stands at the end of the history, with the desk's reply
abbrev pub with_asked : ℕ → ℕ → Request → BookData → BookData
with_asked session number request book = record book { store = answered session number request book.store }

pub record IsAsked (session number : ℕ) (request : Request) (old : BookData) (place : ℕ) (new : BookData) : Type 0 where
  pub at : place ≡ length old.store.history
  pub room : Fits old.store request
  pub left : new ≡ with_asked session number request old

pub record IsPlaced (session number : ℕ) (request : Request) (old : BookData) (place : ℕ) (reply : Reply)
    (new : BookData) : Type 0 where
  pub asked : IsAsked session number request old place new
  pub replied : reply ≡ reply_now old.store request

-- the build has its place, and a snapshot of what is stored there
pub record IsBegun (session number : ℕ) (root : List ℕ) (val : Option (List ℕ)) (old : BookData) (place : ℕ)
    (snapshot : SnapshotData) (new : BookData) : Type 0 where
  pub asked : IsAsked session number (Build root val) old place new
  pub taken : snapshot ≡ snapshot_of old.store

-- one more request would pass a limit, and nothing has changed
pub record HasNoRoom (request : Request) (old : BookData) (full : Full) (new : BookData) : Type 0 where
  pub full_is : IsFull old.store request full
  pub same : new ≡ old

-- The table

-- the book after a claim with this answer, after the row of a claim is published, and after a claim is released

abbrev pub with_claim : FactKey → SnapshotData → ClaimAnswer → BookData → BookData
with_claim key snapshot answer book =
    record book { table = after_claim book.table key snapshot.stamp snapshot.state answer }

abbrev pub with_published : Running → Fact → BookData → BookData
with_published claim fact book = record book { table = published book.table claim fact }

abbrev pub with_released : ℕ → BookData → BookData
with_released serial book = record book { table = released book.table serial }

pub record IsClaimed (agrees : FactAgrees) (key : FactKey) (snapshot : SnapshotData) (old : BookData)
    (answer : ClaimAnswer) (new : BookData) : Type 0 where
  pub answers : IsClaimAnswer agrees old.table key snapshot.stamp snapshot.state answer
  pub left : new ≡ with_claim key snapshot answer old

-- the row of the ticket's claim stands last
pub record IsPublished (ticket : Claim) (fact : Fact) (old : BookData) (row : RowData) (new : BookData) : Type 0 where
  pub claim : Running
  pub runs : RunsAs old.table.running ticket claim
  pub row_is : row ≡ row_of old.table claim fact
  pub left : new ≡ with_published claim fact old

-- Steps

abbrev pub Steps : FactAgrees → BookData → Event → Ending → BookData → Type 0
Steps agrees old (events.Commit session number request) (Ok (Placed place reply)) new =
    IsPlaced session number request old place reply new
Steps agrees old (events.Commit session number request) (Err (Fault full)) new = HasNoRoom request old full new
Steps agrees old (events.Commit session number request) (Err NoMemory) new = new ≡ old
Steps agrees old (events.Begin session number root val) (Ok (Begun place snapshot)) new =
    IsBegun session number root val old place snapshot new
Steps agrees old (events.Begin session number root val) (Err (Fault full)) new = HasNoRoom (Build root val) old full new
Steps agrees old (events.Begin session number root val) (Err NoMemory) new = new ≡ old
Steps agrees old (events.Claim key snapshot) (Ok (Claimed answer)) new = IsClaimed agrees key snapshot old answer new
Steps agrees old (events.Claim key snapshot) (Err NoMemory) new = new ≡ old
Steps agrees old (events.Publish ticket fact) (Ok (Published row)) new = IsPublished ticket fact old row new
Steps agrees old (events.Release ticket) (Ok Released) new = new ≡ with_released ticket.serial old
Steps agrees old event ending new = ⊥

-- Runs: events one after the other, each of which might be put

-- an event, and how it ended
pub record EventDone : Type 0 where
  pub event : Event
  pub ending : Ending

pub record IsStep (agrees : FactAgrees) (sound : Fact → Type 0) (old : BookData) (done : EventDone) (new : BookData)
    : Type 0 where
  pub may : MayStep agrees sound old done.event
  pub steps : Steps agrees old done.event done.ending new

abbrev pub AreSteps : FactAgrees → (Fact → Type 0) → BookData → List EventDone → BookData → Type 0
AreSteps agrees sound old [] new = new ≡ old
AreSteps agrees sound old (done ∷ more) new =
    (next : BookData) × IsStep agrees sound old done next × AreSteps agrees sound next more new
