-- How a run of the mode `serve` ends, by its status, over what its sink and its door tell. Each connection that was
-- accepted is a session, the first of them session 1; all of them are served on one desk, and are handed back in the
-- order in which they came.
use Rattle.std.specs.Prelude.{◌≡◌, ◌≢◌, ◌<◌, ◌≤◌, ◌⊎◌, ◌+◌, ◌++◌, ℕ, List, [], ◌∷◌, ⊤, All, AllPairs, codes, length}
use Rattle.std.specs.Fmt.{decimal}
use Rattle.std.specs.Io.KnownBytes.{Appends, Keeps}
use Rattle.dita_doc.specs.History.{Entry, IsLegal}
use Rattle.dita_doc.specs.Lines.{line}
use Rattle.dita_outside.specs.Cause.{Rose}
use Rattle.dita_outside.specs.Links.{DoorTold, HasMore, LinkTold, Links}
use Rattle.dita_outside.specs.Taken.{AppendsFront}
use Rattle.run_spec.specs.Written.{Sunk}
use Rattle.run_spec.specs.declared.status.Status.{Status}
use Rattle.run_spec.specs.declared.status.Status.TheVariants as statuses
use Rattle.transcript_text.specs.Transcript.{RowShown}

-- what a session of this number did over a link: its entries in the history, which of these rows it sent the texts of,
-- what it received, and what it sent
abbrev pub SessionRelation : Type 1
SessionRelation = List Entry → List RowShown → ℕ → LinkTold → LinkTold → Type 0

-- links, each as it came and as it went, are those of one session after the other, from this one on
abbrev pub ServesEach : SessionRelation → List Entry → List RowShown → ℕ → Links → Links → Type 0
ServesEach serves history rows session [] [] = ⊤
ServesEach serves history rows session (link ∷ came) [] = ⊥
ServesEach serves history rows session [] (link ∷ went) = ⊥
ServesEach serves history rows session (old ∷ came) (new ∷ went) =
    serves history rows session old new × ServesEach serves history rows (session + 1) came went

-- Connections were accepted and all of them taken back, in order. There is one legal history, each entry of which is of
-- one of their sessions. The rows that the sessions show are of one table: no two have one serial.
pub record ServesThese (serves : SessionRelation) (old new : DoorTold) : Type 0 where
  pub came : Links
  pub went : Links
  pub accepted : HasMore old.accepted new.accepted came
  pub returned : HasMore old.returned new.returned went
  pub history : List Entry
  pub rows : List RowShown
  pub legal : IsLegal history
  pub sessions : All (λ (entry : Entry). (1 ≤ entry.session) × (entry.session ≤ length came)) history
  pub different : AllPairs (λ (row other : RowShown). row.serial ≢ other.serial) rows
  pub served : ServesEach serves history rows 1 came went

-- as many connections as were to be accepted, and no call of the door failed
pub record ServesAll (serves : SessionRelation) (connections : ℕ) (old new : DoorTold) : Type 0 where
  pub these : ServesThese serves old new
  pub all : length these.came ≡ connections
  pub sure : new.faults ≡ old.faults

-- no more connections than were to be accepted
pub record ServesSome (serves : SessionRelation) (connections : ℕ) (old new : DoorTold) : Type 0 where
  pub these : ServesThese serves old new
  pub within : length these.came ≤ connections

-- fewer connections than were to be accepted, and a call of the door failed
pub record ServesFewer (serves : SessionRelation) (connections : ℕ) (old new : DoorTold) : Type 0 where
  pub these : ServesThese serves old new
  pub fewer : length these.came < connections
  pub failed : Rose old.faults new.faults

-- how many connections were served, and how many entries the history has
abbrev pub served_line : ℕ → List Entry → List ℕ
served_line connections history =
    line (codes "served " ++ decimal connections ++ codes " " ++ decimal (length history))

-- what a sink and a door tell at one moment
pub record Ports : Type 0 where
  pub sink : Sunk
  pub door : DoorTold

-- all were served, and the sink took the beginning of the line that says so
abbrev pub BeginsLine : SessionRelation → ℕ → Ports → Ports → Type 0
BeginsLine serves connections old new = (all : ServesAll serves connections old.door new.door)
    × AppendsFront old.sink.taken new.sink.taken (served_line connections all.these.history)

-- `serves` says what holds of a session that ended by itself, and `breaks` what holds of one for which memory may have
-- run out. If the door failed, nothing was written, and the sessions that began ended by themselves.
abbrev pub EndsServe : (serves breaks : SessionRelation) → ℕ → Ports → Ports → Status → Type 0
EndsServe serves breaks connections old new statuses.Done =
    (all : ServesAll serves connections old.door new.door)
    × Appends old.sink.taken new.sink.taken (served_line connections all.these.history)
    × (new.sink.faults ≡ old.sink.faults)
EndsServe serves breaks connections old new statuses.WriteFault =
    BeginsLine serves connections old new × Rose old.sink.faults new.sink.faults
EndsServe serves breaks connections old new statuses.Port =
    ServesFewer serves connections old.door new.door × Keeps old.sink.taken new.sink.taken
EndsServe serves breaks connections old new statuses.NoMemory =
    (ServesSome breaks connections old.door new.door × Keeps old.sink.taken new.sink.taken)
    ⊎ BeginsLine serves connections old new
EndsServe serves breaks connections old new statuses.Words = ⊥
EndsServe serves breaks connections old new statuses.ReadFault = ⊥
EndsServe serves breaks connections old new statuses.Script = ⊥
EndsServe serves breaks connections old new statuses.OutletFault = ⊥
