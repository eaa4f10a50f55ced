-- How a run ends, by its status, over what the source, the sink, the outlet and the door tell before and after it. Each
-- status has its own statement. `run_over` gives the status, the pages and the output for the bytes that were read.
use Rattle.std.specs.Prelude.{◌≡◌, ◌⊎◌, ℕ, Bool, true, false, [], Option, IsNone, IsSomeAnd}
use Rattle.std.specs.Io.KnownBytes.{Keeps, Appends}
use Rattle.command_line.specs.declared.modes.Mode.{Mode}
use Rattle.command_line.specs.declared.modes.Mode.TheVariants as modes
use Rattle.dita_doc.specs.Bytes.{Bytes}
use Rattle.dita_outside.specs.Cause.{Rose}
use Rattle.dita_outside.specs.Links.{DoorTold}
use Rattle.dita_outside.specs.Pages.{Pages, TakesPages, TakesPagesFront}
use Rattle.dita_outside.specs.Taken.{AppendsFront}
use Rattle.run_spec.specs.declared.status.Status.{Status}
use Rattle.run_spec.specs.declared.status.Status.TheVariants as statuses
use Rattle.run_spec.specs.CleanRun.{HasForm, read_limit, run_over}
use Rattle.run_spec.specs.EndsBatch.{EndsBatch}
use Rattle.run_spec.specs.EndsServe.{EndsServe}
use Rattle.run_spec.specs.EndsTrial.{EndsGen, EndsTrial}
use Rattle.run_spec.specs.Language.{dita}
use Rattle.run_spec.specs.Reads.{Reads}
use Rattle.script_text.specs.Script.{script_of}
use Rattle.desk_session.specs.Serving.{breaks, serves}
use Rattle.desk_top.specs.Outside.{Change, streams_after, streams_before, sunk_after, sunk_before}

-- nothing reached the sink and the outlet
abbrev pub TakesNothing : Change Bytes → Change Pages → Type 0
TakesNothing sink outlet = TakesPages outlet.before outlet.after [] × Keeps sink.before sink.after

-- no count of faults rose
pub record NoneRose (source sink : Change Bytes) (outlet : Change Pages) : Type 0 where
  pub of_source : source.faults_after ≡ source.faults_before
  pub of_sink : sink.faults_after ≡ sink.faults_before
  pub of_outlet : outlet.faults_after ≡ outlet.faults_before

-- Done or Script: the source was read to its end, or to one byte more than a script has; the run over what was read has
-- this status; the outlet took its pages in order, and the sink its output and nothing else. The transcript of a script is
-- in the form of transcripts. No count rose.
pub record AnswersWhole (with_terms : Bool) (status : Status) (source sink : Change Bytes) (outlet : Change Pages)
    : Type 0 where
  pub input : Bytes
  pub read : Reads read_limit source.before source.after input
  pub is : (run_over with_terms input).status ≡ status
  pub form : HasForm (script_of input)
  pub pages : TakesPages outlet.before outlet.after (run_over with_terms input).pages
  pub output : Appends sink.before sink.after (run_over with_terms input).output
  pub sound : NoneRose source sink outlet

-- ReadFault: the source failed, and nothing was taken.
abbrev pub FailsToRead : (source sink : Change Bytes) → Change Pages → Type 0
FailsToRead source sink outlet = Rose source.faults_before source.faults_after × TakesNothing sink outlet

-- OutletFault: the outlet failed, and took the first of the pages; the sink took nothing.
pub record FailsToPut (with_terms : Bool) (source sink : Change Bytes) (outlet : Change Pages) : Type 0 where
  pub rose : Rose outlet.faults_before outlet.faults_after
  pub input : Bytes
  pub read : Reads read_limit source.before source.after input
  pub pages : TakesPagesFront outlet.before outlet.after (run_over with_terms input).pages
  pub output : Keeps sink.before sink.after

-- WriteFault: the sink failed, and took the beginning of the output; the outlet took all pages.
pub record FailsToWrite (with_terms : Bool) (source sink : Change Bytes) (outlet : Change Pages) : Type 0 where
  pub rose : Rose sink.faults_before sink.faults_after
  pub input : Bytes
  pub read : Reads read_limit source.before source.after input
  pub pages : TakesPages outlet.before outlet.after (run_over with_terms input).pages
  pub output : AppendsFront sink.before sink.after (run_over with_terms input).output

-- NoMemory, behind the reading: the outlet took the first of the pages, and the sink the beginning of the output.
pub record StopsShort (with_terms : Bool) (source sink : Change Bytes) (outlet : Change Pages) : Type 0 where
  pub input : Bytes
  pub read : Reads read_limit source.before source.after input
  pub pages : TakesPagesFront outlet.before outlet.after (run_over with_terms input).pages
  pub output : AppendsFront sink.before sink.after (run_over with_terms input).output

-- a run on one thread, with pages of terms or without
abbrev pub EndsRun : (with_terms : Bool) → (source sink : Change Bytes) → (outlet : Change Pages) → Status → Type 0
EndsRun with_terms source sink outlet statuses.Done = AnswersWhole with_terms statuses.Done source sink outlet
EndsRun with_terms source sink outlet statuses.Script = AnswersWhole with_terms statuses.Script source sink outlet
EndsRun with_terms source sink outlet statuses.ReadFault = FailsToRead source sink outlet
EndsRun with_terms source sink outlet statuses.OutletFault = FailsToPut with_terms source sink outlet
EndsRun with_terms source sink outlet statuses.WriteFault = FailsToWrite with_terms source sink outlet
EndsRun with_terms source sink outlet statuses.NoMemory =
    TakesNothing sink outlet ⊎ StopsShort with_terms source sink outlet
EndsRun with_terms source sink outlet statuses.Words = ⊥
EndsRun with_terms source sink outlet statuses.Port = ⊥

-- the run of the mode `clean`
abbrev pub EndsClean : (source sink : Change Bytes) → (outlet : Change Pages) → Status → Type 0
EndsClean source sink outlet status = EndsRun false source sink outlet status

-- the run of the mode `terms`
abbrev pub EndsTerms : (source sink : Change Bytes) → (outlet : Change Pages) → Status → Type 0
EndsTerms source sink outlet status = EndsRun true source sink outlet status

-- the run of the mode `gen`, which takes the sink alone
abbrev pub EndsProject : (number topics : ℕ) → (sink : Change Bytes) → Status → Type 0
EndsProject number topics sink status = EndsGen number topics (sunk_before sink) (sunk_after sink) status

-- what the objects of a run tell, before it and after it
pub record Objects : Type 0 where
  pub source : Change Bytes
  pub sink : Change Bytes
  pub outlet : Change Pages
  pub door : DoorTold
  pub door_after : DoorTold

-- what says of the source, the outlet and the door that each is as it was before the run
pub record AsBefore : Type 1 where
  pub source : Type 0
  pub outlet : Type 0
  pub door : Type 0

-- the run of the mode `serve`: the builds of its sessions are those of the language that is published
abbrev pub EndsServed : (connections : ℕ) → Objects → Status → Type 0
EndsServed connections told status = EndsServe (serves dita.clean) (breaks dita.clean) connections
    (record { sink = sunk_before told.sink; door = told.door })
    (record { sink = sunk_after told.sink; door = told.door_after }) status

-- The run of a mode. What it does not take is as it was: `serve` alone takes a door, and neither the source nor the
-- outlet; `gen` and `trial` take the sink alone, and `batch` takes no outlet.
abbrev pub EndsMode : Mode → AsBefore → Objects → Status → Type 0
EndsMode modes.Clean left told status = EndsClean told.source told.sink told.outlet status × left.door
EndsMode modes.Terms left told status = EndsTerms told.source told.sink told.outlet status × left.door
EndsMode (modes.Gen asked) left told status =
    EndsProject asked.number asked.topics told.sink status × left.source × left.outlet × left.door
EndsMode (modes.Batch workers) left told status =
    EndsBatch (streams_before told.source told.sink) (streams_after told.source told.sink) status
    × left.outlet × left.door
EndsMode (modes.Trial asked workers) left told status =
    EndsTrial asked.number asked.topics (sunk_before told.sink) (sunk_after told.sink) status
    × left.source × left.outlet × left.door
EndsMode (modes.Serve listening workers) left told status =
    EndsServed listening.connections told status × left.source × left.outlet

-- an output was written: whole, by a sink that has not failed, and then the status is that of the run; or its beginning,
-- because the sink failed or memory ran out
abbrev pub WritesLast : Option Bytes → Option Bytes → ℕ → ℕ → Bytes → Status → Status → Type 0
WritesLast old new before now output status result =
    (Appends old new output × (result ≡ status) × (now ≡ before))
    ⊎ (AppendsFront old new output × ((Rose before now × (result ≡ statuses.WriteFault))
    ⊎ (result ≡ statuses.NoMemory)))

-- the end of the program, where the words name a mode: words that are not read name none, and touch nothing. Else the run of
-- their mode ended so; out of memory, it may not have begun
abbrev pub EndsProgram : (mode : Option Mode) → (runs : Mode → Status → Type 0) → (untouched : Type 0) → Status → Type 0
EndsProgram mode runs untouched statuses.Words = IsNone mode × untouched
EndsProgram mode runs untouched statuses.NoMemory = IsSomeAnd mode (λ mode. runs mode statuses.NoMemory) ⊎ untouched
EndsProgram mode runs untouched status = IsSomeAnd mode (λ mode. runs mode status)
