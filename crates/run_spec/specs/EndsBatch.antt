-- How a run of the mode `batch` ends, by its status, over what its source and its sink tell. Over a script it writes a
-- faithful transcript. Which one of them depends on the sessions that run beside each other.
use Rattle.std.specs.Prelude.{◌≡◌, ◌⊎◌, ℕ, List, Option, Result, Ok, Err}
use Rattle.std.specs.Io.KnownBytes.{Appends, Keeps}
use Rattle.dita_doc.specs.Bytes.{Bytes}
use Rattle.dita_outside.specs.Cause.{Rose}
use Rattle.dita_outside.specs.Taken.{AppendsFront}
use Rattle.run_spec.specs.CleanRun.{read_limit}
use Rattle.run_spec.specs.Faithful.{IsFaithful}
use Rattle.run_spec.specs.Language.{dita}
use Rattle.run_spec.specs.Reads.{Reads}
use Rattle.run_spec.specs.declared.status.Status.{Status}
use Rattle.run_spec.specs.declared.status.Status.TheVariants as statuses
use Rattle.script_text.specs.Faults.{rejection_line}
use Rattle.script_text.specs.Script.{Step, script_of}
use Rattle.script_text.specs.declared.fault.ScriptFault.{ScriptFault}

-- which status and output a batch over some bytes may have: a script is done, with a text that is faithful to its
-- requests; other bytes are rejected, with the line of their first fault
abbrev pub IsBatchOf : Result (List Step) ScriptFault → Status → Bytes → Type 0
IsBatchOf (Ok steps) status output = (status ≡ statuses.Done) × IsFaithful dita steps output
IsBatchOf (Err fault) status output = (status ≡ statuses.Script) × (output ≡ rejection_line fault)

abbrev pub IsBatch : Bytes → Status → Bytes → Type 0
IsBatch input status output = IsBatchOf (script_of input) status output

-- what a source and a sink tell at one moment
pub record Streams : Type 0 where
  pub left : Option Bytes
  pub read_faults : ℕ
  pub taken : Option Bytes
  pub write_faults : ℕ

-- a batch over what was read: the source to its end, or one byte more than a script has
pub record BatchOver (old new : Streams) : Type 0 where
  pub input : Bytes
  pub read : Reads read_limit old.left new.left input
  pub status : Status
  pub output : Bytes
  pub is : IsBatch input status output

-- the batch has this status, the sink took its output and nothing else, and no count rose
pub record AnswersBatch (old new : Streams) (status : Status) : Type 0 where
  pub run : BatchOver old new
  pub same : run.status ≡ status
  pub output : Appends old.taken new.taken run.output
  pub source : new.read_faults ≡ old.read_faults
  pub sink : new.write_faults ≡ old.write_faults

-- If the source failed, the sink took nothing. If the sink failed, it took the beginning of the output. Out of memory,
-- it took nothing, or the beginning of the output.
abbrev pub EndsBatch : Streams → Streams → Status → Type 0
EndsBatch old new statuses.Done = AnswersBatch old new statuses.Done
EndsBatch old new statuses.Script = AnswersBatch old new statuses.Script
EndsBatch old new statuses.ReadFault = Rose old.read_faults new.read_faults × Keeps old.taken new.taken
EndsBatch old new statuses.WriteFault = Rose old.write_faults new.write_faults
    × ((run : BatchOver old new) × AppendsFront old.taken new.taken run.output)
EndsBatch old new statuses.NoMemory = Keeps old.taken new.taken
    ⊎ ((run : BatchOver old new) × AppendsFront old.taken new.taken run.output)
EndsBatch old new statuses.Words = ⊥
EndsBatch old new statuses.OutletFault = ⊥
EndsBatch old new statuses.Port = ⊥
