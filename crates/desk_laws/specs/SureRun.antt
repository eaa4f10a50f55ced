-- Runs over objects that do not fail.
use Rattle.std.specs.Prelude.{Option, IsNone, IsSome, IsSomeAnd}
use Rattle.command_line.specs.declared.modes.Mode.{Mode}
use Rattle.command_line.specs.declared.modes.Mode.TheVariants as modes
use Rattle.dita_doc.specs.Bytes.{Bytes}
use Rattle.dita_outside.specs.Cause.{Rose}
use Rattle.dita_outside.specs.Pages.{Pages}
use Rattle.desk_top.specs.Ends.{Objects}
use Rattle.desk_top.specs.Outside.{Change}
use Rattle.run_spec.specs.declared.status.Status.{Status}
use Rattle.run_spec.specs.declared.status.Status.TheVariants as statuses

-- no count rose, and none stands at the last value of a counter
pub record NoneFailed (source sink : Change Bytes) (outlet : Change Pages) : Type 0 where
  pub of_source : Rose source.faults_before source.faults_after → ⊥
  pub of_sink : Rose sink.faults_before sink.faults_after → ⊥
  pub of_outlet : Rose outlet.faults_before outlet.faults_after → ⊥

-- the same of all objects of the program, the door among them
pub record NoObjectFailed (told : Objects) : Type 0 where
  pub others : NoneFailed told.source told.sink told.outlet
  pub of_door : Rose told.door.faults told.door_after.faults → ⊥

-- the statuses of a run over such objects
abbrev pub IsSure : Status → Type 0
IsSure statuses.Done = Unit {0}
IsSure statuses.Script = Unit {0}
IsSure statuses.NoMemory = Unit {0}
IsSure statuses.ReadFault = ⊥
IsSure statuses.OutletFault = ⊥
IsSure statuses.WriteFault = ⊥
IsSure statuses.Words = ⊥
IsSure statuses.Port = ⊥

-- the modes that read a script
abbrev pub ReadsScript : Mode → Type 0
ReadsScript modes.Clean = Unit {0}
ReadsScript modes.Terms = Unit {0}
ReadsScript (modes.Gen asked) = ⊥
ReadsScript (modes.Batch workers) = Unit {0}
ReadsScript (modes.Trial asked workers) = ⊥
ReadsScript (modes.Serve listening workers) = ⊥

-- the statuses of the program over such objects, by the mode that its words name, if they name one
abbrev pub IsSureProgram : Option Mode → Status → Type 0
IsSureProgram mode statuses.Done = IsSome mode
IsSureProgram mode statuses.Script = IsSomeAnd mode ReadsScript
IsSureProgram mode statuses.NoMemory = Unit {0}
IsSureProgram mode statuses.Words = IsNone mode
IsSureProgram mode statuses.ReadFault = ⊥
IsSureProgram mode statuses.OutletFault = ⊥
IsSureProgram mode statuses.WriteFault = ⊥
IsSureProgram mode statuses.Port = ⊥
