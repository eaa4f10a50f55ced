-- How the program ends over objects that do not fail.
use Rattle.std.specs.Prelude.{◌≡◌, Option, Some, None}
use Rattle.std.proofs.Common.{refl}
use Rattle.command_line.specs.declared.modes.Mode.{Mode}
use Rattle.command_line.specs.declared.modes.Mode.TheVariants as modes
use Rattle.run_spec.specs.declared.status.Status.{Status}
use Rattle.run_spec.specs.declared.status.Status.TheVariants as statuses
use Rattle.desk_top.specs.Ends.{AsBefore, EndsMode, EndsProgram, Objects}
use Rattle.desk_laws.specs.SureRun.{IsSureProgram, NoObjectFailed, ReadsScript}

module _ (left : AsBefore) (untouched : Type 0) (told : Objects) (none : NoObjectFailed told) where
  reads_script : (mode : Mode) → EndsMode mode left told statuses.Script → ReadsScript mode
  reads_script modes.Clean ends = tt
  reads_script modes.Terms ends = tt
  reads_script (modes.Gen asked) ends = absurd ends.0
  reads_script (modes.Batch workers) ends = tt
  reads_script (modes.Trial asked workers) ends = absurd ends.0
  reads_script (modes.Serve listening workers) ends = absurd ends.0

  no_read_fault : (mode : Mode) → EndsMode mode left told statuses.ReadFault → ⊥
  no_read_fault modes.Clean ends = none.others.of_source ends.0.0
  no_read_fault modes.Terms ends = none.others.of_source ends.0.0
  no_read_fault (modes.Gen asked) ends = ends.0
  no_read_fault (modes.Batch workers) ends = none.others.of_source ends.0.0
  no_read_fault (modes.Trial asked workers) ends = ends.0
  no_read_fault (modes.Serve listening workers) ends = ends.0

  no_outlet_fault : (mode : Mode) → EndsMode mode left told statuses.OutletFault → ⊥
  no_outlet_fault modes.Clean ends = none.others.of_outlet ends.0.rose
  no_outlet_fault modes.Terms ends = none.others.of_outlet ends.0.rose
  no_outlet_fault (modes.Gen asked) ends = ends.0
  no_outlet_fault (modes.Batch workers) ends = ends.0
  no_outlet_fault (modes.Trial asked workers) ends = ends.0
  no_outlet_fault (modes.Serve listening workers) ends = ends.0

  no_write_fault : (mode : Mode) → EndsMode mode left told statuses.WriteFault → ⊥
  no_write_fault modes.Clean ends = none.others.of_sink ends.0.rose
  no_write_fault modes.Terms ends = none.others.of_sink ends.0.rose
  no_write_fault (modes.Gen asked) ends = none.others.of_sink ends.0.1
  no_write_fault (modes.Batch workers) ends = none.others.of_sink ends.0.0
  no_write_fault (modes.Trial asked workers) ends = none.others.of_sink ends.0.1
  no_write_fault (modes.Serve listening workers) ends = none.others.of_sink ends.0.1

  no_port : (mode : Mode) → EndsMode mode left told statuses.Port → ⊥
  no_port modes.Clean ends = ends.0
  no_port modes.Terms ends = ends.0
  no_port (modes.Gen asked) ends = ends.0
  no_port (modes.Batch workers) ends = ends.0
  no_port (modes.Trial asked workers) ends = ends.0
  no_port (modes.Serve listening workers) ends = none.of_door ends.0.0.failed

  pub sure_program : (mode : Option Mode) (status : Status)
      → EndsProgram mode (λ named. EndsMode named left told) untouched status
      → IsSureProgram mode status
  sure_program None statuses.Done ends = absurd ends
  sure_program (Some mode) statuses.Done ends = refl
  sure_program None statuses.Script ends = absurd ends
  sure_program (Some mode) statuses.Script ends = reads_script mode ends
  sure_program mode statuses.NoMemory ends = tt
  sure_program mode statuses.Words ends = ends.0
  sure_program None statuses.ReadFault ends = absurd ends
  sure_program (Some mode) statuses.ReadFault ends = no_read_fault mode ends
  sure_program None statuses.OutletFault ends = absurd ends
  sure_program (Some mode) statuses.OutletFault ends = no_outlet_fault mode ends
  sure_program None statuses.WriteFault ends = absurd ends
  sure_program (Some mode) statuses.WriteFault ends = no_write_fault mode ends
  sure_program None statuses.Port ends = absurd ends
  sure_program (Some mode) statuses.Port ends = no_port mode ends
