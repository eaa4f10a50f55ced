-- The exit status of each way to end.
use Rattle.std.specs.Prelude.{ℕ}
use Rattle.run_spec.specs.declared.status.Status.{Status}
use Rattle.run_spec.specs.declared.status.Status.TheVariants as statuses

abbrev pub exit_status : Status → ℕ
exit_status statuses.Done = 0
exit_status statuses.Words = 2
exit_status statuses.ReadFault = 3
exit_status statuses.WriteFault = 4
exit_status statuses.NoMemory = 5
exit_status statuses.Script = 6
exit_status statuses.OutletFault = 7
exit_status statuses.Port = 8
