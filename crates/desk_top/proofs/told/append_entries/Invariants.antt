use Rattle.std.proofs.Common.{◌≤◌, length}
use Rattle.desk_top.specs.Told.{TellsEntries}
use Rattle.desk_top.proofs.told.append_entries.Given as goal

abbrev pub invariant-loop-place : goal.invariant-loop-place
invariant-loop-place l = record {
  told : TellsEntries l.store.history l.shown l.place l.fn.text l.text;
  within : l.place ≤ length l.store.history;
}
