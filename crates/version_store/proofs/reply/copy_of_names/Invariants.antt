use Rattle.std.proofs.Common.{◌≡◌, take}
use Rattle.version_store.proofs.reply.copy_of_names.Given as goal

abbrev pub invariant-loop-read : goal.invariant-loop-read
invariant-loop-read l = l.copy.items ≡ take l.read-index l.names
