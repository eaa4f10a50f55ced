use Rattle.std.proofs.Common.{◌≡◌, drop}
use Rattle.href_text.specs.Reference.{is_external}
use Rattle.targets.proofs.target.is_external.Given as goal

abbrev pub invariant-loop-byte : goal.invariant-loop-byte
invariant-loop-byte l = is_external l.value ≡ is_external (drop l.byte-index l.byte-items)
