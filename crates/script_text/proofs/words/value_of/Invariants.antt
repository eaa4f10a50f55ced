use Rattle.std.proofs.Common.{◌≡◌, ◌<◌, ◌^◌, drop}
use Rattle.script_text.specs.Script.{value_after}
use Rattle.script_text.proofs.words.value_of.Given as goal

abbrev pub invariant-loop-digit : goal.invariant-loop-digit
invariant-loop-digit l = record {
  same : value_after 0 l.digits ≡ value_after l.value (drop l.digit-index l.digits);
  small : l.value < 10 ^ l.digit-index;
}
