-- What whoever has a script knows of it.
use Rattle.std.proofs.Common.{arith}
use Rattle.std.proofs.lemmas.List.{length-map}
use Rattle.std.proofs.lemmas.List.Elements.{All-map}
use Rattle.script_text.specs.Facts.{FitsScript, IsUtf8Step, HasFewStep}
use Rattle.script_text.specs.Read.{step_seen, steps_seen}
use Rattle.script_text.specs.declared.script.Script.{Script}

-- its steps fit a desk
pub script_fits : (script : Script) → FitsScript (steps_seen script.steps)
script_fits script = record {
  few = omega (arith, script.few, length-map script.steps step_seen);
  few_edits = All-map HasFewStep step_seen script.steps script.few_edits;
  size = script.size;
  utf8 = All-map IsUtf8Step step_seen script.steps script.utf8;
}
