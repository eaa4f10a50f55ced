use Rattle.std.proofs.Common.{◌≡◌, ◌≤◌, ◌+◌, length}
use Rattle.std.specs.List.{All}
use Rattle.dita_doc.specs.Lines.{lines_of}
use Rattle.script_text.specs.Facts.{IsOwnStep}
use Rattle.script_text.specs.Machine.{pending_seen}
use Rattle.script_text.specs.Read.{steps_seen}
use Rattle.script_text.specs.Script.{script_line, steps_from}
use Rattle.std.specs.Prelude.{None}
use Rattle.script_text.proofs.StepLaws.{after_steps}
use Rattle.script_text.proofs.reader.read_lines.Given as goal

abbrev pub invariant-loop-line : goal.invariant-loop-line
invariant-loop-line l = record {
  read : steps_from script_line l.is_cut 0 0 None (lines_of l.text)
      ≡ after_steps (steps_seen l.steps)
      (steps_from script_line l.is_cut l.number (length l.steps) (pending_seen l.machine.begun) (lines_of l.rest));
  origins : All IsOwnStep l.steps;
  within : l.number + length l.rest ≤ length l.text;
}

abbrev pub decreases-loop-line : goal.decreases-loop-line
decreases-loop-line l = length l.rest
