use Rattle.std.proofs.Common.{◌∙◌, inl, inr, sym, ap}
use Rattle.command_line.proofs.CommandLaws.{clear_if_read, same_matches, simple, simple_and_free, unclear}
use Rattle.command_line.proofs.FaultLaws.{is_clear}
use Rattle.command_line.proofs.read.matches.Goals as goal

pub returns-in-Ok-clause-read : goal.returns-in-Ok-clause-read
returns-in-Ok-clause-read c =
    let is = c.in_ok-command.ensures in
    let none = c.in-Ok.ensures.kinds (simple_and_free _ is) in
    ap is_clear (sym none) ∙ clear_if_read _ _ is

pub returns-in-Ok-clause-rows : goal.returns-in-Ok-clause-rows
returns-in-Ok-clause-rows c =
    let is = c.in_ok-command.ensures in
    (c.in-Ok.ensures.matches (simple _ is)).0 ∙ same_matches _ _ is

pub returns : goal.returns
returns c =
    let is = c.in_ok-command.ensures in
    record {
      read = elim (c.in-Err.ensures.kinds (simple_and_free _ is)) [
        | inl memory ↦ absurd (c.in_default.not-OutOfMemory (c.kind.ensures ∙ memory))
        | inr among ↦ unclear _ _ among ∙ clear_if_read _ _ is
      ];
      rows = tt;
    }

pub returns-in-OutOfMemory : goal.returns-in-OutOfMemory
returns-in-OutOfMemory c = record { read = tt; rows = tt }
