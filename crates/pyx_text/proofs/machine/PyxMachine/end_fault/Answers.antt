use Rattle.std.proofs.Common.{arith}
use Rattle.std.proofs.lemmas.Bool.Decides.{nat_tests}
use Rattle.pyx_text.proofs.Steps.{end_open, end_closed}
use Rattle.pyx_text.proofs.machine.PyxMachine.end_fault.Goals as goal

pub returns-then-not-is_empty : goal.returns-then-not-is_empty
returns-then-not-is_empty c number before read = end_open c.args.self.now number before read (grind (arith, nat_tests))

pub returns-then-not-self : goal.returns-then-not-self
returns-then-not-self c number before read =
    end_closed c.args.self.now number before _ read (grind (arith, nat_tests)) c.if-not-self.true

pub returns-else-not-self : goal.returns-else-not-self
returns-else-not-self c number before read =
    end_closed c.args.self.now number before _ read (grind (arith, nat_tests)) c.if-not-self.false
