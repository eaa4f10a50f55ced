use Rattle.std.proofs.Common.{◌≤◌, length, arith}
use Rattle.std.proofs.lemmas.Bool.Decides.{nat_tests}
use Rattle.branch_copies.proofs.DitavalLaws.{no_faults}
use Rattle.branch_copies.proofs.ditavals.Ditavals.append_faults.Goals as goal

pub returns-in_default : goal.returns-in_default
returns-in_default c =
    let past : length c.args.self.now.read.items ≤ c.args.ditaval =
    grind (arith, nat_tests, c.in_default.ensures.lookup, c.deref.ensures.len, c.deref.ensures.value) in
    no_faults c.args.faults.now c.args.self.now.read.items c.args.ditaval past
