use Rattle.std.proofs.Common.{◌≡◌, map, take}
use Rattle.ditaval_rules.specs.declared.rules.RulesRead.{RulesRead}
use Rattle.branch_copies.proofs.ditavals.Ditavals.tables.Given as goal

abbrev pub invariant-loop-read : goal.invariant-loop-read
invariant-loop-read l =
    l.tables.items ≡ map (λ (read : RulesRead). read.rules) (take l.read-index l.self.read.items)
