use Rattle.std.proofs.Common.{◌-◌, arith}
use Rattle.ditaval_rules.proofs.DeclarationLaws.{passed_back}
use Rattle.ditaval_rules.proofs.declarations.last_around.Goals as goal

pub loop-last-preserved : goal.loop-last-preserved
loop-last-preserved c = record {
  within =
      let fits = c.requires.before.0 in
      let outer = c.requires.linked.outer (c.loop-last.last - 1) c.index-entries-last-in-loop-last.result (omega arith) in
      omega arith;
  passed = passed_back c.args.entries.now c.args.place c.args.count c.loop-last.last c.index-entries-last.result
      c.index-entries-last-in-loop-last.result c.requires.linked c.requires.before c.loop-last.invariant.within
      (omega arith) c.loop-last.invariant.passed c.if-entries-last.true;
}
