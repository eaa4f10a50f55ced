use Rattle.std.proofs.Common.{append-nil, subst, ◌∙◌}
use Rattle.branch_copies.specs.Going.{chains_of}
use Rattle.branch_copies.specs.Leaves.{Leaves}
use Rattle.branch_copies.proofs.LeavesLaws.{going_taken}
use Rattle.branch_copies.proofs.LeftLaws.{worked}
use Rattle.branch_copies.proofs.copying.Copying.run.Goals as goal

pub loop-work-smaller : goal.loop-work-smaller
loop-work-smaller c = worked _ _ _ _ _ _ c.in-Some.ensures.items c.in-Ok.ensures.less

pub loop-work-preserved : goal.loop-work-preserved
loop-work-preserved c = λ world defined all is going.
    let taken = going_taken world c.args.source.now defined c.loop-work.self c.pop.new.self c.in-Some.work all
    c.in-Some.ensures.items (c.loop-work.invariant world defined all is going) in
    c.in-Ok.ensures.goes world defined taken.tree all is taken.makes taken.going

pub returns-in-Err-clause-goes : goal.returns-in-Err-clause-goes
returns-in-Err-clause-goes c = λ world defined all is going.
    let taken = going_taken world c.args.source.now defined c.loop-work.self c.pop.new.self c.in-Some.work all
    c.in-Some.ensures.items (c.loop-work.invariant world defined all is going) in
    c.in-Err.ensures.goes world defined taken.tree all is taken.makes taken.going

pub returns-clause-goes : goal.returns-clause-goes
returns-clause-goes c = λ world defined all is going.
    let before = c.loop-work.invariant world defined all is going in
    record {
      few = before.few;
      leaves = subst (λ l. Leaves world c.args.source.now defined (chains_of c.loop-work.self) l
          c.loop-work.self.made.items all) (c.in_default.ensures.items ∙ append-nil c.pop.new.self.items) before.leaves;
    }
