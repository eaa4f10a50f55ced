use Rattle.branch_copies.proofs.MarkLaws.{filters_more}
use Rattle.branch_copies.proofs.node.Originals.filters.Goals as goal

pub loop-branch-preserved : goal.loop-branch-preserved
loop-branch-preserved c =
    filters_more c.args.self.now.branches.now c.args.own.now c.loop-branch.filters c.push_filter.new.filters c.args.chain.now
    c.loop-branch.branch-index c.loop-branch-test.true c.loop-branch.invariant c.in_ok-push_filter.ensures
