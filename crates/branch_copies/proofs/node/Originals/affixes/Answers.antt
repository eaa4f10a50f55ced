use Rattle.branch_copies.proofs.MarkLaws.{affixes_more}
use Rattle.branch_copies.proofs.node.Originals.affixes.Goals as goal

pub loop-branch-preserved : goal.loop-branch-preserved
loop-branch-preserved c =
    affixes_more c.args.self.now.branches.now c.args.own.now c.loop-branch.affixes c.push_affix.new.affixes c.args.chain.now
    c.loop-branch.branch-index c.loop-branch-test.true c.loop-branch.invariant c.in_ok-push_affix.ensures
