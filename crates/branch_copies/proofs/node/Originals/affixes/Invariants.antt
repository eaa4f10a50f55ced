use Rattle.std.proofs.Common.{◌≡◌, ◌++◌, take}
use Rattle.branch_copies.specs.Marks.{affixes_of}
use Rattle.branch_copies.proofs.node.Originals.affixes.Given as goal

abbrev pub invariant-loop-branch : goal.invariant-loop-branch
invariant-loop-branch l = l.affixes ≡ l.own ++ affixes_of l.self.branches.now (take l.branch-index l.chain)
