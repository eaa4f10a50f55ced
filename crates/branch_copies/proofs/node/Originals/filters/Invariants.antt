use Rattle.std.proofs.Common.{◌≡◌, ◌++◌, take}
use Rattle.branch_copies.specs.Marks.{filters_of}
use Rattle.branch_copies.proofs.node.Originals.filters.Given as goal

abbrev pub invariant-loop-branch : goal.invariant-loop-branch
invariant-loop-branch l = l.filters ≡ l.own ++ filters_of l.self.branches.now (take l.branch-index l.chain)
