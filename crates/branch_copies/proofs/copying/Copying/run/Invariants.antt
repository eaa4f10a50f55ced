use Rattle.std.proofs.Common.{List}
use Rattle.dita_doc.specs.declared.plan.PlanNode.{PlanNode}
use Rattle.map_spec.specs.Branches.{Branch}
use Rattle.reader_spec.specs.World.{World}
use Rattle.branch_copies.specs.Going.{Going}
use Rattle.branch_copies.specs.Left.{left}
use Rattle.branch_copies.specs.Originals.{IsSource}
use Rattle.branch_copies.proofs.copying.Copying.run.Given as goal

abbrev pub invariant-loop-work : goal.invariant-loop-work
invariant-loop-work l = (world : World) (defined : List Branch) (all : List PlanNode) → IsSource world l.source defined
    → Going world l.source defined l.fn.self l.fn.self.made.items all
    → Going world l.source defined l.self l.self.made.items all

abbrev pub decreases-loop-work : goal.decreases-loop-work
decreases-loop-work l = left l.self.made.items l.self.left.items
