use Rattle.std.proofs.Common.{ap, arith}
use Rattle.html_spec.specs.Blocks.{level_of}
use Rattle.html_blocks.proofs.NameLaws.{heading_at, six}
use Rattle.html_blocks.proofs.names.heading.Goals as goal

pub returns-in-0 : goal.returns-in-0
returns-in-0 c = heading_at c.args.depth 1 (ap level_of c.in-0.is) (omega arith)

pub returns-in-1 : goal.returns-in-1
returns-in-1 c = heading_at c.args.depth 1 (ap level_of c.in-1.is) (omega arith)

pub returns-in-2 : goal.returns-in-2
returns-in-2 c = heading_at c.args.depth 2 (ap level_of c.in-2.is) (omega arith)

pub returns-in-3 : goal.returns-in-3
returns-in-3 c = heading_at c.args.depth 3 (ap level_of c.in-3.is) (omega arith)

pub returns-in-4 : goal.returns-in-4
returns-in-4 c = heading_at c.args.depth 4 (ap level_of c.in-4.is) (omega arith)

pub returns-in-5 : goal.returns-in-5
returns-in-5 c = heading_at c.args.depth 5 (ap level_of c.in-5.is) (omega arith)

pub returns-in_default : goal.returns-in_default
returns-in_default c = heading_at c.args.depth 6 (six c.args.depth (omega arith)) (omega arith)
