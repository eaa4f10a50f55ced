use Rattle.std.proofs.Common.{arith}
use Rattle.map_spec.specs.Cascade.{cascaded}
use Rattle.attr_cascade.proofs.ValueLaws.{nodes_end, nodes_more, told_there}
use Rattle.attr_cascade.proofs.values.copies_with_values.Goals as goal

pub loop-at-preserved : goal.loop-at-preserved
loop-at-preserved c = λ world near tables inside.
    let nodes = c.args.nodes.now in
    let at = c.loop-at.at in
    let within = c.loop-at-test.true in
    let in_table = told_there nodes at c.args.inside.now c.is_within.result within inside c.is_within.ensures in
    nodes_more world nodes at c.index-nodes-at.result c.in_ok-with_values.field-0 c.loop-at.made c.push.new.self
    (cascaded world nodes) within c.index-nodes-at.is
    (c.in_ok-with_values.ensures world nodes within near tables in_table)
    (c.loop-at.invariant world near tables inside) c.in_ok-push.ensures

pub returns : goal.returns
returns c = λ world near tables inside. nodes_end world c.args.nodes.now c.loop-at.at c.loop-at.made
    (cascaded world c.args.nodes.now) (omega arith) (c.loop-at.invariant world near tables inside)
