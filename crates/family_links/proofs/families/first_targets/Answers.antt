use Rattle.std.proofs.Common.{◌∙◌, ap}
use Rattle.family_links.proofs.TargetLaws.{none_found, none_yet, target_step, with_rest}
use Rattle.family_links.proofs.families.first_targets.Goals as goal

pub loop-node-init : goal.loop-node-init
loop-node-init c = record {
  found = none_found c.new-targets.result.items c.new-linked.result c.new-targets.ensures.items
      c.new-linked.ensures.empty;
  are = ap (λ l. with_rest l c.args.nodes.now) c.new-targets.ensures.items ∙ none_yet c.args.nodes.now;
}

pub loop-node-preserved : goal.loop-node-preserved
loop-node-preserved c = record {
  found = (c.in_ok-put_target.ensures c.loop-node.invariant.found).found;
  are = target_step c.args.nodes.now c.loop-node.targets.items c.put_target.new.targets.items _
      c.loop-node.node-index c.loop-node-test.true
      (c.in_ok-put_target.ensures c.loop-node.invariant.found).is c.loop-node.invariant.are;
}
