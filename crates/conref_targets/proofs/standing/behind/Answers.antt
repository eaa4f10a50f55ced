use Rattle.std.proofs.Common.{List, arith, ap, sym, ◌∙◌}
use Rattle.std.proofs.lemmas.List.{at_drop_all}
use Rattle.dita_doc.specs.declared.doc.Node.{Node}
use Rattle.conref_targets.specs.Around.{StandsAround, entered_all, standing_shown}
use Rattle.conref_targets.proofs.StandingLaws.{entered_depth, entered_more}
use Rattle.conref_targets.proofs.standing.behind.Goals as goal

pub loop-node-preserved : goal.loop-node-preserved
loop-node-preserved c = record {
  small = (let before = c.loop-node.invariant.small in
      let deep = ap (λ (stands : StandsAround). stands.depth) c.in_ok-standing.ensures in
      let one = entered_depth c.args.place c.node-item.result (standing_shown c.loop-node.standing) in
      omega (arith, before, deep, one));
  same = sym (entered_more c.args.place c.args.nodes.now c.loop-node.node-index c.node-item.result
      (standing_shown c.loop-node.standing) _ c.loop-node-test.true c.node-item.is
      c.in_ok-standing.ensures) ∙ c.loop-node.invariant.same;
}

pub returns : goal.returns
returns c = sym (at_drop_all (λ (ns : List Node). entered_all c.args.place ns (standing_shown c.loop-node.standing))
    c.args.nodes.now c.loop-node.node-index (omega (arith, c.loop-node-test.false))) ∙ c.loop-node.invariant.same
