use Rattle.std.proofs.Common.{ap, arith, sym, ◌∙◌, ◌<◌}
use Rattle.dita_doc.specs.declared.plan.PlanNode.{PlanNode}
use Rattle.map_spec.specs.Branches.{is_map_node}
use Rattle.branch_copies.proofs.StepLaws.{other_left}
use Rattle.branch_copies.proofs.copying.Copying.copy_first.Goals as goal

pub returns-then-is_map-clause-goes : goal.returns-then-is_map-clause-goes
returns-then-is_map-clause-goes c = λ world defined head below all is next going.
    let some : 0 < c.args.seen.span.count = omega arith in
    c.copy_map.ensures.goes world defined head below all is next
    (sym (ap (λ (n : PlanNode). is_map_node n.kind) next.first.node) ∙ sym c.is_map.ensures
    ∙ c.if-is_map.true) some going

pub returns-clause-goes : goal.returns-clause-goes
returns-clause-goes c = λ world defined head below all is next going.
    let some : 0 < c.args.seen.span.count = omega arith in
    other_left world c.args.source.now defined c.args.self.now c.args.walk c.args.seen head below is next
    c.leave_copies.new.self all some
    (sym (ap (λ (n : PlanNode). is_map_node n.kind) next.first.node) ∙ sym c.is_map.ensures ∙ c.if-is_map.false)
    c.in_ok-leave_copies.ensures.made c.in_ok-leave_copies.ensures.chains c.in_ok-leave_copies.ensures.left going
