use Rattle.std.proofs.Common.{ap, ◌∙◌, arith, get_or, map}
use Rattle.plan_nodes.specs.Ends.{raised}
use Rattle.plan_nodes.specs.Preorder.{without_end}
use Rattle.plan_nodes.proofs.EndLaws.{ended_one, ended_two, kept_raised}
use Rattle.plan_nodes.proofs.places.set_end.Goals as goal

pub returns-then-parent-at-clause-kept : goal.returns-then-parent-at-clause-kept
returns-then-parent-at-clause-kept c =
    ap (map without_end) c.raise-then-parent-at.ensures ∙ kept_raised _ _ c.raise.new.nodes
    ∙ ap (map without_end) c.raise.ensures ∙ kept_raised _ _ c.args.nodes.now

pub returns-else-parent-at-clause-kept : goal.returns-else-parent-at-clause-kept
returns-else-parent-at-clause-kept c = ap (map without_end) c.raise.ensures ∙ kept_raised _ _ c.args.nodes.now

pub returns-then-parent-at-clause-ended : goal.returns-then-parent-at-clause-ended
returns-then-parent-at-clause-ended c =
    let at = c.args.at in
    let nodes = c.args.nodes.now in
    let first = c.raise.new.nodes in
    c.raise-then-parent-at.ensures
    ∙ ended_two at nodes first (get_or first at c.index-nodes-at.result)
    (c.raise.ensures ∙ ap (λ end. raised at end nodes) c.in_ok-place_of.ensures.place) (omega arith)
    (ap (get_or first at) c.index-nodes-at.is) c.if-parent-at.true

pub returns-else-parent-at-clause-ended : goal.returns-else-parent-at-clause-ended
returns-else-parent-at-clause-ended c =
    let at = c.args.at in
    let nodes = c.args.nodes.now in
    let first = c.raise.new.nodes in
    ended_one at nodes first (get_or first at c.index-nodes-at.result)
    (c.raise.ensures ∙ ap (λ end. raised at end nodes) c.in_ok-place_of.ensures.place) (omega arith)
    (ap (get_or first at) c.index-nodes-at.is) (omega arith)
