use Rattle.std.proofs.Common.{◌≡◌, ◌+◌, arith, subst, sym, ◌∙◌}
use Rattle.map_spec.specs.MapTree.{count}
use Rattle.branch_copies.specs.Stands.{IsLeft}
use Rattle.branch_copies.proofs.StandLaws.{end_stands, left_first, left_map, left_next, left_none}
use Rattle.branch_copies.proofs.names.included_map.Goals as goal

pub loop-child-init : goal.loop-child-init
loop-child-init c = λ parent head below more stands.
    let nodes = c.args.nodes.now in
    let at = c.args.at in
    let ends : c.end_of-end.result ≡ at + 1 + count below =
    c.end_of-end.ensures.is ∙ end_stands nodes parent at head below more stands in
    let first : c.saturating_add-child.result ≡ at + 1 =
    omega (arith, ends, c.end_of-end.type_inv, c.saturating_add-child.ensures) in
    subst (λ child. IsLeft nodes at c.end_of-end.result child below) (sym first)
    (left_first nodes parent at c.end_of-end.result head below more c.end_of-end.ensures.is stands)

pub returns-then-is_map_at : goal.returns-then-is_map_at
returns-then-is_map_at c = λ parent head below more stands.
    left_map c.args.nodes.now c.args.at c.end_of-end.result c.loop-child.child below c.loop-child-test.true
    (sym c.is_map_at.ensures ∙ c.if-is_map_at.true)
    (c.loop-child.invariant parent head below more stands)

pub loop-child-preserved : goal.loop-child-preserved
loop-child-preserved c = λ parent head below more stands.
    left_next c.args.nodes.now c.args.at c.end_of-end.result c.loop-child.child c.next_sibling-child.result below
    c.loop-child-test.true c.next_sibling-child.ensures.is (sym c.is_map_at.ensures ∙ c.if-is_map_at.false)
    (c.loop-child.invariant parent head below more stands)

pub returns : goal.returns
returns c = λ parent head below more stands.
    left_none c.args.nodes.now c.args.at c.end_of-end.result c.loop-child.child below c.loop-child-test.false
    (c.loop-child.invariant parent head below more stands)
