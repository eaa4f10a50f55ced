use Rattle.std.proofs.Common.{◌∙◌, ◌<◌, ap, arith, length, map}
use Rattle.family_links.specs.Grouped.{kind_at}
use Rattle.family_links.proofs.MadeLaws.{kinds_more, tables_of, told_there}
use Rattle.family_links.proofs.PlaceLaws.{all_places}
use Rattle.family_links.proofs.groups.kinds_of.Goals as goal

pub loop-at-preserved : goal.loop-at-preserved
loop-at-preserved c = λ world before homes.
    let at = c.loop-at.at in
    let nodes = c.args.plan.now.nodes in
    let count = ap length c.as_slice-nodes.ensures in
    let within : at < length nodes = omega (arith, c.loop-at-test.true, count) in
    let are = tables_of nodes c.as_slice-nodes.result.now c.in_ok-inside.inside.items c.as_slice-nodes.ensures before
    c.in_ok-inside.ensures in
    let told = told_there nodes at c.deref.result.now c.is_within.result within (c.deref.ensures.value ∙ are)
    c.is_within.ensures in
    c.in_ok-push.ensures.items
    ∙ kinds_more world c.args.plan.now c.loop-at.kinds.items c.kind_of.result at within
    (c.loop-at.invariant world before homes) (c.kind_of.ensures world c.args.plan.now homes told)

pub returns : goal.returns
returns c = λ world before homes.
    let count = ap length c.as_slice-nodes.ensures in
    c.loop-at.invariant world before homes
    ∙ ap (map (kind_at world c.args.plan.now)) (all_places c.args.plan.now.nodes c.loop-at.at
    (omega (arith, c.loop-at-test.false, count)))
