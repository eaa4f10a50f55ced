use Rattle.std.proofs.Common.{◌∙◌, ap}
use Rattle.std.specs.Option.{option_copied, option_or}
use Rattle.attr_cascade.specs.Nearest.{passed_on, seen}
use Rattle.attr_cascade.proofs.NearestLaws.{values_more}
use Rattle.attr_cascade.proofs.nearest.nearest_values.Goals as goal

pub loop-at-preserved : goal.loop-at-preserved
loop-at-preserved c = λ world homes before.
    let node = c.index-nodes-at.result in
    let own = option_copied c.value-own.result in
    let parent = option_copied c.parent_of-parent.result in
    values_more world c.args.name.now c.args.nodes.now c.args.homes.now c.loop-at.at node c.loop-at.values.items
    c.push.new.self.items c.value-own.result c.own_or_passed-value.result parent before homes c.loop-at-test.true
    c.index-nodes-at.is (c.loop-at.invariant world homes before) c.value-own.ensures c.parent_of-parent.ensures
    (c.own_or_passed-value.ensures
    ∙ ap (λ values. option_or own (passed_on c.args.name.now node parent (seen values))) c.deref.ensures.value)
    c.in_ok-push.ensures.items
