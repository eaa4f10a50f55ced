use Rattle.std.proofs.Common.{◌≡◌, arith, length, subst}
use Rattle.dita_doc.proofs.Lists.{get_read}
use Rattle.key_scopes.specs.Numbered.{AreNumbered}
use Rattle.key_scopes.proofs.NumberLaws.{new_numbered, number_put, told_there}
use Rattle.key_scopes.proofs.numbering.Numbering.of.Goals as goal

pub loop-at-init : goal.loop-at-init
loop-at-init c = λ world homes before. new_numbered world c.args.nodes.now c.in_ok-numbering.numbering
    c.in_ok-numbering.ensures

pub loop-at-preserved : goal.loop-at-preserved
loop-at-preserved c = λ world homes before.
    let nodes = c.args.nodes.now in
    let at = c.loop-at.at in
    let node = c.index-nodes-at.result in
    let within = c.loop-at-test.true in
    let is = get_read nodes at node within c.index-nodes-at.is in
    let in_table = told_there nodes at c.deref.result.now c.in_ok-inside.inside.items c.is_within-in_table.result within
    (c.in_ok-inside.ensures before) c.deref.ensures.value c.is_within-in_table.ensures in
    number_put world c.args.homes.now nodes at node c.is_within-in_table.result c.loop-at.numbering c.put_node.new.self
    homes before within is in_table (c.loop-at.invariant world homes before) c.in_ok-put_node.ensures

pub returns : goal.returns
returns c = λ world homes before.
    let end : c.loop-at.at ≡ length c.args.nodes.now = omega arith in
    subst (λ count. AreNumbered world c.args.nodes.now count c.loop-at.numbering) end
    (c.loop-at.invariant world homes before)
