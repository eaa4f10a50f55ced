use Rattle.std.proofs.Common.{◌∙◌, ap}
use Rattle.attr_cascade.specs.Nearest.{seen}
use Rattle.attr_cascade.specs.Tokens.{place_at}
use Rattle.attr_cascade.proofs.TokenLaws.{table_more}
use Rattle.attr_cascade.proofs.tokens.TokenTable.of.Goals as goal

pub loop-at-preserved : goal.loop-at-preserved
loop-at-preserved c = λ world homes before cascades.
    let node = c.index-nodes-at.result in
    table_more world c.args.name.now c.args.nodes.now c.args.homes.now c.loop-at.at node c.loop-at.lists.items
    c.place_of.new.lists.items c.loop-at.places.items c.push.new.self.items c.in_ok-place.place c.place_at-above.result
    c.value-own.result c.merges.result (seen c.args.cascades.now) homes before cascades c.loop-at-test.true
    c.index-nodes-at.is (c.loop-at.invariant world homes before cascades)
    (c.place_at-above.ensures ∙ ap (λ places. place_at places node.parent) c.deref.ensures.value) c.value-own.ensures
    c.merges.ensures c.in_ok-place.ensures c.in_ok-push.ensures.items
