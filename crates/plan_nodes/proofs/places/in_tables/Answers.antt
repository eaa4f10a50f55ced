use Rattle.std.proofs.Common.{◌∙◌, ap, map}
use Rattle.std.proofs.lemmas.List.{take_all}
use Rattle.map_spec.specs.Scopes.{places}
use Rattle.plan_nodes.specs.Preorder.{is_in_table_at}
use Rattle.plan_nodes.proofs.TableLaws.{table_more}
use Rattle.plan_nodes.proofs.places.in_tables.Goals as goal

pub loop-node-preserved : goal.loop-node-preserved
loop-node-preserved c = λ before.
    c.in_ok-push.ensures.items
    ∙ table_more c.args.nodes.now c.loop-node.node-index c.node-item.result c.loop-node.inside.items
    c.is_within-within.result before c.loop-node-test.true c.node-item.is
    (c.loop-node.invariant before) (cc)

pub returns : goal.returns
returns c = λ before.
    c.loop-node.invariant before
    ∙ ap (λ nodes. map (is_in_table_at c.args.nodes.now) (places nodes))
    (take_all c.loop-node.node-index c.args.nodes.now c.loop-node-test.false)
