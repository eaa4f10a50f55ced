use Rattle.std.proofs.Common.{◌+◌, ap, ◌∙◌, arith}
use Rattle.std.specs.Prelude.{map, take}
use Rattle.std.proofs.lemmas.List.{take_all}
use Rattle.map_spec.specs.Cascade.{whole_at}
use Rattle.readers.proofs.GrowthLaws.{agrees_before, grows_trans}
use Rattle.plan_nodes.proofs.HomeLaws.{homes_push, push_of}
use Rattle.plan_nodes.proofs.ToldLaws.{homes_told}
use Rattle.plan_nodes.proofs.Walking.{asks_walking, only_walking, stays_walking}
use Rattle.plan_nodes.proofs.node_elements.homes_of.Goals as goal

pub loop-node-preserved : goal.loop-node-preserved
loop-node-preserved g c = record {
  found = λ world agrees.
      (let before = c.loop-node.invariant.found world (agrees_before world _ _ c.in_ok-home.ensures.grows agrees) in
      homes_push world c.loop-node.docs.items c.home_of.new.docs.items c.loop-node.known.entries
      c.home_of.new.known.entries (take c.loop-node.node-index c.args.nodes.now)
      (take (c.loop-node.node-index + 1) c.args.nodes.now) c.node-item.result c.loop-node.homes.items
      c.push.new.self.items c.in_ok-home.home
      (push_of c.args.nodes.now c.loop-node.node-index c.node-item.result c.loop-node-test.true c.node-item.is)
      c.in_ok-push.ensures.items before (c.in_ok-home.ensures.known world agrees before.known));
  given = c.in_ok-home.ensures.given c.loop-node.invariant.given;
  stand = c.in_ok-home.ensures.stand ∙ c.loop-node.invariant.stand;
  founded = stays_walking c.args.nodes.now c.loop-node.node-index c.node-item.result c.loop-node-test.true
      c.node-item.is _ _ _ c.loop-node.invariant.grows c.loop-node.invariant.founded c.in_ok-home.ensures.founded;
  asks = asks_walking c.args.nodes.now c.loop-node.node-index c.node-item.result c.loop-node-test.true c.node-item.is
      _ _ _ c.loop-node.invariant.grows c.loop-node.invariant.asks c.in_ok-home.ensures.asks;
  only = only_walking c.args.nodes.now c.loop-node.node-index c.node-item.result c.loop-node-test.true c.node-item.is
      _ _ _ c.loop-node.invariant.only c.in_ok-home.ensures.only;
  grows = grows_trans _ _ _ c.loop-node.invariant.grows c.in_ok-home.ensures.grows;
}

pub returns-in_err-home-clause-stand : goal.returns-in_err-home-clause-stand
returns-in_err-home-clause-stand g c = c.in_err-home.ensures.stand ∙ c.loop-node.invariant.stand

pub returns-in_err-home-clause-founded : goal.returns-in_err-home-clause-founded
returns-in_err-home-clause-founded g c = stays_walking c.args.nodes.now c.loop-node.node-index c.node-item.result
    c.loop-node-test.true c.node-item.is _ _ _ c.loop-node.invariant.grows c.loop-node.invariant.founded
    c.in_err-home.ensures.founded

pub returns-in_err-home-clause-asks : goal.returns-in_err-home-clause-asks
returns-in_err-home-clause-asks g c = asks_walking c.args.nodes.now c.loop-node.node-index c.node-item.result
    c.loop-node-test.true c.node-item.is _ _ _ c.loop-node.invariant.grows c.loop-node.invariant.asks
    c.in_err-home.ensures.asks

pub returns-in_err-home-clause-grows : goal.returns-in_err-home-clause-grows
returns-in_err-home-clause-grows g c = grows_trans _ _ _ c.loop-node.invariant.grows c.in_err-home.ensures.grows

pub returns-in_err-push-clause-stand : goal.returns-in_err-push-clause-stand
returns-in_err-push-clause-stand g c = c.in_ok-home.ensures.stand ∙ c.loop-node.invariant.stand

pub returns-in_err-push-clause-founded : goal.returns-in_err-push-clause-founded
returns-in_err-push-clause-founded g c = stays_walking c.args.nodes.now c.loop-node.node-index c.node-item.result
    c.loop-node-test.true c.node-item.is _ _ _ c.loop-node.invariant.grows c.loop-node.invariant.founded
    c.in_ok-home.ensures.founded

pub returns-in_err-push-clause-asks : goal.returns-in_err-push-clause-asks
returns-in_err-push-clause-asks g c = asks_walking c.args.nodes.now c.loop-node.node-index c.node-item.result
    c.loop-node-test.true c.node-item.is _ _ _ c.loop-node.invariant.grows c.loop-node.invariant.asks
    c.in_ok-home.ensures.asks

pub returns-in_err-push-clause-grows : goal.returns-in_err-push-clause-grows
returns-in_err-push-clause-grows g c = grows_trans _ _ _ c.loop-node.invariant.grows c.in_ok-home.ensures.grows

pub returns-clause-known : goal.returns-clause-known
returns-clause-known g c = λ world agrees.
    (c.loop-node.invariant.found world agrees).are
    ∙ ap (map (whole_at world)) (take_all c.loop-node.node-index c.args.nodes.now (omega arith))

pub returns-clause-given : goal.returns-clause-given
returns-clause-given g c = homes_told _ c.loop-node.docs.items c.loop-node.homes.items c.loop-node.invariant.given
