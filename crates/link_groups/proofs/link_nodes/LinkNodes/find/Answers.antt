use Rattle.std.proofs.Common.{sym, inr}
use Rattle.readers.proofs.FoundedLaws.{stays_one}
use Rattle.link_groups.specs.LinkNodes.{plan_names}
use Rattle.link_groups.proofs.NodeLaws.{found_asked, named_among}
use Rattle.link_groups.proofs.link_nodes.LinkNodes.find.Goals as goal

pub returns-in_err-found-clause-founded : goal.returns-in_err-found-clause-founded
returns-in_err-found-clause-founded g c =
    stays_one c.in-Some.name.now (plan_names c.args.plan.now) _ _
    (named_among c.args.plan.now c.args.at c.in-Some.name.now (sym c.in-Some.ensures)) c.link_node_of.ensures.founded

pub returns-in_err-insert-clause-founded : goal.returns-in_err-insert-clause-founded
returns-in_err-insert-clause-founded g c =
    stays_one c.in-Some.name.now (plan_names c.args.plan.now) _ _
    (named_among c.args.plan.now c.args.at c.in-Some.name.now (sym c.in-Some.ensures)) c.link_node_of.ensures.founded

pub returns-clause-known : goal.returns-clause-known
returns-clause-known g c = λ world agrees carry pages are.
    found_asked world c.args.plan.now (g.A.Reader.stand c.args.asker.now).setting.pages c.args.at c.in_ok-place.place
    c.in-Some.name.now c.in-Some-node_at.node.now c.in_ok-found.found c.args.self.now
    (record { known = c.insert.new.self }) carry pages c.in-Some.ensures c.in-Some-node_at.ensures
    c.in_ok-place.ensures.place (c.in_ok-found.ensures.known world agrees) are c.in_ok-insert.ensures.updates.0

pub returns-clause-founded : goal.returns-clause-founded
returns-clause-founded g c =
    stays_one c.in-Some.name.now (plan_names c.args.plan.now) _ _
    (named_among c.args.plan.now c.args.at c.in-Some.name.now (sym c.in-Some.ensures)) c.link_node_of.ensures.founded

pub returns-in_err-found-clause-stand : goal.returns-in_err-found-clause-stand
returns-in_err-found-clause-stand g c = c.link_node_of.ensures.stand

pub returns-in_err-found-clause-asks : goal.returns-in_err-found-clause-asks
returns-in_err-found-clause-asks g c = c.link_node_of.ensures.asks

pub returns-in_err-found-clause-grows : goal.returns-in_err-found-clause-grows
returns-in_err-found-clause-grows g c = c.link_node_of.ensures.grows

pub returns-in_err-insert-clause-stand : goal.returns-in_err-insert-clause-stand
returns-in_err-insert-clause-stand g c = c.link_node_of.ensures.stand

pub returns-in_err-insert-clause-asks : goal.returns-in_err-insert-clause-asks
returns-in_err-insert-clause-asks g c = c.link_node_of.ensures.asks

pub returns-in_err-insert-clause-grows : goal.returns-in_err-insert-clause-grows
returns-in_err-insert-clause-grows g c = c.link_node_of.ensures.grows

pub returns-clause-stand : goal.returns-clause-stand
returns-clause-stand g c = c.link_node_of.ensures.stand

pub returns-clause-asks : goal.returns-clause-asks
returns-clause-asks g c = c.link_node_of.ensures.asks

pub returns-clause-grows : goal.returns-clause-grows
returns-clause-grows g c = c.link_node_of.ensures.grows

pub returns-clause-asked : goal.returns-clause-asked
returns-clause-asked g c = inr (record {
  node = c.in-Some-node_at.node.now;
  name = c.in-Some.name.now;
  there = c.in-Some-node_at.ensures;
  leads = c.in-Some.ensures;
  asked = c.in_ok-found.ensures.asked;
})
