use Rattle.node_links.specs.NodeTable.{AreNodeLinks}
use Rattle.clean_build.proofs.NameLaws.{stays_links}
use Rattle.clean_build.proofs.ReadyLaws.{can_link, ok_under}
use Rattle.clean_build.proofs.works.LinksWorkPlanTask.run.Goals as goal

pub returns-clause-known : goal.returns-clause-known
returns-clause-known g c = λ world agrees.
    let ground = c.args.self.ground in
    ok_under c.of.result (AreNodeLinks world ground.plan.now)
    (λ ready. c.of.ensures.known world agrees (can_link world ground _ ready))

pub returns-clause-founded : goal.returns-clause-founded
returns-clause-founded g c = stays_links _ _ _ c.args.self.ground c.of.ensures.founded

pub returns-clause-asks : goal.returns-clause-asks
returns-clause-asks g c = c.of.ensures.asks

pub returns-clause-only : goal.returns-clause-only
returns-clause-only g c = λ world agrees. c.of.ensures.only
