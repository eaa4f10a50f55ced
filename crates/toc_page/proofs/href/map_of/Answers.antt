use Rattle.std.proofs.Common.{ap}
use Rattle.std.specs.Option.{option_map_or}
use Rattle.dita_doc.specs.declared.plan.PlanNode.{PlanNode}
use Rattle.toc_page.proofs.href.map_of.Goals as goal

pub returns-in-Some : goal.returns-in-Some
returns-in-Some c =
    ap (λ found. option_map_or (λ (root : PlanNode). root.doc) found c.args.node.now.doc) c.in-Some.ensures

pub returns-in-None : goal.returns-in-None
returns-in-None c =
    ap (λ found. option_map_or (λ (root : PlanNode). root.doc) found c.args.node.now.doc) c.in-None.ensures
