use Rattle.std.proofs.Common.{◌∙◌, ℕ, ap}
use Rattle.dita_doc.specs.declared.plan.PlanNode.{PlanNode}
use Rattle.node_filter.proofs.sieve.moved.Goals as goal

pub returns : goal.returns
returns c =
    ap (λ (node : PlanNode). record node { parent = c.place_in.result }) c.in_ok-copy.ensures
    ∙ ap (λ (parent : ℕ). record c.args.node.now { parent = parent }) c.place_in.ensures
