use Rattle.whole_calls.proofs.SingleLaws.{of_given, same_plan}
use Rattle.whole_calls.proofs.resolved.resolved_of_plan.Goals as goal

pub returns-clause-tells : goal.returns-clause-tells
returns-clause-tells g c = λ world agrees. same_plan _ world _ _ _ _ (c.over_reader.ensures.known world agrees)

pub returns-clause-known : goal.returns-clause-known
returns-clause-known g c = λ world agrees is.
    of_given _ world _ _ _ _ c.args.plan.now is (c.over_reader.ensures.known world agrees)
