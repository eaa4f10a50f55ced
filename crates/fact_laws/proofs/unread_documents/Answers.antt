use Rattle.fact_laws.proofs.UnreadLaws.{own_again, plan_again}
use Rattle.fact_laws.proofs.unread_documents.Goals as goal

pub returns-clause-plan : goal.returns-clause-plan
returns-clause-plan c = plan_again

pub returns-clause-own : goal.returns-clause-own
returns-clause-own c = own_again
