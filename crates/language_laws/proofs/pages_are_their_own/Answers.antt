use Rattle.build_plan.proofs.UseLaws.{plan_own}
use Rattle.language_laws.proofs.pages_are_their_own.Goals as goal

pub returns : goal.returns
returns c = plan_own
