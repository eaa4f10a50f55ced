use Rattle.faithful_laws.proofs.OrderLaws.{keeps_order}
use Rattle.faithful_laws.proofs.sessions_in_order.Goals as goal

pub returns : goal.returns
returns c = keeps_order
