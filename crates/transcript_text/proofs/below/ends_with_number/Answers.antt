use Rattle.transcript_text.proofs.FaultLaws.{last_by}
use Rattle.transcript_text.proofs.below.ends_with_number.Goals as goal

pub returns-in-Some : goal.returns-in-Some
returns-in-Some c = last_by _ _ _ c.is_none.result c.in-Some.ensures.0 c.in-Some.ensures.1 c.is_none.ensures
