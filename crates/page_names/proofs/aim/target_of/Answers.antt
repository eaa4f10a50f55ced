use Rattle.std.proofs.Common.{refl}
use Rattle.readers.proofs.DocumentLaws.{asks_same}
use Rattle.readers.proofs.FoundedLaws.{stays_same}
use Rattle.readers.proofs.GrowthLaws.{grows_same}
use Rattle.page_names.proofs.GivenUseLaws.{answer_named, given_later}
use Rattle.page_names.proofs.aim.target_of.Goals as goal

pub returns-clause-given : goal.returns-clause-given
returns-clause-given g c = λ given.
    c.target_by_key.ensures.given _ (given_later _ _ _ _ c.in_ok-answer.ensures.grows given)
    (answer_named _ _ _ _ _ _ c.in_ok-answer.ensures.told)

pub returns-in_default-clause-stand : goal.returns-in_default-clause-stand
returns-in_default-clause-stand g c = refl

pub returns-in_default-clause-founded : goal.returns-in_default-clause-founded
returns-in_default-clause-founded g c = stays_same _ _ _ refl

pub returns-in_default-clause-asks : goal.returns-in_default-clause-asks
returns-in_default-clause-asks g c = asks_same _ _ _ _ refl

pub returns-in_default-clause-grows : goal.returns-in_default-clause-grows
returns-in_default-clause-grows g c = grows_same _

pub returns-in_err-key-clause-stand : goal.returns-in_err-key-clause-stand
returns-in_err-key-clause-stand g c = refl

pub returns-in_err-key-clause-founded : goal.returns-in_err-key-clause-founded
returns-in_err-key-clause-founded g c = stays_same _ _ _ refl

pub returns-in_err-key-clause-asks : goal.returns-in_err-key-clause-asks
returns-in_err-key-clause-asks g c = asks_same _ _ _ _ refl

pub returns-in_err-key-clause-grows : goal.returns-in_err-key-clause-grows
returns-in_err-key-clause-grows g c = grows_same _
