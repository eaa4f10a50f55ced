use Rattle.readers.proofs.DocumentLaws.{homes_asked}
use Rattle.readers.proofs.FoundedLaws.{homes_founded}
use Rattle.readers.proofs.OnlyLaws.{only_held}
use Rattle.key_scopes.proofs.Walking.{same_nodes}
use Rattle.key_scopes.proofs.made.scopes_of.Goals as goal

pub returns-clause-only : goal.returns-clause-only
returns-clause-only g c = same_nodes c.scopes_in.result _ _ _ _ c.as_slice.ensures
    (only_held c.scopes_in.result _ _ _ c.in_ok-homes.ensures.only)

pub returns-in_err-homes-clause-founded : goal.returns-in_err-homes-clause-founded
returns-in_err-homes-clause-founded g c = homes_founded _ _ _ _ c.as_slice.ensures c.of.ensures.founded

pub returns-in_err-homes-clause-asks : goal.returns-in_err-homes-clause-asks
returns-in_err-homes-clause-asks g c = homes_asked _ _ _ _ c.as_slice.ensures c.of.ensures.asks

pub returns-clause-founded : goal.returns-clause-founded
returns-clause-founded g c = homes_founded _ _ _ _ c.as_slice.ensures c.of.ensures.founded

pub returns-clause-asks : goal.returns-clause-asks
returns-clause-asks g c = homes_asked _ _ _ _ c.as_slice.ensures c.of.ensures.asks
