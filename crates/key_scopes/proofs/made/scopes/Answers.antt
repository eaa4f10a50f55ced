use Rattle.std.proofs.Common.{◌∙◌}
use Rattle.readers.proofs.DocumentLaws.{homes_asked}
use Rattle.readers.proofs.FoundedLaws.{homes_founded}
use Rattle.key_scopes.proofs.Walking.{same_nodes}
use Rattle.key_scopes.proofs.made.scopes.Goals as goal

pub returns-clause-only : goal.returns-clause-only
returns-clause-only g c = same_nodes c.into_scopes.result _ _ _ _ (c.in_ok-copy_nodes.ensures ∙ c.as_slice.ensures)
    c.into_scopes.ensures.only

pub returns-clause-founded : goal.returns-clause-founded
returns-clause-founded g c =
    homes_founded _ _ _ _ (c.in_ok-copy_nodes.ensures ∙ c.as_slice.ensures) c.into_scopes.ensures.founded

pub returns-clause-asks : goal.returns-clause-asks
returns-clause-asks g c =
    homes_asked _ _ _ _ (c.in_ok-copy_nodes.ensures ∙ c.as_slice.ensures) c.into_scopes.ensures.asks
