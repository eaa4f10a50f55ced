use Rattle.std.proofs.Common.{◌∙◌, ap, refl, sym}
use Rattle.std.specs.Option.{option_copied}
use Rattle.readers.proofs.DocumentLaws.{asks_same}
use Rattle.readers.proofs.FoundedLaws.{stays_same}
use Rattle.readers.proofs.GrowthLaws.{grows_same}
use Rattle.page_names.proofs.AimLaws.{target_there}
use Rattle.page_names.proofs.aim.target_in.Goals as goal

pub returns-clause-known : goal.returns-clause-known
returns-clause-known g c = λ keys values scopes world agrees.
    let at = c.args.at in
    let node = c.in-Some.node.now in
    let there = sym c.node_at.ensures ∙ ap option_copied c.in-Some.is in
    target_there world c.args.nodes.now at node c.is_reference.result c.target_among.result there c.is_reference.ensures
    c.if-not-is_reference.false (c.target_among.ensures.known keys values scopes there world agrees)

pub returns-clause-asks : goal.returns-clause-asks
returns-clause-asks g c = c.target_among.ensures.asks

pub returns-clause-founded : goal.returns-clause-founded
returns-clause-founded g c = c.target_among.ensures.founded

pub returns-in_default-clause-stand : goal.returns-in_default-clause-stand
returns-in_default-clause-stand g c = refl

pub returns-in_default-clause-founded : goal.returns-in_default-clause-founded
returns-in_default-clause-founded g c = λ keys. stays_same _ _ _ refl

pub returns-in_default-clause-asks : goal.returns-in_default-clause-asks
returns-in_default-clause-asks g c = asks_same _ _ _ _ refl

pub returns-in_default-clause-grows : goal.returns-in_default-clause-grows
returns-in_default-clause-grows g c = grows_same _

pub returns-then-not-is_reference-clause-stand : goal.returns-then-not-is_reference-clause-stand
returns-then-not-is_reference-clause-stand g c = refl

pub returns-then-not-is_reference-clause-founded : goal.returns-then-not-is_reference-clause-founded
returns-then-not-is_reference-clause-founded g c = λ keys. stays_same _ _ _ refl

pub returns-then-not-is_reference-clause-asks : goal.returns-then-not-is_reference-clause-asks
returns-then-not-is_reference-clause-asks g c = asks_same _ _ _ _ refl

pub returns-then-not-is_reference-clause-grows : goal.returns-then-not-is_reference-clause-grows
returns-then-not-is_reference-clause-grows g c = grows_same _

pub returns-clause-stand : goal.returns-clause-stand
returns-clause-stand g c = c.target_among.ensures.stand

pub returns-clause-grows : goal.returns-clause-grows
returns-clause-grows g c = c.target_among.ensures.grows
