use Rattle.std.proofs.Common.{◌∙◌, ap, refl, sym}
use Rattle.doc_elements.specs.Walk.{element_of}
use Rattle.readers.proofs.DocumentLaws.{asks_same}
use Rattle.readers.proofs.FoundedLaws.{stays_same}
use Rattle.readers.proofs.GrowthLaws.{grows_same}
use Rattle.targets.specs.Named.{named_shown}
use Rattle.branch_copies.proofs.BranchLaws.{asks_named, stays_named}
use Rattle.branch_copies.proofs.branch.read_filter.Goals as goal

pub returns-in_default-clause-stand : goal.returns-in_default-clause-stand
returns-in_default-clause-stand g c = refl

pub returns-in_default-clause-founded : goal.returns-in_default-clause-founded
returns-in_default-clause-founded g c = stays_same _ _ _ refl

pub returns-in_default-clause-asks : goal.returns-in_default-clause-asks
returns-in_default-clause-asks g c = asks_same _ _ _ _ refl

pub returns-in_default-clause-grows : goal.returns-in_default-clause-grows
returns-in_default-clause-grows g c = grows_same _

pub returns-in_err-val-clause-stand : goal.returns-in_err-val-clause-stand
returns-in_err-val-clause-stand g c = refl

pub returns-in_err-val-clause-founded : goal.returns-in_err-val-clause-founded
returns-in_err-val-clause-founded g c = stays_same _ _ _ refl

pub returns-in_err-val-clause-asks : goal.returns-in_err-val-clause-asks
returns-in_err-val-clause-asks g c = asks_same _ _ _ _ refl

pub returns-in_err-val-clause-grows : goal.returns-in_err-val-clause-grows
returns-in_err-val-clause-grows g c = grows_same _

pub returns-in_err-fault_at-in-Elsewhere-clause-stand : goal.returns-in_err-fault_at-in-Elsewhere-clause-stand
returns-in_err-fault_at-in-Elsewhere-clause-stand g c = refl

pub returns-in_err-fault_at-in-Elsewhere-clause-founded : goal.returns-in_err-fault_at-in-Elsewhere-clause-founded
returns-in_err-fault_at-in-Elsewhere-clause-founded g c = stays_same _ _ _ refl

pub returns-in_err-fault_at-in-Elsewhere-clause-asks : goal.returns-in_err-fault_at-in-Elsewhere-clause-asks
returns-in_err-fault_at-in-Elsewhere-clause-asks g c = asks_same _ _ _ _ refl

pub returns-in_err-fault_at-in-Elsewhere-clause-grows : goal.returns-in_err-fault_at-in-Elsewhere-clause-grows
returns-in_err-fault_at-in-Elsewhere-clause-grows g c = grows_same _

pub returns-in_err-push-in-Elsewhere-clause-stand : goal.returns-in_err-push-in-Elsewhere-clause-stand
returns-in_err-push-in-Elsewhere-clause-stand g c = refl

pub returns-in_err-push-in-Elsewhere-clause-founded : goal.returns-in_err-push-in-Elsewhere-clause-founded
returns-in_err-push-in-Elsewhere-clause-founded g c = stays_same _ _ _ refl

pub returns-in_err-push-in-Elsewhere-clause-asks : goal.returns-in_err-push-in-Elsewhere-clause-asks
returns-in_err-push-in-Elsewhere-clause-asks g c = asks_same _ _ _ _ refl

pub returns-in_err-push-in-Elsewhere-clause-grows : goal.returns-in_err-push-in-Elsewhere-clause-grows
returns-in_err-push-in-Elsewhere-clause-grows g c = grows_same _

pub returns-in_err-fault_at-in-Unreadable-clause-stand : goal.returns-in_err-fault_at-in-Unreadable-clause-stand
returns-in_err-fault_at-in-Unreadable-clause-stand g c = refl

pub returns-in_err-fault_at-in-Unreadable-clause-founded : goal.returns-in_err-fault_at-in-Unreadable-clause-founded
returns-in_err-fault_at-in-Unreadable-clause-founded g c = stays_same _ _ _ refl

pub returns-in_err-fault_at-in-Unreadable-clause-asks : goal.returns-in_err-fault_at-in-Unreadable-clause-asks
returns-in_err-fault_at-in-Unreadable-clause-asks g c = asks_same _ _ _ _ refl

pub returns-in_err-fault_at-in-Unreadable-clause-grows : goal.returns-in_err-fault_at-in-Unreadable-clause-grows
returns-in_err-fault_at-in-Unreadable-clause-grows g c = grows_same _

pub returns-in_err-push-in-Unreadable-clause-stand : goal.returns-in_err-push-in-Unreadable-clause-stand
returns-in_err-push-in-Unreadable-clause-stand g c = refl

pub returns-in_err-push-in-Unreadable-clause-founded : goal.returns-in_err-push-in-Unreadable-clause-founded
returns-in_err-push-in-Unreadable-clause-founded g c = stays_same _ _ _ refl

pub returns-in_err-push-in-Unreadable-clause-asks : goal.returns-in_err-push-in-Unreadable-clause-asks
returns-in_err-push-in-Unreadable-clause-asks g c = asks_same _ _ _ _ refl

pub returns-in_err-push-in-Unreadable-clause-grows : goal.returns-in_err-push-in-Unreadable-clause-grows
returns-in_err-push-in-Unreadable-clause-grows g c = grows_same _

pub returns-clause-stand : goal.returns-clause-stand
returns-clause-stand g c = refl

pub returns-clause-founded : goal.returns-clause-founded
returns-clause-founded g c = stays_same _ _ _ refl

pub returns-clause-asks : goal.returns-clause-asks
returns-clause-asks g c = asks_same _ _ _ _ refl

pub returns-clause-grows : goal.returns-clause-grows
returns-clause-grows g c = grows_same _

pub returns-in-Document-clause-stand : goal.returns-in-Document-clause-stand
returns-in-Document-clause-stand g c = c.filter_under.ensures.stand

pub returns-in-Document-clause-grows : goal.returns-in-Document-clause-grows
returns-in-Document-clause-grows g c = c.filter_under.ensures.grows

pub returns-in-Document-clause-founded : goal.returns-in-Document-clause-founded
returns-in-Document-clause-founded g c =
    stays_named (element_of c.args.name.now c.args.element.now) _ c.in-Document.val _ _ c.in-Some.ensures
    (sym (ap named_shown c.in-Document.is) ∙ c.in_ok-val.ensures) c.filter_under.ensures.founded

pub returns-in-Document-clause-asks : goal.returns-in-Document-clause-asks
returns-in-Document-clause-asks g c =
    asks_named (element_of c.args.name.now c.args.element.now) _ c.in-Document.val _ _ c.in-Some.ensures
    (sym (ap named_shown c.in-Document.is) ∙ c.in_ok-val.ensures) c.filter_under.ensures.asks
