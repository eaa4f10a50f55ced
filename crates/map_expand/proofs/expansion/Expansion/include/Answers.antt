use Rattle.std.proofs.Common.{subst, arith, refl}
use Rattle.targets.specs.Named.{named_shown}
use Rattle.map_expand.specs.Telling.{MayFind}
use Rattle.map_expand.proofs.TellingLaws.{asks_free, stays_free}
use Rattle.readers.proofs.DocumentLaws.{asks_same}
use Rattle.readers.proofs.FoundedLaws.{stays_same}
use Rattle.readers.proofs.GrowthLaws.{grows_same}
use Rattle.map_expand.proofs.expansion.Expansion.include.Goals as goal

pub returns-in-Document-clause-founded : goal.returns-in-Document-clause-founded
returns-in-Document-clause-founded g c = stays_free c.in-Document.name _ _
    (subst (λ n. MayFind (g.R.Reader.told c.args.reader.now) (named_shown n)) c.in-Document.is c.requires.may)
    c.include_name.ensures.founded

pub returns-in-Document-clause-asks : goal.returns-in-Document-clause-asks
returns-in-Document-clause-asks g c = asks_free c.in-Document.name _ _
    (subst (λ n. MayFind (g.R.Reader.told c.args.reader.now) (named_shown n)) c.in-Document.is c.requires.may)
    c.include_name.ensures.asks

pub returns-in-Document-clause-few : goal.returns-in-Document-clause-few
returns-in-Document-clause-few g c = c.include_name.ensures.few

pub returns-in-Document-clause-less : goal.returns-in-Document-clause-less
returns-in-Document-clause-less g c = c.include_name.ensures.less

pub returns-in-Document-clause-ready : goal.returns-in-Document-clause-ready
returns-in-Document-clause-ready g c = c.include_name.ensures.ready

pub returns-in-Document-clause-stand : goal.returns-in-Document-clause-stand
returns-in-Document-clause-stand g c = c.include_name.ensures.stand

pub returns-in-Document-clause-grows : goal.returns-in-Document-clause-grows
returns-in-Document-clause-grows g c = c.include_name.ensures.grows

pub returns-in-Elsewhere-clause-few : goal.returns-in-Elsewhere-clause-few
returns-in-Elsewhere-clause-few g c = c.requires.count

pub returns-clause-few : goal.returns-clause-few
returns-clause-few g c = c.requires.count

pub returns-in-Elsewhere-clause-less : goal.returns-in-Elsewhere-clause-less
returns-in-Elsewhere-clause-less g c = omega arith

pub returns-clause-less : goal.returns-clause-less
returns-clause-less g c = omega arith

pub returns-in-Elsewhere-clause-ready : goal.returns-in-Elsewhere-clause-ready
returns-in-Elsewhere-clause-ready g c = c.requires.ready

pub returns-in-Elsewhere-clause-stand : goal.returns-in-Elsewhere-clause-stand
returns-in-Elsewhere-clause-stand g c = refl

pub returns-in-Elsewhere-clause-grows : goal.returns-in-Elsewhere-clause-grows
returns-in-Elsewhere-clause-grows g c = grows_same _

pub returns-in-Elsewhere-clause-founded : goal.returns-in-Elsewhere-clause-founded
returns-in-Elsewhere-clause-founded g c = stays_same _ _ _ refl

pub returns-in-Elsewhere-clause-asks : goal.returns-in-Elsewhere-clause-asks
returns-in-Elsewhere-clause-asks g c = asks_same _ _ _ _ refl

pub returns-in_err-append_fault-in-Unreadable-clause-stand : goal.returns-in_err-append_fault-in-Unreadable-clause-stand
returns-in_err-append_fault-in-Unreadable-clause-stand g c = refl

pub returns-in_err-append_fault-in-Unreadable-clause-grows : goal.returns-in_err-append_fault-in-Unreadable-clause-grows
returns-in_err-append_fault-in-Unreadable-clause-grows g c = grows_same _

pub returns-in_err-append_fault-in-Unreadable-clause-founded : goal.returns-in_err-append_fault-in-Unreadable-clause-founded
returns-in_err-append_fault-in-Unreadable-clause-founded g c = stays_same _ _ _ refl

pub returns-in_err-append_fault-in-Unreadable-clause-asks : goal.returns-in_err-append_fault-in-Unreadable-clause-asks
returns-in_err-append_fault-in-Unreadable-clause-asks g c = asks_same _ _ _ _ refl

pub returns-clause-stand : goal.returns-clause-stand
returns-clause-stand g c = refl

pub returns-clause-grows : goal.returns-clause-grows
returns-clause-grows g c = grows_same _

pub returns-clause-founded : goal.returns-clause-founded
returns-clause-founded g c = stays_same _ _ _ refl

pub returns-clause-asks : goal.returns-clause-asks
returns-clause-asks g c = asks_same _ _ _ _ refl
