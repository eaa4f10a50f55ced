use Rattle.std.proofs.Common.{◌∙◌, ap, refl, sym}
use Rattle.std.specs.Option.{option_copied}
use Rattle.readers.proofs.GrowthLaws.{grows_same, told_answer}
use Rattle.readers.proofs.DocumentLaws.{asks_same}
use Rattle.readers.proofs.FoundedLaws.{stays_same}
use Rattle.page_names.proofs.UsedLaws.{kind_again, kind_asked}
use Rattle.page_names.proofs.documents.Documents.kind.Goals as goal

pub returns-in-Some-clause-known : goal.returns-in-Some-clause-known
returns-in-Some-clause-known g c = λ world names agrees used.
    kind_again world names c.args.name.now c.in-Some.kind.now c.args.self.now c.in-Some.ensures.value used

pub returns-clause-known : goal.returns-clause-known
returns-clause-known g c = λ world names agrees used.
    kind_asked world names c.args.name.now c.in_ok-clone.field-0 c.in_ok-clone-2.field-0 c.in_ok-kind.kind
    c.args.self.now (record { names = c.push.new.self; kinds = c.insert.new.self })
    (sym c.get.ensures.value ∙ ap option_copied c.in_default.is) used
    (told_answer world _ _ _ c.in_ok-kind.ensures.told agrees) c.in_ok-clone.ensures.cases
    c.in_ok-clone-2.ensures.cases c.in_ok-insert.ensures.entries c.in_ok-push.ensures

pub returns-in-Some-clause-stand : goal.returns-in-Some-clause-stand
returns-in-Some-clause-stand g c = refl

pub returns-in-Some-clause-founded : goal.returns-in-Some-clause-founded
returns-in-Some-clause-founded g c = stays_same _ _ _ refl

pub returns-in-Some-clause-asks : goal.returns-in-Some-clause-asks
returns-in-Some-clause-asks g c = asks_same _ _ _ _ refl

pub returns-in-Some-clause-grows : goal.returns-in-Some-clause-grows
returns-in-Some-clause-grows g c = grows_same _

pub returns-in_err-kind-clause-stand : goal.returns-in_err-kind-clause-stand
returns-in_err-kind-clause-stand g c = c.kind.ensures.stand

pub returns-in_err-kind-clause-founded : goal.returns-in_err-kind-clause-founded
returns-in_err-kind-clause-founded g c = c.kind.ensures.founded

pub returns-in_err-kind-clause-asks : goal.returns-in_err-kind-clause-asks
returns-in_err-kind-clause-asks g c = c.kind.ensures.asks

pub returns-in_err-kind-clause-grows : goal.returns-in_err-kind-clause-grows
returns-in_err-kind-clause-grows g c = c.kind.ensures.grows

pub returns-in_err-clone-clause-stand : goal.returns-in_err-clone-clause-stand
returns-in_err-clone-clause-stand g c = c.kind.ensures.stand

pub returns-in_err-clone-clause-founded : goal.returns-in_err-clone-clause-founded
returns-in_err-clone-clause-founded g c = c.kind.ensures.founded

pub returns-in_err-clone-clause-asks : goal.returns-in_err-clone-clause-asks
returns-in_err-clone-clause-asks g c = c.kind.ensures.asks

pub returns-in_err-clone-clause-grows : goal.returns-in_err-clone-clause-grows
returns-in_err-clone-clause-grows g c = c.kind.ensures.grows

pub returns-in_err-insert-clause-stand : goal.returns-in_err-insert-clause-stand
returns-in_err-insert-clause-stand g c = c.kind.ensures.stand

pub returns-in_err-insert-clause-founded : goal.returns-in_err-insert-clause-founded
returns-in_err-insert-clause-founded g c = c.kind.ensures.founded

pub returns-in_err-insert-clause-asks : goal.returns-in_err-insert-clause-asks
returns-in_err-insert-clause-asks g c = c.kind.ensures.asks

pub returns-in_err-insert-clause-grows : goal.returns-in_err-insert-clause-grows
returns-in_err-insert-clause-grows g c = c.kind.ensures.grows

pub returns-in_err-clone-2-clause-stand : goal.returns-in_err-clone-2-clause-stand
returns-in_err-clone-2-clause-stand g c = c.kind.ensures.stand

pub returns-in_err-clone-2-clause-founded : goal.returns-in_err-clone-2-clause-founded
returns-in_err-clone-2-clause-founded g c = c.kind.ensures.founded

pub returns-in_err-clone-2-clause-asks : goal.returns-in_err-clone-2-clause-asks
returns-in_err-clone-2-clause-asks g c = c.kind.ensures.asks

pub returns-in_err-clone-2-clause-grows : goal.returns-in_err-clone-2-clause-grows
returns-in_err-clone-2-clause-grows g c = c.kind.ensures.grows

pub returns-in_err-push-clause-stand : goal.returns-in_err-push-clause-stand
returns-in_err-push-clause-stand g c = c.kind.ensures.stand

pub returns-in_err-push-clause-founded : goal.returns-in_err-push-clause-founded
returns-in_err-push-clause-founded g c = c.kind.ensures.founded

pub returns-in_err-push-clause-asks : goal.returns-in_err-push-clause-asks
returns-in_err-push-clause-asks g c = c.kind.ensures.asks

pub returns-in_err-push-clause-grows : goal.returns-in_err-push-clause-grows
returns-in_err-push-clause-grows g c = c.kind.ensures.grows

pub returns-clause-stand : goal.returns-clause-stand
returns-clause-stand g c = c.kind.ensures.stand

pub returns-clause-founded : goal.returns-clause-founded
returns-clause-founded g c = c.kind.ensures.founded

pub returns-clause-asks : goal.returns-clause-asks
returns-clause-asks g c = c.kind.ensures.asks

pub returns-clause-grows : goal.returns-clause-grows
returns-clause-grows g c = c.kind.ensures.grows
