use Rattle.std.proofs.Common.{◌∙◌, Some, None, refl, sym}
use Rattle.readers.proofs.DocumentLaws.{asks_same}
use Rattle.readers.proofs.FoundedLaws.{stays_same}
use Rattle.readers.proofs.GrowthLaws.{grows_same}
use Rattle.conref_push.specs.Sight.{sight_of}
use Rattle.conref_push.proofs.DocLaws.{asks_aimed, spot_is, spot_unread, stays_aimed}
use Rattle.conref_push.proofs.target_docs.Targets.find.Goals as goal

pub returns-in_default-clause-known : goal.returns-in_default-clause-known
returns-in_default-clause-known g c = λ world agrees docs.
    spot_unread world (sight_of c.args.from.now c.args.pushing) (sym c.in_default.is ∙ c.in_ok-doc.ensures)

pub returns-in-Some-2-clause-known : goal.returns-in-Some-2-clause-known
returns-in-Some-2-clause-known g c = λ world agrees docs.
    spot_is world (sight_of c.args.from.now c.args.pushing) c.in-Some.doc c.in-Some.reference (Some c.in-Some-2.place)
    (sym c.in-Some.is ∙ c.in_ok-doc.ensures)
    (sym c.in-Some-2.is ∙ c.in_ok-place.ensures world c.args.from.now (c.in_ok-ask.ensures.docs world agrees docs)
    c.in_ok-ask.ensures.has)

pub returns-in-None-clause-known : goal.returns-in-None-clause-known
returns-in-None-clause-known g c = λ world agrees docs.
    spot_is world (sight_of c.args.from.now c.args.pushing) c.in-Some.doc c.in-Some.reference None
    (sym c.in-Some.is ∙ c.in_ok-doc.ensures)
    (sym c.in-None.is ∙ c.in_ok-place.ensures world c.args.from.now (c.in_ok-ask.ensures.docs world agrees docs)
    c.in_ok-ask.ensures.has)

pub returns-in_err-doc-clause-stand : goal.returns-in_err-doc-clause-stand
returns-in_err-doc-clause-stand g c = refl

pub returns-in_err-doc-clause-founded : goal.returns-in_err-doc-clause-founded
returns-in_err-doc-clause-founded g c = stays_same _ _ _ refl

pub returns-in_err-doc-clause-asks : goal.returns-in_err-doc-clause-asks
returns-in_err-doc-clause-asks g c = asks_same _ _ _ _ refl

pub returns-in_err-doc-clause-grows : goal.returns-in_err-doc-clause-grows
returns-in_err-doc-clause-grows g c = grows_same _

pub returns-in_default-clause-stand : goal.returns-in_default-clause-stand
returns-in_default-clause-stand g c = refl

pub returns-in_default-clause-founded : goal.returns-in_default-clause-founded
returns-in_default-clause-founded g c = stays_same _ _ _ refl

pub returns-in_default-clause-asks : goal.returns-in_default-clause-asks
returns-in_default-clause-asks g c = asks_same _ _ _ _ refl

pub returns-in_default-clause-grows : goal.returns-in_default-clause-grows
returns-in_default-clause-grows g c = grows_same _

pub returns-in_err-ask-clause-stand : goal.returns-in_err-ask-clause-stand
returns-in_err-ask-clause-stand g c = c.ask.ensures.stand

pub returns-in_err-ask-clause-grows : goal.returns-in_err-ask-clause-grows
returns-in_err-ask-clause-grows g c = c.ask.ensures.grows

pub returns-in_err-ask-clause-founded : goal.returns-in_err-ask-clause-founded
returns-in_err-ask-clause-founded g c =
    stays_aimed (sight_of c.args.from.now c.args.pushing) c.in-Some.doc c.in-Some.reference _ _
    (sym c.in-Some.is ∙ c.in_ok-doc.ensures) c.ask.ensures.founded

pub returns-in_err-ask-clause-asks : goal.returns-in_err-ask-clause-asks
returns-in_err-ask-clause-asks g c =
    asks_aimed (sight_of c.args.from.now c.args.pushing) c.in-Some.doc c.in-Some.reference _ _
    (sym c.in-Some.is ∙ c.in_ok-doc.ensures) c.ask.ensures.asks

pub returns-in_err-place-clause-stand : goal.returns-in_err-place-clause-stand
returns-in_err-place-clause-stand g c = c.ask.ensures.stand

pub returns-in_err-place-clause-grows : goal.returns-in_err-place-clause-grows
returns-in_err-place-clause-grows g c = c.ask.ensures.grows

pub returns-in_err-place-clause-founded : goal.returns-in_err-place-clause-founded
returns-in_err-place-clause-founded g c =
    stays_aimed (sight_of c.args.from.now c.args.pushing) c.in-Some.doc c.in-Some.reference _ _
    (sym c.in-Some.is ∙ c.in_ok-doc.ensures) c.ask.ensures.founded

pub returns-in_err-place-clause-asks : goal.returns-in_err-place-clause-asks
returns-in_err-place-clause-asks g c =
    asks_aimed (sight_of c.args.from.now c.args.pushing) c.in-Some.doc c.in-Some.reference _ _
    (sym c.in-Some.is ∙ c.in_ok-doc.ensures) c.ask.ensures.asks

pub returns-in-Some-2-clause-stand : goal.returns-in-Some-2-clause-stand
returns-in-Some-2-clause-stand g c = c.ask.ensures.stand

pub returns-in-Some-2-clause-grows : goal.returns-in-Some-2-clause-grows
returns-in-Some-2-clause-grows g c = c.ask.ensures.grows

pub returns-in-Some-2-clause-founded : goal.returns-in-Some-2-clause-founded
returns-in-Some-2-clause-founded g c =
    stays_aimed (sight_of c.args.from.now c.args.pushing) c.in-Some.doc c.in-Some.reference _ _
    (sym c.in-Some.is ∙ c.in_ok-doc.ensures) c.ask.ensures.founded

pub returns-in-Some-2-clause-asks : goal.returns-in-Some-2-clause-asks
returns-in-Some-2-clause-asks g c =
    asks_aimed (sight_of c.args.from.now c.args.pushing) c.in-Some.doc c.in-Some.reference _ _
    (sym c.in-Some.is ∙ c.in_ok-doc.ensures) c.ask.ensures.asks

pub returns-in-None-clause-stand : goal.returns-in-None-clause-stand
returns-in-None-clause-stand g c = c.ask.ensures.stand

pub returns-in-None-clause-grows : goal.returns-in-None-clause-grows
returns-in-None-clause-grows g c = c.ask.ensures.grows

pub returns-in-None-clause-founded : goal.returns-in-None-clause-founded
returns-in-None-clause-founded g c =
    stays_aimed (sight_of c.args.from.now c.args.pushing) c.in-Some.doc c.in-Some.reference _ _
    (sym c.in-Some.is ∙ c.in_ok-doc.ensures) c.ask.ensures.founded

pub returns-in-None-clause-asks : goal.returns-in-None-clause-asks
returns-in-None-clause-asks g c =
    asks_aimed (sight_of c.args.from.now c.args.pushing) c.in-Some.doc c.in-Some.reference _ _
    (sym c.in-Some.is ∙ c.in_ok-doc.ensures) c.ask.ensures.asks

pub returns-in-Some-2-clause-docs : goal.returns-in-Some-2-clause-docs
returns-in-Some-2-clause-docs g c = c.in_ok-ask.ensures.docs

pub returns-in-Some-2-clause-replaced : goal.returns-in-Some-2-clause-replaced
returns-in-Some-2-clause-replaced g c = c.in_ok-ask.ensures.replaced

pub returns-in-None-clause-docs : goal.returns-in-None-clause-docs
returns-in-None-clause-docs g c = c.in_ok-ask.ensures.docs

pub returns-in-None-clause-replaced : goal.returns-in-None-clause-replaced
returns-in-None-clause-replaced g c = c.in_ok-ask.ensures.replaced
