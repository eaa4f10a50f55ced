use Rattle.std.proofs.Common.{refl, sym}
use Rattle.readers.proofs.DocumentLaws.{asks_same}
use Rattle.readers.proofs.FoundedLaws.{stays_same}
use Rattle.readers.proofs.GrowthLaws.{grows_same, told_answer}
use Rattle.readers.proofs.OnlyLaws.{only_same}
use Rattle.conref_push.proofs.AskedLaws.{given_put}
use Rattle.conref_push.proofs.SourceLaws.{only_doc, sources_more, sources_put}
use Rattle.conref_push.proofs.sources.PushSources.ask.Goals as goal

pub returns-then-contains_key-clause-known : goal.returns-then-contains_key-clause-known
returns-then-contains_key-clause-known g c = λ world names agrees are.
    sources_more world names c.args.name.now c.args.self.now are (sym c.if-contains_key.ensures)

pub returns-clause-known : goal.returns-clause-known
returns-clause-known g c = λ world names agrees are.
    sources_put world names c.args.name.now c.in_ok-clone.field-0 c.in_ok-doc.doc c.args.self.now
    (record { docs = c.insert.new.self }) c.in_ok-insert.ensures.updates.0 c.in_ok-clone.ensures.cases
    (told_answer world _ _ _ c.in_ok-doc.ensures.told agrees) are

pub returns-clause-given : goal.returns-clause-given
returns-clause-given g c = λ are.
    given_put _ _ c.args.name.now c.in_ok-clone.field-0 c.in_ok-doc.doc c.args.self.now
    (record { docs = c.insert.new.self }) c.in_ok-insert.ensures.updates.0 c.in_ok-clone.ensures.cases
    c.in_ok-doc.ensures.grows c.in_ok-doc.ensures.told are

pub returns-then-contains_key-clause-given : goal.returns-then-contains_key-clause-given
returns-then-contains_key-clause-given g c = λ are. are

pub returns-then-contains_key-clause-stand : goal.returns-then-contains_key-clause-stand
returns-then-contains_key-clause-stand g c = refl

pub returns-then-contains_key-clause-founded : goal.returns-then-contains_key-clause-founded
returns-then-contains_key-clause-founded g c = stays_same _ _ _ refl

pub returns-then-contains_key-clause-asks : goal.returns-then-contains_key-clause-asks
returns-then-contains_key-clause-asks g c = asks_same _ _ _ _ refl

pub returns-then-contains_key-clause-grows : goal.returns-then-contains_key-clause-grows
returns-then-contains_key-clause-grows g c = grows_same _

pub returns-in_err-doc-clause-stand : goal.returns-in_err-doc-clause-stand
returns-in_err-doc-clause-stand g c = c.doc.ensures.stand

pub returns-in_err-doc-clause-founded : goal.returns-in_err-doc-clause-founded
returns-in_err-doc-clause-founded g c = c.doc.ensures.founded

pub returns-in_err-doc-clause-asks : goal.returns-in_err-doc-clause-asks
returns-in_err-doc-clause-asks g c = c.doc.ensures.asks

pub returns-in_err-doc-clause-grows : goal.returns-in_err-doc-clause-grows
returns-in_err-doc-clause-grows g c = c.doc.ensures.grows

pub returns-in_err-clone-clause-stand : goal.returns-in_err-clone-clause-stand
returns-in_err-clone-clause-stand g c = c.doc.ensures.stand

pub returns-in_err-clone-clause-founded : goal.returns-in_err-clone-clause-founded
returns-in_err-clone-clause-founded g c = c.doc.ensures.founded

pub returns-in_err-clone-clause-asks : goal.returns-in_err-clone-clause-asks
returns-in_err-clone-clause-asks g c = c.doc.ensures.asks

pub returns-in_err-clone-clause-grows : goal.returns-in_err-clone-clause-grows
returns-in_err-clone-clause-grows g c = c.doc.ensures.grows

pub returns-in_err-insert-clause-stand : goal.returns-in_err-insert-clause-stand
returns-in_err-insert-clause-stand g c = c.doc.ensures.stand

pub returns-in_err-insert-clause-founded : goal.returns-in_err-insert-clause-founded
returns-in_err-insert-clause-founded g c = c.doc.ensures.founded

pub returns-in_err-insert-clause-asks : goal.returns-in_err-insert-clause-asks
returns-in_err-insert-clause-asks g c = c.doc.ensures.asks

pub returns-in_err-insert-clause-grows : goal.returns-in_err-insert-clause-grows
returns-in_err-insert-clause-grows g c = c.doc.ensures.grows

pub returns-clause-stand : goal.returns-clause-stand
returns-clause-stand g c = c.doc.ensures.stand

pub returns-clause-founded : goal.returns-clause-founded
returns-clause-founded g c = c.doc.ensures.founded

pub returns-clause-asks : goal.returns-clause-asks
returns-clause-asks g c = c.doc.ensures.asks

pub returns-clause-grows : goal.returns-clause-grows
returns-clause-grows g c = c.doc.ensures.grows

pub returns-then-contains_key-clause-only : goal.returns-then-contains_key-clause-only
returns-then-contains_key-clause-only g c = only_same _ _ _ refl

pub returns-clause-only : goal.returns-clause-only
returns-clause-only g c = only_doc c.args.name.now _ _ _ c.in_ok-doc.ensures.told
