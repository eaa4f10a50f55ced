use Rattle.std.proofs.Common.{refl}
use Rattle.readers.proofs.DocumentLaws.{asks_same}
use Rattle.readers.proofs.FoundedLaws.{stays_same}
use Rattle.readers.proofs.GrowthLaws.{grows_same, told_answer}
use Rattle.readers.proofs.OnlyLaws.{document_is_of, only_held, only_told}
use Rattle.readers.specs.Told.{tree_found}
use Rattle.plan_nodes.proofs.HomeLaws.{place_found}
use Rattle.plan_nodes.proofs.ToldLaws.{docs_told_if}
use Rattle.plan_nodes.proofs.node_elements.doc_of.Goals as goal

pub returns-in-Some-clause-known : goal.returns-in-Some-clause-known
returns-in-Some-clause-known g c = λ world agrees known.
    place_found world c.args.docs.now.items c.args.name.now c.args.known.now.entries c.in-Some.doc.now
    c.in-Some.ensures.value known

pub returns-in-Some-clause-founded : goal.returns-in-Some-clause-founded
returns-in-Some-clause-founded g c = stays_same _ _ _ refl

pub returns-in-Some-clause-asks : goal.returns-in-Some-clause-asks
returns-in-Some-clause-asks g c = asks_same _ _ _ _ refl

pub returns-in-Some-clause-grows : goal.returns-in-Some-clause-grows
returns-in-Some-clause-grows g c = grows_same _

pub returns-in_err-found-clause-founded : goal.returns-in_err-found-clause-founded
returns-in_err-found-clause-founded g c = c.in_err-found.ensures.founded

pub returns-in_err-found-clause-asks : goal.returns-in_err-found-clause-asks
returns-in_err-found-clause-asks g c = c.in_err-found.ensures.asks

pub returns-in_err-found-clause-grows : goal.returns-in_err-found-clause-grows
returns-in_err-found-clause-grows g c = c.in_err-found.ensures.grows

pub returns-clause-known : goal.returns-clause-known
returns-clause-known g c = λ world agrees.
    c.keep_doc.ensures.known world (told_answer world _ _ _ c.in_ok-found.ensures.told agrees)

pub returns-clause-given : goal.returns-clause-given
returns-clause-given g c = docs_told_if c.keep_doc.result _ _ c.args.docs.now.items c.keep_doc.new.docs.items
    c.args.name.now c.in_ok-found.found c.in_ok-found.ensures.told c.keep_doc.ensures.put

pub returns-clause-founded : goal.returns-clause-founded
returns-clause-founded g c = c.in_ok-found.ensures.founded

pub returns-clause-asks : goal.returns-clause-asks
returns-clause-asks g c = c.in_ok-found.ensures.asks

pub returns-clause-grows : goal.returns-clause-grows
returns-clause-grows g c = c.in_ok-found.ensures.grows

pub returns-clause-only : goal.returns-clause-only
returns-clause-only g c = only_held c.keep_doc.result _ _ _
    (only_told _ _ _ _ (document_is_of c.args.name.now (tree_found c.in_ok-found.found)) c.in_ok-found.ensures.told)
