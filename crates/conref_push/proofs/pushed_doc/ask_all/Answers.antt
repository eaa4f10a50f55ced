use Rattle.std.proofs.Common.{◌∙◌, ap, sym}
use Rattle.readers.proofs.DocumentLaws.{asks_one}
use Rattle.readers.proofs.FoundedLaws.{among_first, stays_one}
use Rattle.readers.proofs.GrowthLaws.{agrees_before, grows_trans, told_answer}
use Rattle.readers.proofs.OnlyLaws.{only_one}
use Rattle.readers.specs.Documents.{nothing}
use Rattle.readers.specs.Told.{tree_found}
use Rattle.conref_push.specs.Into.{docs_of, froms}
use Rattle.conref_push.proofs.AskedLaws.{given_asked}
use Rattle.conref_push.proofs.SourceLaws.{asks_docs, only_doc, only_docs, stays_docs}
use Rattle.conref_push.proofs.pushed_doc.ask_all.Goals as goal

pub returns-in_err-sources-clause-founded : goal.returns-in_err-sources-clause-founded
returns-in_err-sources-clause-founded g c =
    stays_docs c.args.doc.now c.args.pushes.now _ _ _ c.in_ok-found.ensures.grows
    c.in_ok-found.ensures.founded c.in_err-sources.ensures.founded

pub returns-in_err-sources-clause-asks : goal.returns-in_err-sources-clause-asks
returns-in_err-sources-clause-asks g c = asks_docs c.args.doc.now c.args.pushes.now _ _ _ c.in_ok-found.ensures.grows
    c.in_ok-found.ensures.asks c.in_err-sources.ensures.asks

pub returns-clause-founded : goal.returns-clause-founded
returns-clause-founded g c = stays_docs c.args.doc.now c.args.pushes.now _ _ _ c.in_ok-found.ensures.grows
    c.in_ok-found.ensures.founded c.in_ok-sources.ensures.founded

pub returns-clause-asks : goal.returns-clause-asks
returns-clause-asks g c = asks_docs c.args.doc.now c.args.pushes.now _ _ _ c.in_ok-found.ensures.grows
    c.in_ok-found.ensures.asks c.in_ok-sources.ensures.asks

pub returns-clause-known : goal.returns-clause-known
returns-clause-known g c = λ world agrees. (
  sym (told_answer world _ _ _ c.in_ok-found.ensures.told (agrees_before world _ _ c.of.ensures.grows agrees)
      ∙ ap tree_found c.in-Some.is),
  c.in_ok-sources.ensures.known world agrees,
)

pub returns-clause-given : goal.returns-clause-given
returns-clause-given g c = (
  given_asked _ _ _ c.args.doc.now c.in_ok-found.field-0 _ c.in_ok-found.ensures.told c.in-Some.is
      c.of.ensures.grows,
  c.in_ok-sources.ensures.given,
)

pub returns-in_err-found-clause-stand : goal.returns-in_err-found-clause-stand
returns-in_err-found-clause-stand g c = c.doc.ensures.stand

pub returns-in_err-found-clause-founded : goal.returns-in_err-found-clause-founded
returns-in_err-found-clause-founded g c = stays_one c.args.doc.now (docs_of c.args.doc.now c.args.pushes.now) _ _
    (among_first c.args.doc.now (froms c.args.pushes.now)) c.doc.ensures.founded

pub returns-in_err-found-clause-asks : goal.returns-in_err-found-clause-asks
returns-in_err-found-clause-asks g c = asks_one nothing c.args.doc.now (docs_of c.args.doc.now c.args.pushes.now) _ _
    (among_first c.args.doc.now (froms c.args.pushes.now)) c.doc.ensures.asks

pub returns-in_err-found-clause-grows : goal.returns-in_err-found-clause-grows
returns-in_err-found-clause-grows g c = c.doc.ensures.grows

pub returns-in_default-clause-stand : goal.returns-in_default-clause-stand
returns-in_default-clause-stand g c = c.doc.ensures.stand

pub returns-in_default-clause-founded : goal.returns-in_default-clause-founded
returns-in_default-clause-founded g c = stays_one c.args.doc.now (docs_of c.args.doc.now c.args.pushes.now) _ _
    (among_first c.args.doc.now (froms c.args.pushes.now)) c.doc.ensures.founded

pub returns-in_default-clause-asks : goal.returns-in_default-clause-asks
returns-in_default-clause-asks g c = asks_one nothing c.args.doc.now (docs_of c.args.doc.now c.args.pushes.now) _ _
    (among_first c.args.doc.now (froms c.args.pushes.now)) c.doc.ensures.asks

pub returns-in_default-clause-grows : goal.returns-in_default-clause-grows
returns-in_default-clause-grows g c = c.doc.ensures.grows

pub returns-in_default-clause-known : goal.returns-in_default-clause-known
returns-in_default-clause-known g c = λ world agrees.
    sym (told_answer world _ _ _ c.in_ok-found.ensures.told agrees ∙ ap tree_found c.in_default.is)

pub returns-in_err-sources-clause-stand : goal.returns-in_err-sources-clause-stand
returns-in_err-sources-clause-stand g c = c.of.ensures.stand ∙ c.in_ok-found.ensures.stand

pub returns-in_err-sources-clause-grows : goal.returns-in_err-sources-clause-grows
returns-in_err-sources-clause-grows g c = grows_trans _ _ _ c.in_ok-found.ensures.grows c.of.ensures.grows

pub returns-clause-stand : goal.returns-clause-stand
returns-clause-stand g c = c.of.ensures.stand ∙ c.in_ok-found.ensures.stand

pub returns-clause-grows : goal.returns-clause-grows
returns-clause-grows g c = grows_trans _ _ _ c.in_ok-found.ensures.grows c.of.ensures.grows

pub returns-in_default-clause-only : goal.returns-in_default-clause-only
returns-in_default-clause-only g c = only_one c.args.doc.now (docs_of c.args.doc.now c.args.pushes.now) _ _
    (among_first c.args.doc.now (froms c.args.pushes.now))
    (only_doc c.args.doc.now _ _ _ c.in_ok-found.ensures.told)

pub returns-clause-only : goal.returns-clause-only
returns-clause-only g c = only_docs c.args.doc.now c.args.pushes.now _ _ _
    (only_doc c.args.doc.now _ _ _ c.in_ok-found.ensures.told) c.in_ok-sources.ensures.only
