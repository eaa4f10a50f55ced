use Rattle.std.proofs.Common.{◌∙◌, Some, ap, subst, sym}
use Rattle.std.specs.Arc.{arc_value}
use Rattle.dita_doc.specs.Tree.{tree_of}
use Rattle.dita_doc.specs.declared.doc.Doc.{Doc}
use Rattle.map_spec.specs.Written.{written_in}
use Rattle.map_spec.specs.Pushes.{pushed_from}
use Rattle.readers.specs.Documents.{IsGiven}
use Rattle.readers.specs.Only.{TellsOnly, is_document_of}
use Rattle.conref_push.specs.Into.{docs_of, froms}
use Rattle.conref_push.specs.Making.{AreAsked, AreGroups}
use Rattle.conref_push.specs.Sources.{AreSources}
use Rattle.conref_push.proofs.AskedLaws.{asked_given, none_asked, some_asked}
use Rattle.conref_push.proofs.SourceLaws.{same_asks, same_stays}
use Rattle.conref_push.proofs.pushed_doc.pushed_doc.Goals as goal

pub returns-clause-known : goal.returns-clause-known
returns-clause-known g c = λ world agrees.
    let name = c.args.doc.now in
    let pushes = c.args.pushes.now in
    let asked = subst (AreAsked world name c.as_slice.result.now) c.in-Some.is
    (c.in_ok-found.ensures.known world agrees) in
    ap (λ nodes. Some nodes) (c.in_ok-made.ensures world pushes (record {
      groups = subst (λ some. AreGroups some c.in_ok-by_place.by_place) c.as_slice-2.ensures c.in_ok-by_place.ensures;
      sources = subst (λ some. AreSources world (froms some) c.in-Some.sources) c.as_slice.ensures asked.1;
    }) ∙ ap (λ (doc : Doc). pushed_from world pushes 0 (written_in name (tree_of doc.nodes))) c.deref.ensures)
    ∙ some_asked world name pushes (tree_of (arc_value c.in-Some.found).nodes) asked.0

pub returns-clause-given : goal.returns-clause-given
returns-clause-given g c = λ world agrees.
    let name = c.args.doc.now in
    let pushes = c.args.pushes.now in
    let ts = g.R.Reader.told c.ask_all.new.reader in
    subst (IsGiven ts) (sym (returns-clause-known g c world agrees))
    (asked_given world ts name pushes c.in_ok-found.field-0
    (subst (λ some. AreAsked world name some c.in_ok-found.field-0) c.as_slice.ensures
    (c.in_ok-found.ensures.known world agrees)) c.in_ok-found.ensures.given)

pub returns-in_default-clause-known : goal.returns-in_default-clause-known
returns-in_default-clause-known g c = λ world agrees.
    none_asked world c.args.doc.now c.args.pushes.now
    (subst (AreAsked world c.args.doc.now c.as_slice.result.now) c.in_default.is
    (c.in_ok-found.ensures.known world agrees))

pub returns-clause-only : goal.returns-clause-only
returns-clause-only g c = subst (λ pushes. TellsOnly (is_document_of (docs_of c.args.doc.now pushes))
    (g.R.Reader.told c.args.reader.now) (g.R.Reader.told c.ask_all.new.reader))
    c.as_slice.ensures c.in_ok-found.ensures.only

pub returns-in_default-clause-only : goal.returns-in_default-clause-only
returns-in_default-clause-only g c = subst (λ pushes. TellsOnly (is_document_of (docs_of c.args.doc.now pushes))
    (g.R.Reader.told c.args.reader.now) (g.R.Reader.told c.ask_all.new.reader))
    c.as_slice.ensures c.in_ok-found.ensures.only

pub returns-in_err-found-clause-founded : goal.returns-in_err-found-clause-founded
returns-in_err-found-clause-founded g c = same_stays _ _ _ _ _ c.as_slice.ensures c.ask_all.ensures.founded

pub returns-in_err-found-clause-asks : goal.returns-in_err-found-clause-asks
returns-in_err-found-clause-asks g c = same_asks _ _ _ _ _ c.as_slice.ensures c.ask_all.ensures.asks

pub returns-in_default-clause-founded : goal.returns-in_default-clause-founded
returns-in_default-clause-founded g c = same_stays _ _ _ _ _ c.as_slice.ensures c.ask_all.ensures.founded

pub returns-in_default-clause-asks : goal.returns-in_default-clause-asks
returns-in_default-clause-asks g c = same_asks _ _ _ _ _ c.as_slice.ensures c.ask_all.ensures.asks

pub returns-in_err-by_place-clause-founded : goal.returns-in_err-by_place-clause-founded
returns-in_err-by_place-clause-founded g c = same_stays _ _ _ _ _ c.as_slice.ensures c.ask_all.ensures.founded

pub returns-in_err-by_place-clause-asks : goal.returns-in_err-by_place-clause-asks
returns-in_err-by_place-clause-asks g c = same_asks _ _ _ _ _ c.as_slice.ensures c.ask_all.ensures.asks

pub returns-in_err-made-clause-founded : goal.returns-in_err-made-clause-founded
returns-in_err-made-clause-founded g c = same_stays _ _ _ _ _ c.as_slice.ensures c.ask_all.ensures.founded

pub returns-in_err-made-clause-asks : goal.returns-in_err-made-clause-asks
returns-in_err-made-clause-asks g c = same_asks _ _ _ _ _ c.as_slice.ensures c.ask_all.ensures.asks

pub returns-clause-founded : goal.returns-clause-founded
returns-clause-founded g c = same_stays _ _ _ _ _ c.as_slice.ensures c.ask_all.ensures.founded

pub returns-clause-asks : goal.returns-clause-asks
returns-clause-asks g c = same_asks _ _ _ _ _ c.as_slice.ensures c.ask_all.ensures.asks
