use Rattle.std.proofs.Common.{subst}
use Rattle.conref_push.specs.Into.{docs_of}
use Rattle.conref_push.specs.Making.{AreAsked}
use Rattle.conref_push.proofs.AskedLaws.{asked_given, asked_same}
use Rattle.readers.specs.Only.{TellsOnly, is_document_of}
use Rattle.conref_push.proofs.SourceLaws.{same_asks, same_stays}
use Rattle.conref_push.proofs.pushed_doc.ask_pushed.Goals as goal

pub returns-clause-fixed : goal.returns-clause-fixed
returns-clause-fixed g c = λ world other agrees also.
    let name = c.args.doc.now in
    let found = c.in_ok-ask_all.field-0 in
    asked_same world other name c.args.pushes.now found
    (subst (λ pushes. AreAsked world name pushes found) c.as_slice.ensures
    (c.in_ok-ask_all.ensures.known world agrees))
    (subst (λ pushes. AreAsked other name pushes found) c.as_slice.ensures
    (c.in_ok-ask_all.ensures.known other also))

pub returns-clause-given : goal.returns-clause-given
returns-clause-given g c = λ world agrees.
    let name = c.args.doc.now in
    let found = c.in_ok-ask_all.field-0 in
    asked_given world (g.R.Reader.told c.ask_all.new.reader) name c.args.pushes.now found
    (subst (λ pushes. AreAsked world name pushes found) c.as_slice.ensures
    (c.in_ok-ask_all.ensures.known world agrees))
    c.in_ok-ask_all.ensures.given

pub returns-clause-only : goal.returns-clause-only
returns-clause-only g c = subst (λ pushes. TellsOnly (is_document_of (docs_of c.args.doc.now pushes))
    (g.R.Reader.told c.args.reader.now) (g.R.Reader.told c.ask_all.new.reader))
    c.as_slice.ensures c.in_ok-ask_all.ensures.only

pub returns-in_err-ask_all-clause-founded : goal.returns-in_err-ask_all-clause-founded
returns-in_err-ask_all-clause-founded g c = same_stays _ _ _ _ _ c.as_slice.ensures c.ask_all.ensures.founded

pub returns-in_err-ask_all-clause-asks : goal.returns-in_err-ask_all-clause-asks
returns-in_err-ask_all-clause-asks g c = same_asks _ _ _ _ _ c.as_slice.ensures c.ask_all.ensures.asks

pub returns-clause-founded : goal.returns-clause-founded
returns-clause-founded g c = same_stays _ _ _ _ _ c.as_slice.ensures c.ask_all.ensures.founded

pub returns-clause-asks : goal.returns-clause-asks
returns-clause-asks g c = same_asks _ _ _ _ _ c.as_slice.ensures c.ask_all.ensures.asks
