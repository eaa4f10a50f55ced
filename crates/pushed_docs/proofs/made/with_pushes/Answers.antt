use Rattle.std.proofs.Common.{◌∷◌, ◌∙◌, [], Option, Some, None, ap, subst, sym}
use Rattle.conref_push.specs.Into.{named_doc}
use Rattle.dita_doc.specs.declared.doc.Doc.{Doc}
use Rattle.pushed_docs.proofs.AskedLaws.{made_named, touched_only}
use Rattle.pushed_docs.proofs.MadeLaws.{made_given, touched_asks, touched_founded, touched_known}
use Rattle.readers.specs.Documents.{IsGiven, of_pushes}
use Rattle.readers.specs.Named.{named_found}
use Rattle.readers.proofs.DocumentLaws.{asks_none}
use Rattle.readers.proofs.GrowthLaws.{agrees_before, grows_trans, told_answer}
use Rattle.pushed_docs.proofs.made.with_pushes.Goals as goal

pub returns-in-Some-clause-given : goal.returns-in-Some-clause-given
returns-in-Some-clause-given g c = made_given _ c.in_ok-doc.field-0 c.in-Some.doc
    c.in_ok-new-in-Some.field-0 c.in-Some.is c.in_ok-new-in-Some.ensures.ok c.in_ok-doc.ensures.given

pub returns-clause-given : goal.returns-clause-given
returns-clause-given g c = subst
    (λ (found : Option Doc). IsGiven (g.P.Reader.told c.pushed.new.reader) (named_doc found))
    c.in-None.is c.in_ok-doc.ensures.given

pub returns-in-Some-clause-known : goal.returns-in-Some-clause-known
returns-in-Some-clause-known g c = λ world agrees.
    let documents = (g.P.Reader.stand c.args.asker.now).setting.documents in
    let told = told_answer world _ _ _ c.in_ok-list.ensures.told (agrees_before world _ _ c.pushed.ensures.grows agrees) in
    touched_known world documents c.args.name.now c.in_ok-list.list (named_found (Some c.in_ok-new-in-Some.field-0)) told
    (made_named c.in_ok-doc.field-0 c.in-Some.doc c.in_ok-new-in-Some.field-0 c.in-Some.is c.in_ok-new-in-Some.ensures.ok
    ∙ c.in_ok-doc.ensures.known world agrees)

pub returns-clause-known : goal.returns-clause-known
returns-clause-known g c = λ world agrees.
    let documents = (g.P.Reader.stand c.args.asker.now).setting.documents in
    let told = told_answer world _ _ _ c.in_ok-list.ensures.told (agrees_before world _ _ c.pushed.ensures.grows agrees) in
    touched_known world documents c.args.name.now c.in_ok-list.list (named_found None) told
    (ap named_doc (sym c.in-None.is) ∙ c.in_ok-doc.ensures.known world agrees)

pub returns-in_err-list-clause-stand : goal.returns-in_err-list-clause-stand
returns-in_err-list-clause-stand g c = c.tell_pushes.ensures.stand

pub returns-in_err-list-clause-founded : goal.returns-in_err-list-clause-founded
returns-in_err-list-clause-founded g c = c.tell_pushes.ensures.founded

pub returns-in_err-list-clause-asks : goal.returns-in_err-list-clause-asks
returns-in_err-list-clause-asks g c = asks_none of_pushes (c.args.name.now ∷ []) _ _ c.tell_pushes.ensures.asks

pub returns-in_err-list-clause-grows : goal.returns-in_err-list-clause-grows
returns-in_err-list-clause-grows g c = c.tell_pushes.ensures.grows

pub returns-in_err-doc-clause-stand : goal.returns-in_err-doc-clause-stand
returns-in_err-doc-clause-stand g c = c.pushed.ensures.stand ∙ c.in_ok-list.ensures.stand

pub returns-in_err-doc-clause-founded : goal.returns-in_err-doc-clause-founded
returns-in_err-doc-clause-founded g c = touched_founded _ c.args.name.now c.in_ok-list.list _ _ _ c.in_ok-list.ensures.told
    c.pushed.ensures.founded

pub returns-in_err-doc-clause-asks : goal.returns-in_err-doc-clause-asks
returns-in_err-doc-clause-asks g c = touched_asks _ c.args.name.now c.in_ok-list.list _ _ _ c.in_ok-list.ensures.told
    c.in_ok-list.ensures.asks c.pushed.ensures.asks

pub returns-in_err-doc-clause-grows : goal.returns-in_err-doc-clause-grows
returns-in_err-doc-clause-grows g c = grows_trans _ _ _ c.in_ok-list.ensures.grows c.pushed.ensures.grows

pub returns-in_err-new-in-Some-clause-stand : goal.returns-in_err-new-in-Some-clause-stand
returns-in_err-new-in-Some-clause-stand g c = c.pushed.ensures.stand ∙ c.in_ok-list.ensures.stand

pub returns-in_err-new-in-Some-clause-founded : goal.returns-in_err-new-in-Some-clause-founded
returns-in_err-new-in-Some-clause-founded g c = touched_founded _ c.args.name.now c.in_ok-list.list _ _ _ c.in_ok-list.ensures.told
    c.pushed.ensures.founded

pub returns-in_err-new-in-Some-clause-asks : goal.returns-in_err-new-in-Some-clause-asks
returns-in_err-new-in-Some-clause-asks g c = touched_asks _ c.args.name.now c.in_ok-list.list _ _ _ c.in_ok-list.ensures.told
    c.in_ok-list.ensures.asks c.pushed.ensures.asks

pub returns-in_err-new-in-Some-clause-grows : goal.returns-in_err-new-in-Some-clause-grows
returns-in_err-new-in-Some-clause-grows g c = grows_trans _ _ _ c.in_ok-list.ensures.grows c.pushed.ensures.grows

pub returns-in-Some-clause-stand : goal.returns-in-Some-clause-stand
returns-in-Some-clause-stand g c = c.pushed.ensures.stand ∙ c.in_ok-list.ensures.stand

pub returns-in-Some-clause-founded : goal.returns-in-Some-clause-founded
returns-in-Some-clause-founded g c = touched_founded _ c.args.name.now c.in_ok-list.list _ _ _ c.in_ok-list.ensures.told
    c.pushed.ensures.founded

pub returns-in-Some-clause-asks : goal.returns-in-Some-clause-asks
returns-in-Some-clause-asks g c = touched_asks _ c.args.name.now c.in_ok-list.list _ _ _ c.in_ok-list.ensures.told
    c.in_ok-list.ensures.asks c.pushed.ensures.asks

pub returns-in-Some-clause-grows : goal.returns-in-Some-clause-grows
returns-in-Some-clause-grows g c = grows_trans _ _ _ c.in_ok-list.ensures.grows c.pushed.ensures.grows

pub returns-clause-stand : goal.returns-clause-stand
returns-clause-stand g c = c.pushed.ensures.stand ∙ c.in_ok-list.ensures.stand

pub returns-clause-founded : goal.returns-clause-founded
returns-clause-founded g c = touched_founded _ c.args.name.now c.in_ok-list.list _ _ _ c.in_ok-list.ensures.told
    c.pushed.ensures.founded

pub returns-clause-asks : goal.returns-clause-asks
returns-clause-asks g c = touched_asks _ c.args.name.now c.in_ok-list.list _ _ _ c.in_ok-list.ensures.told
    c.in_ok-list.ensures.asks c.pushed.ensures.asks

pub returns-clause-grows : goal.returns-clause-grows
returns-clause-grows g c = grows_trans _ _ _ c.in_ok-list.ensures.grows c.pushed.ensures.grows

pub returns-in-Some-clause-only : goal.returns-in-Some-clause-only
returns-in-Some-clause-only g c = λ world agrees.
    touched_only world _ c.args.name.now c.in_ok-list.list _ _ _ c.in_ok-list.ensures.told c.pushed.ensures.grows agrees
    c.in_ok-doc.ensures.only

pub returns-clause-only : goal.returns-clause-only
returns-clause-only g c = λ world agrees.
    touched_only world _ c.args.name.now c.in_ok-list.list _ _ _ c.in_ok-list.ensures.told c.pushed.ensures.grows agrees
    c.in_ok-doc.ensures.only
