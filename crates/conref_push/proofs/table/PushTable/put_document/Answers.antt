use Rattle.std.proofs.Common.{◌∷◌, ◌∙◌, [], Some, ap, sym}
use Rattle.dita_doc.specs.Tree.{tree_of}
use Rattle.dita_doc.specs.declared.doc.Doc.{Doc}
use Rattle.dita_doc.proofs.Lists.{on_ok}
use Rattle.map_spec.specs.Pushes.{all_pushes}
use Rattle.readers.proofs.DocumentLaws.{asks_one}
use Rattle.readers.proofs.FoundedLaws.{among_first}
use Rattle.readers.proofs.GrowthLaws.{agrees_before, grows_same, grows_trans, told_answer}
use Rattle.readers.specs.Told.{document, tree_found}
use Rattle.conref_push.specs.Aimed.{push_targets}
use Rattle.conref_push.specs.Table.{acts_among}
use Rattle.conref_push.proofs.AimLaws.{asks_put, stays_put}
use Rattle.conref_push.proofs.AllowedLaws.{asked_allowed, on_any}
use Rattle.conref_push.proofs.GatherLaws.{gathered_more, gathered_same}
use Rattle.conref_push.proofs.table.PushTable.put_document.Goals as goal

pub returns-in-Some-clause-known : goal.returns-in-Some-clause-known
returns-in-Some-clause-known g c = λ world documents agrees gathered.
    let tree = tree_of c.deref.result.now.nodes in
    let found = ap tree_found c.in-Some.is ∙ ap (λ (doc : Doc). Some (tree_of doc.nodes)) (sym c.deref.ensures) in
    let is = told_answer world _ _ _ c.in_ok-doc.ensures.told
    (agrees_before world _ _ c.put_all.ensures.grows agrees) ∙ found in
    on_ok _ _ c.put_all.result
    (λ more. gathered_more world documents c.args.name.now tree c.put_all.new.targets c.put_all.new.self is more)
    (c.put_all.ensures.known world (all_pushes world documents) (acts_among world documents) agrees gathered)

pub returns-in-Some-clause-founded : goal.returns-in-Some-clause-founded
returns-in-Some-clause-founded g c =
    let tree = tree_of c.deref.result.now.nodes in
    let found = ap tree_found c.in-Some.is ∙ ap (λ (doc : Doc). Some (tree_of doc.nodes)) (sym c.deref.ensures) in
    stays_put c.args.name.now tree _ _ _ c.in_ok-doc.ensures.founded
    (c.in_ok-doc.ensures.told ∙ ap (λ t. document c.args.name.now t ∷ g.R.Reader.told c.args.reader.now) found)
    c.put_all.ensures.founded

pub returns-in-Some-clause-asks : goal.returns-in-Some-clause-asks
returns-in-Some-clause-asks g c =
    let tree = tree_of c.deref.result.now.nodes in
    let found = ap tree_found c.in-Some.is ∙ ap (λ (doc : Doc). Some (tree_of doc.nodes)) (sym c.deref.ensures) in
    asks_put c.args.name.now tree _ _ _ c.in_ok-doc.ensures.asks
    (c.in_ok-doc.ensures.told ∙ ap (λ t. document c.args.name.now t ∷ g.R.Reader.told c.args.reader.now) found)
    c.put_all.ensures.asks

pub returns-in-None-clause-known : goal.returns-in-None-clause-known
returns-in-None-clause-known g c = λ world documents agrees gathered.
    gathered_same world documents c.args.name.now c.args.targets.now c.args.self.now
    (told_answer world _ _ _ c.in_ok-doc.ensures.told agrees ∙ ap tree_found c.in-None.is) gathered

pub returns-in-Some-clause-allowed : goal.returns-in-Some-clause-allowed
returns-in-Some-clause-allowed g c = λ roots founded.
    on_any _ c.put_all.result (asked_allowed roots c.args.name.now _ _ _ _ c.in_ok-doc.ensures.told
    c.put_all.ensures.grows founded)

pub returns-in-None-clause-allowed : goal.returns-in-None-clause-allowed
returns-in-None-clause-allowed g c = λ roots founded.
    asked_allowed roots c.args.name.now _ _ _ _ c.in_ok-doc.ensures.told (grows_same _) founded

pub returns-in_err-doc-clause-stand : goal.returns-in_err-doc-clause-stand
returns-in_err-doc-clause-stand g c = c.doc.ensures.stand

pub returns-in_err-doc-clause-founded : goal.returns-in_err-doc-clause-founded
returns-in_err-doc-clause-founded g c = c.doc.ensures.founded

pub returns-in_err-doc-clause-asks : goal.returns-in_err-doc-clause-asks
returns-in_err-doc-clause-asks g c = asks_one push_targets c.args.name.now (c.args.name.now ∷ []) _ _
    (among_first c.args.name.now []) c.doc.ensures.asks

pub returns-in_err-doc-clause-grows : goal.returns-in_err-doc-clause-grows
returns-in_err-doc-clause-grows g c = c.doc.ensures.grows

pub returns-in-None-clause-stand : goal.returns-in-None-clause-stand
returns-in-None-clause-stand g c = c.doc.ensures.stand

pub returns-in-None-clause-founded : goal.returns-in-None-clause-founded
returns-in-None-clause-founded g c = c.doc.ensures.founded

pub returns-in-None-clause-asks : goal.returns-in-None-clause-asks
returns-in-None-clause-asks g c = asks_one push_targets c.args.name.now (c.args.name.now ∷ []) _ _
    (among_first c.args.name.now []) c.doc.ensures.asks

pub returns-in-None-clause-grows : goal.returns-in-None-clause-grows
returns-in-None-clause-grows g c = c.doc.ensures.grows

pub returns-in-Some-clause-stand : goal.returns-in-Some-clause-stand
returns-in-Some-clause-stand g c = c.put_all.ensures.stand ∙ c.in_ok-doc.ensures.stand

pub returns-in-Some-clause-grows : goal.returns-in-Some-clause-grows
returns-in-Some-clause-grows g c = grows_trans _ _ _ c.in_ok-doc.ensures.grows c.put_all.ensures.grows
