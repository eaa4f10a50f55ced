use Rattle.std.proofs.Common.{Some, sym, ap, refl, ◌∙◌}
use Rattle.dita_doc.specs.declared.doc.Doc.{Doc}
use Rattle.readers.specs.Named.{named_tree}
use Rattle.conref_targets.proofs.FindLaws.{no_target, one_target}
use Rattle.conref_targets.proofs.find.found_in.Goals as goal

pub returns-in-None-clause-known : goal.returns-in-None-clause-known
returns-in-None-clause-known c = λ setting are stored.
    let there = stored ∙ ap (λ (doc : Doc). Some (named_tree doc)) (sym c.deref-tree.ensures) in
    no_target setting c.args.name c.args.topic.now c.args.element.now c.args.value.now c.find.new.self
    (c.in_ok-found.ensures.known setting.pushed are there) (named_tree c.deref-tree.result.now) there
    (sym c.in-None.is ∙ c.in_ok-found.ensures.found setting.pushed are there)

pub returns-clause-known : goal.returns-clause-known
returns-clause-known c = λ setting are stored.
    let there = stored ∙ ap (λ (doc : Doc). Some (named_tree doc)) (sym c.deref-tree.ensures) in
    one_target setting c.args.name c.args.topic.now c.args.element.now c.args.value.now c.find.new.self
    (c.in_ok-found.ensures.known setting.pushed are there) c.deref-tree.result.now _ there
    (sym c.in-Some.is ∙ c.in_ok-found.ensures.found setting.pushed are there) refl (sym c.deref-tree.ensures) refl
