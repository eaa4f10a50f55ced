use Rattle.std.specs.Prelude.{◌≡◌, Some}
use Rattle.std.proofs.Common.{ap, subst, ◌∙◌}
use Rattle.dita_doc.specs.Tree.{tree_of}
use Rattle.dita_doc.specs.declared.doc.Doc.{Doc}
use Rattle.doc_elements.specs.Root.{root_element, root_named}
use Rattle.map_spec.specs.Written.{written_in}
use Rattle.readers.proofs.GrowthLaws.{told_answer}
use Rattle.readers.specs.Told.{tree_found}
use Rattle.clean_build.proofs.RootLaws.{not_stored, root_at}
use Rattle.clean_build.proofs.root.root_line.Goals as goal

pub returns-clause-known : goal.returns-clause-known
returns-clause-known g c = λ world agrees.
    let name = c.args.name.now in
    let root = c.in-Some-root_of.root.now in
    let stored = told_answer world _ _ _ c.in_ok-doc.ensures.told agrees ∙ ap tree_found c.in-Some.is in
    root_at world name _ root stored (subst (λ (doc : Doc).
    root_named name (Some root) ≡ root_element (written_in name (tree_of doc.nodes))) c.deref.ensures
    (c.in-Some-root_of.ensures name))

pub returns-in_default-clause-known : goal.returns-in_default-clause-known
returns-in_default-clause-known g c = λ world agrees. not_stored world c.args.name.now
    (told_answer world _ _ _ c.in_ok-doc.ensures.told agrees ∙ ap tree_found c.in_default.is)
