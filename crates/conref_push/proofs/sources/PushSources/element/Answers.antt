use Rattle.std.proofs.Common.{◌∙◌, Some, ap}
use Rattle.dita_doc.specs.Tree.{tree_of}
use Rattle.dita_doc.specs.declared.doc.Doc.{Doc}
use Rattle.doc_elements.specs.Walk.{found_in}
use Rattle.plan_nodes.proofs.ElementLaws.{element_found}
use Rattle.conref_push.proofs.SourceLaws.{no_source, source_element}
use Rattle.conref_push.proofs.sources.PushSources.element.Goals as goal

pub returns-in-None : goal.returns-in-None
returns-in-None c = λ world names are among.
    no_source world c.args.push.now.from c.args.push.now.place (c.in-None.ensures world names are among)

pub returns-in-Some : goal.returns-in-Some
returns-in-Some c = λ world names are among.
    let from = c.args.push.now.from in
    source_element world from c.args.push.now.place (tree_of c.deref.result.now.nodes)
    (found_in from c.element_at.result)
    (ap (λ (doc : Doc). Some (tree_of doc.nodes)) c.deref.ensures ∙ c.in-Some.ensures world names are among)
    (element_found from c.deref.result.now c.args.push.now.place c.element_at.result c.element_at.ensures)
