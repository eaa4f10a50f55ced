use Rattle.std.proofs.Common.{◌∷◌, [], sym, ap, ◌∙◌}
use Rattle.dita_doc.specs.Sources.{document_seen, found_seen}
use Rattle.dita_doc.proofs.NameOrder.{named_as_found}
use Rattle.dita_doc.proofs.sources.Sources.get.Goals as goal

pub returns-clause-origin : goal.returns-clause-origin
returns-clause-origin c =
    let document = c.in_ok-document.document.now in
    document.origin ∙ ap (λ name. name ∷ [])
    (named_as_found c.args.self.now c.args.name.now (document_seen document)
    (sym c.find.ensures ∙ ap found_seen c.in_ok-document.was))
