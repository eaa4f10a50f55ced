use Rattle.std.proofs.Common.{Some, ap, ◌∙◌}
use Rattle.dita_doc.specs.declared.doc.Doc.{Doc}
use Rattle.source_reader.proofs.StoredLaws.{first_there}
use Rattle.source_reader.proofs.known_titles.KnownTitles.first.Goals as goal

pub returns-in-Some : goal.returns-in-Some
returns-in-Some c = first_there c.args.self.now.sources.now c.args.name.now c.in-Some.field-0-0 c.deref.result.now.nodes _
    (ap (λ (doc : Doc). Some (c.in-Some.field-0-0, doc.nodes)) c.deref.ensures ∙ c.in-Some.ensures.value)
    (c.first_of.ensures c.args.name.now)
