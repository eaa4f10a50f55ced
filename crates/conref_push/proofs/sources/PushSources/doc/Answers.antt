use Rattle.std.proofs.Common.{ap, ◌∙◌}
use Rattle.readers.specs.Told.{tree_found}
use Rattle.conref_push.proofs.SourceLaws.{source_found, source_missing}
use Rattle.conref_push.proofs.sources.PushSources.doc.Goals as goal

pub returns-in-Some : goal.returns-in-Some
returns-in-Some c = λ world names are among.
    ap tree_found c.as_ref.ensures.value ∙ source_found world names c.args.name.now c.args.self.now c.in-Some.found.now
    c.in-Some.ensures.value are

pub returns-in-None : goal.returns-in-None
returns-in-None c = λ world names are among.
    absurd (source_missing world names c.args.name.now c.args.self.now c.in-None.ensures.value are among)
