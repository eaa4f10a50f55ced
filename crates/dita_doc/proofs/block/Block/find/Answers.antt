use Rattle.std.proofs.Common.{sym}
use Rattle.dita_doc.specs.Sources.{document_seen}
use Rattle.dita_doc.proofs.SourcesLaws.{found_read, found_in_gap}
use Rattle.dita_doc.proofs.block.Block.find.Goals as goal

pub returns-in-Ok : goal.returns-in-Ok
returns-in-Ok c =
    sym (found_read document_seen c.self.inside.documents.items c.args.self.now c.args.name.now c.in-Ok.at
    c.index.result.now c.self.view_is c.in-Ok.ensures.found c.index.ensures)

pub returns-in-Err : goal.returns-in-Err
returns-in-Err c = sym (found_in_gap _ _ _ c.in-Err.ensures.absent)
