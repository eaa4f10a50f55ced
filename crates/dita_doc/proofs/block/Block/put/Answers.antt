use Rattle.std.proofs.Common.{sym, subst}
use Rattle.dita_doc.specs.Desk.{IsSortedByName}
use Rattle.dita_doc.specs.Sources.{IsBlock, document_seen}
use Rattle.dita_doc.proofs.SourcesLaws.{put_over, put_in_gap, block_with}
use Rattle.dita_doc.proofs.block.Block.put.Goals as goal

-- what stood under the name is written over
pub returns-in-Ok-clause-ok : goal.returns-in-Ok-clause-ok
returns-in-Ok-clause-ok c = put_over document_seen c.self.inside.documents.items c.args.self.now c.self.view_is
    c.args.document c.in-Ok.at c.in-Ok.ensures.found

pub invariant_of-self : goal.invariant_of-self
invariant_of-self c =
    let is = put_over document_seen c.self.inside.documents.items c.args.self.now c.self.view_is c.args.document
    c.in-Ok.at c.in-Ok.ensures.found in
    subst IsBlock (sym is) (block_with (document_seen c.args.document) c.args.self.now
    (subst IsSortedByName c.self.view_is c.self.invariant.sorted) c.requires)

-- the document goes into the gap
pub returns-in_ok-insert-in-Err-clause-ok : goal.returns-in_ok-insert-in-Err-clause-ok
returns-in_ok-insert-in-Err-clause-ok c =
    put_in_gap document_seen c.self.inside.documents.items c.args.self.now c.self.view_is c.insert.new.self.items
    c.args.document c.in-Err.at c.in-Err.ensures.absent c.in_ok-insert-in-Err.ensures.items

pub invariant_of-self-in-Err : goal.invariant_of-self-in-Err
invariant_of-self-in-Err c =
    let is = put_in_gap document_seen c.self.inside.documents.items c.args.self.now c.self.view_is
    c.insert.new.self.items c.args.document c.in-Err.at c.in-Err.ensures.absent c.in_ok-insert-in-Err.ensures.items
    in
    subst IsBlock (sym is) (block_with (document_seen c.args.document) c.args.self.now
    (subst IsSortedByName c.self.view_is c.self.invariant.sorted) c.requires)
