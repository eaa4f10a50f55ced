use Rattle.std.proofs.Common.{sym, subst, ◌∙◌}
use Rattle.dita_doc.specs.Sources.{IsBlock, document_seen}
use Rattle.dita_doc.proofs.SourcesLaws.{copies_alike}
use Rattle.dita_doc.proofs.block.BlockClone.clone.Goals as goal

pub invariant_of-result : goal.invariant_of-result
invariant_of-result c = subst IsBlock
    (sym (copies_alike document_seen c.self.inside.documents.items c.in_ok-clone.field-0.items
    c.in_ok-clone.ensures.cases.0)) c.self.invariant

pub returns : goal.returns
returns c =
    record {
      cases = copies_alike document_seen c.self.inside.documents.items c.in_ok-clone.field-0.items
          c.in_ok-clone.ensures.cases.0 ∙ c.self.view_is;
    }
