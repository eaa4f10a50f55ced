use Rattle.std.proofs.Common.{sym, subst, ◌∙◌}
use Rattle.dita_doc.specs.Sources.{AreSources}
use Rattle.dita_doc.proofs.BlockLaws.{shared_alike}
use Rattle.dita_doc.proofs.sources.SourcesClone.clone.Goals as goal

pub invariant_of-result : goal.invariant_of-result
invariant_of-result c = subst (AreSources c.self.inside.count)
    (sym (shared_alike c.self.inside.blocks.items c.in_ok-clone.field-0.items c.in_ok-clone.ensures.cases.0))
    c.self.invariant

pub returns : goal.returns
returns c = record {
  cases = shared_alike c.self.inside.blocks.items c.in_ok-clone.field-0.items c.in_ok-clone.ensures.cases.0
      ∙ c.self.view_is;
}
