use Rattle.std.proofs.Common.{◌∙◌, ap, subst}
use Rattle.dita_doc.specs.Tree.{tree_of}
use Rattle.dita_doc.specs.declared.doc.Doc.{Doc}
use Rattle.map_spec.specs.Written.{written_in}
use Rattle.readers.proofs.GrowthLaws.{told_answer}
use Rattle.readers.specs.Told.{tree_found}
use Rattle.topic_find.specs.Table.{IsTableFor}
use Rattle.conref_push.proofs.target_docs.target_doc.Goals as goal

pub returns-in_default-clause-known : goal.returns-in_default-clause-known
returns-in_default-clause-known g c = λ world agrees.
    told_answer world _ _ _ c.in_ok-doc.ensures.told agrees ∙ ap tree_found c.in_default.is

pub returns-clause-known : goal.returns-clause-known
returns-clause-known g c = λ world agrees. record {
  tree = told_answer world _ _ _ c.in_ok-doc.ensures.told agrees ∙ ap tree_found c.in-Some.is;
  table = λ under. subst (λ (doc : Doc). IsTableFor c.in_ok-table.table (written_in under (tree_of doc.nodes)))
      c.deref.ensures (c.in_ok-table.ensures under);
}
