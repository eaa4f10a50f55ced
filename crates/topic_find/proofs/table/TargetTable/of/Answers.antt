use Rattle.std.proofs.Common.{[], None, refl, subst}
use Rattle.dita_doc.specs.Siblings.{content}
use Rattle.dita_doc.specs.Tree.{Content}
use Rattle.map_spec.specs.Written.{written_in}
use Rattle.topic_find.specs.Table.{IsTableFor}
use Rattle.topic_find.proofs.WalkLaws.{root_fits}
use Rattle.topic_find.proofs.table.TargetTable.of.Goals as goal

pub add_elements-requires : goal.add_elements-requires
add_elements-requires c =
    root_fits c.args.doc.now.nodes (content c.of.result) c.args.doc.now.tree c.of.ensures.content c.args.doc.now.small

pub returns : goal.returns
returns c = λ name.
    let Is : Content → Type 0 = λ tree. IsTableFor c.add_elements.new.table (written_in name tree) in
    subst Is c.of.ensures.content
    (c.in_ok-add_elements.ensures.table name [] None c.empty-table.ensures (λ none. refl))
