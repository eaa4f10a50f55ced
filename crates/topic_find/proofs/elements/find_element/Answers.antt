use Rattle.dita_doc.specs.Siblings.{content}
use Rattle.topic_find.proofs.WalkLaws.{root_fits}
use Rattle.topic_find.proofs.elements.find_element.Goals as goal

pub walk_to_element-requires : goal.walk_to_element-requires
walk_to_element-requires c =
    root_fits c.args.doc.now.nodes (content c.of.result) c.args.doc.now.tree c.of.ensures.content c.args.doc.now.small
