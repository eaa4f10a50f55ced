use Rattle.std.proofs.Common.{◌∙◌}
use Rattle.map_spec.specs.Written.{written_in}
use Rattle.dita_doc.specs.Tree.{tree_of}
use Rattle.topic_find.proofs.TargetLaws.{named_topic}
use Rattle.topic_find.proofs.target.find_named.Goals as goal

pub returns-else-is_empty : goal.returns-else-is_empty
returns-else-is_empty c = λ name.
    c.find_topic-else-is_empty.ensures name
    ∙ named_topic (written_in name (tree_of c.args.doc.now.nodes)) c.args.topic.now c.as_str.result
    c.if-is_empty.ensures c.as_str.ensures
