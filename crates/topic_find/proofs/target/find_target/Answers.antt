use Rattle.std.proofs.Common.{◌∙◌}
use Rattle.map_spec.specs.Written.{written_in}
use Rattle.dita_doc.specs.Tree.{tree_of}
use Rattle.topic_find.proofs.TargetLaws.{element_in_topic, element_nowhere}
use Rattle.topic_find.proofs.target.find_target.Goals as goal

pub returns-in_err-topic : goal.returns-in_err-topic
returns-in_err-topic c = λ name.
    c.from_residual.ensures
    ∙ element_nowhere (written_in name (tree_of c.args.doc.now.nodes)) c.args.topic.now c.args.element.now
    c.if-is_empty.ensures (λ around. c.in_err-topic.ensures name around)

pub returns : goal.returns
returns c = λ name.
    c.find_element.ensures name
    ∙ element_in_topic (written_in name (tree_of c.args.doc.now.nodes)) c.args.topic.now c.args.element.now
    c.if-is_empty.ensures c.as_str-id.result.now c.in_ok-topic.topic c.as_str-id.ensures
    (λ around. c.in_ok-topic.ensures name around)
