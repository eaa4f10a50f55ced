use Rattle.std.proofs.Common.{sym, ◌∙◌}
use Rattle.doc_elements.specs.Walk.{element_of}
use Rattle.conref_pull.proofs.TopicLaws.{taken_by_topic, taken_elsewhere, taken_in_range}
use Rattle.conref_pull.proofs.topics.topic_taken.Goals as goal

pub returns-then-is_range : goal.returns-then-is_range
returns-then-is_range c = λ name target types.
    taken_in_range c.args.is_range (element_of name c.args.node.now) target c.args.topic.now c.if-is_range.true types

pub returns-then-not-has_type : goal.returns-then-not-has_type
returns-then-not-has_type c = λ name target types.
    taken_elsewhere c.args.is_range (element_of name c.args.node.now) target c.args.topic.now
    (sym c.if-not-has_type.true ∙ c.has_type.ensures) types

pub returns : goal.returns
returns c = λ name target types. c.own_id.ensures
    ∙ taken_by_topic c.args.is_range (element_of name c.args.node.now) target c.args.topic.now c.if-is_range.false
    (sym c.if-not-has_type.false ∙ c.has_type.ensures) types
