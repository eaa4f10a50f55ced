use Rattle.doc_elements.specs.Walk.{element_of}
use Rattle.conref_pull.proofs.TopicLaws.{seen_kept, seen_left, seen_other}
use Rattle.conref_pull.proofs.topics.topic_seen.Goals as goal
use Rattle.conref_pull.proofs.topics.topic_seen.Goals.{else-eq-via-then-eq+else-has_type, else-eq-via-else-eq}

pub returns-then-has_type : goal.returns-then-has_type
returns-then-has_type c = λ name.
    seen_left c.args.at.is_range (element_of name c.args.node.now) c.args.at.topic.now c.topic_within-topic.result.now
    (c.topic_within-topic.ensures name) c.if-eq.ensures c.if-has_type.ensures

pub returns : goal.returns
returns c = λ name. elim c.else-eq.branch [
  | else-eq-via-then-eq+else-has_type w ↦
      seen_other c.args.at.is_range (element_of name c.args.node.now) c.args.at.topic.now c.topic_within-topic.result.now
      (c.topic_within-topic.ensures name) w.if-has_type.ensures
  | else-eq-via-else-eq w ↦
      seen_kept c.args.at.is_range (element_of name c.args.node.now) c.args.at.topic.now c.topic_within-topic.result.now
      (c.topic_within-topic.ensures name) w.if-eq.ensures
]
