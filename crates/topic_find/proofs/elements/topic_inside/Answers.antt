use Rattle.std.proofs.Common.{[], Some, unwrap_or, refl, ap, ◌∙◌}
use Rattle.dita_doc.proofs.Lists.{read_or}
use Rattle.map_spec.specs.Places.{TopicAt}
use Rattle.topic_find.proofs.elements.topic_inside.Goals as goal

pub returns-then-is_topic : goal.returns-then-is_topic
returns-then-is_topic c = λ name typed. rw (← typed, c.if-is_topic.true) (ap
    (λ id. (let topic : TopicAt = record { place = c.args.place; id = id } in Some topic))
    (
    ap (λ text. text.now) c.unwrap_or-id.ensures
    ∙ read_or c.value_of.result _
    ∙ ap (λ value. unwrap_or value []) c.value_of.ensures
    ))

pub returns-else-is_topic : goal.returns-else-is_topic
returns-else-is_topic c = λ name typed. rw (← typed, c.if-is_topic.false) refl
