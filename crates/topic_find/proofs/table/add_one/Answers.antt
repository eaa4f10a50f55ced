use Rattle.std.proofs.Common.{option_map, sym, ap, ◌∙◌}
use Rattle.dita_doc.proofs.Lists.{on_ok}
use Rattle.topic_find.specs.Walk.{element_of, topic_at}
use Rattle.topic_find.proofs.TableLaws.{next_element, next_outside, next_topic, next_unnamed}
use Rattle.topic_find.proofs.table.add_one.Goals as goal

pub returns-then-is_topic : goal.returns-then-is_topic
returns-then-is_topic c = λ name seen one typed is next.
    on_ok _ _ c.add_topic.result
    (next_topic c.args.table.now seen one c.args.place (element_of name c.args.element.now)
    (option_map topic_at c.args.around) is next c.add_topic.new.self c.id_of-id.result.now
    (sym c.if-is_topic.true ∙ typed) (c.id_of-id.ensures name)) c.add_topic.ensures

pub returns-in_default : goal.returns-in_default
returns-in_default c = λ name seen one typed is next.
    next_outside c.args.table.now seen one c.args.place (element_of name c.args.element.now)
    (option_map topic_at c.args.around) is next (sym c.if-is_topic.false ∙ typed) (ap (option_map topic_at) c.in_default.is)

pub returns-then-is_empty : goal.returns-then-is_empty
returns-then-is_empty c = λ name seen one typed is next.
    next_unnamed c.args.table.now seen one c.args.place (element_of name c.args.element.now)
    (option_map topic_at c.args.around) is next c.id_of-id.result.now
    (sym c.if-is_topic.false ∙ typed) (c.id_of-id.ensures name) c.if-is_empty.ensures

pub returns : goal.returns
returns c = λ name seen one typed is next.
    on_ok _ _ c.add_element.result
    (next_element c.args.table.now seen one c.args.place (element_of name c.args.element.now)
    (option_map topic_at c.args.around) is next c.add_element.new.self c.id_of-id.result.now (topic_at c.in-Some.topic)
    (sym c.if-is_topic.false ∙ typed) (c.id_of-id.ensures name) (ap (option_map topic_at) c.in-Some.is))
    c.add_element.ensures
