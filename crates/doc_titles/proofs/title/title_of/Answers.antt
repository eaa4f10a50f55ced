use Rattle.std.proofs.Common.{ap, ◌∙◌}
use Rattle.map_spec.specs.Titles.{title_of_document, topic_named, topics}
use Rattle.map_spec.specs.Written.{written_in}
use Rattle.doc_elements.specs.Walk.{content_in}
use Rattle.doc_titles.specs.Topics.{title_if_there}
use Rattle.doc_titles.proofs.TitleLaws.{title_of_first, title_by_name}
use Rattle.doc_titles.proofs.title.title_of.Goals as goal

pub returns-then-not-is_empty-2 : goal.returns-then-not-is_empty-2
returns-then-not-is_empty-2 c =
    let name = c.args.name.now in
    let topic = c.args.topic.now in
    let nodes = content_in name c.of-root.result in
    title_of_first name topic c.in_ok-named.named c.in_ok-first.first nodes
    (c.in_ok-named.ensures name ∙ ap title_if_there (c.topic_named.ensures name)
    ∙ ap (λ id. title_if_there (topic_named id (topics nodes))) c.as_str.ensures)
    (c.in_ok-first.ensures name ∙ ap title_if_there (c.find_topic.ensures name))
    c.if-not-is_empty.ensures c.if-not-is_empty-2.ensures
    ∙ ap (λ tree. title_of_document name topic (written_in name tree)) c.of-root.ensures.content

pub returns : goal.returns
returns c =
    let name = c.args.name.now in
    let topic = c.args.topic.now in
    let nodes = content_in name c.of-root.result in
    c.in_ok-from_str.ensures ∙ c.as_str-2.ensures.value
    ∙ title_by_name name topic c.in_ok-named.named c.in_ok-first.first nodes
    (c.in_ok-named.ensures name ∙ ap title_if_there (c.topic_named.ensures name)
    ∙ ap (λ id. title_if_there (topic_named id (topics nodes))) c.as_str.ensures)
    (c.in_ok-first.ensures name ∙ ap title_if_there (c.find_topic.ensures name))
    c.if-not-is_empty.ensures c.if-not-is_empty-2.ensures
    ∙ ap (λ tree. title_of_document name topic (written_in name tree)) c.of-root.ensures.content
