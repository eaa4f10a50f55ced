use Rattle.std.proofs.Common.{[], None, unwrap_or, ap, ◌∙◌}
use Rattle.dita_doc.proofs.Lists.{read_or}
use Rattle.map_spec.specs.Titles.{first_of_document}
use Rattle.map_spec.specs.Written.{written_in}
use Rattle.doc_elements.specs.Walk.{content_in}
use Rattle.doc_titles.proofs.TopicLaws.{first_id}
use Rattle.doc_titles.proofs.topics.first_of.Goals as goal

pub returns-in_ok-from_str-in-Some : goal.returns-in_ok-from_str-in-Some
returns-in_ok-from_str-in-Some c = λ name.
    c.in_ok-from_str-in-Some.ensures ∙ ap (λ text. text.now) c.unwrap_or.ensures
    ∙ read_or c.value_of.result _
    ∙ ap (λ value. unwrap_or value []) c.value_of.ensures
    ∙ first_id (content_in name c.of.result) _ (c.in-Some.ensures name)
    ∙ ap (λ tree. first_of_document (written_in name tree)) c.of.ensures.content

pub returns-in-None : goal.returns-in-None
returns-in-None c = λ name.
    c.new.ensures
    ∙ first_id (content_in name c.of.result) None (c.in-None.ensures name)
    ∙ ap (λ tree. first_of_document (written_in name tree)) c.of.ensures.content
