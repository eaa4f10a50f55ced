use Rattle.std.proofs.Common.{sym, ap, ◌∙◌, arith}
use Rattle.dita_doc.specs.Tree.{size_of}
use Rattle.map_spec.specs.Written.{written_in}
use Rattle.doc_elements.specs.Walk.{element_of, whole_of}
use Rattle.doc_titles.proofs.TopicLaws.{topic_here, topic_inside, topic_behind}
use Rattle.doc_titles.proofs.topics.+find_topic.Goals as goal

pub returns-then-is_wanted_topic : goal.returns-then-is_wanted_topic
returns-then-is_wanted_topic t c = λ name.
    sym (
    c.loop-rest.invariant.same name
    ∙ topic_here _ (element_of name c.in-Element.node.now) _ _ (ap (written_in name) c.in-Element.ensures.content)
    c.args.wanted (c.if-is_wanted_topic.ensures name)
    )

pub returns-in-Some : goal.returns-in-Some
returns-in-Some t c = λ name.
    sym (
    c.loop-rest.invariant.same name
    ∙ topic_inside _ (element_of name c.in-Element.node.now) _ _ (ap (written_in name) c.in-Element.ensures.content)
    c.args.wanted (whole_of name c.in-Some.found)
    (c.if-is_wanted_topic.ensures name) (c.in-Some.ensures name)
    )

pub loop-rest-preserved : goal.loop-rest-preserved
loop-rest-preserved t c = record {
  same = λ name.
      c.loop-rest.invariant.same name
      ∙ topic_behind _ (element_of name c.in-Element.node.now) _ _ (ap (written_in name) c.in-Element.ensures.content)
      c.args.wanted (c.if-is_wanted_topic.ensures name)
      (c.in_default.ensures name);
  size = omega (arith, ap size_of c.in-Element.ensures.content);
}
