use Rattle.std.proofs.Common.{◌+◌, [], None, sym, ap, ◌∙◌, arith, rules}
use Rattle.dita_doc.specs.Siblings.{content}
use Rattle.dita_doc.specs.Tree.{size_of}
use Rattle.map_spec.specs.Written.{written_in}
use Rattle.map_spec.specs.Places.{topic_inside}
use Rattle.topic_find.specs.Walk.{element_of, is_topic_wanted}
use Rattle.topic_find.proofs.WalkLaws.{passed, walk_behind, walk_inside}
use Rattle.topic_find.proofs.topics.+walk_to_topic.Goals as goal

pub returns-in_err-here-in-Element : goal.returns-in_err-here-in-Element
returns-in_err-here-in-Element t c = λ name around.
    let element = element_of name c.in-Element.node.now in
    c.from_residual.ensures
    ∙ sym (
    c.loop-rest.invariant.same name around
    ∙ walk_inside (is_topic_wanted c.args.wanted) c.loop-rest.here around _ element _ _
    (ap (written_in name) c.in-Element.ensures.content) c.in_err-here-in-Element.field-0.0
    (c.if-is_topic_wanted.ensures name)
    (c.in_err-here-in-Element.ensures name (topic_inside c.loop-rest.here element around))
    )

pub loop-rest-preserved : goal.loop-rest-preserved
loop-rest-preserved t c = record {
  same = λ name around.
      let element = element_of name c.in-Element.node.now in
      c.loop-rest.invariant.same name around
      ∙ walk_behind (is_topic_wanted c.args.wanted) c.loop-rest.here around _ element _ _
      (ap (written_in name) c.in-Element.ensures.content) c.in_ok-here-in-Element.here
      (c.if-is_topic_wanted.ensures name)
      (c.in_ok-here-in-Element.ensures name (topic_inside c.loop-rest.here element around));
  size = omega (arith, ap size_of c.in-Element.ensures.content);
  room =
      let past = passed (is_topic_wanted c.args.wanted) (c.loop-rest.here + 1) None [] (content c.in-Element.inside)
      c.in_ok-here-in-Element.here (c.in_ok-here-in-Element.ensures [] None) in
      omega (arith, past, ap size_of c.in-Element.ensures.content);
}

pub returns-then-is_topic_wanted : goal.returns-then-is_topic_wanted
returns-then-is_topic_wanted t c = λ name around. search rules

pub loop-rest-preserved-in-Chars : goal.loop-rest-preserved-in-Chars
loop-rest-preserved-in-Chars t c = search rules
