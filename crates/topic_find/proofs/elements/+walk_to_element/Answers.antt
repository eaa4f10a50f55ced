use Rattle.std.proofs.Common.{◌+◌, [], option_map, sym, ap, ◌∙◌, arith}
use Rattle.dita_doc.specs.Siblings.{content}
use Rattle.dita_doc.specs.Tree.{size_of}
use Rattle.map_spec.specs.Written.{written_in}
use Rattle.topic_find.specs.Walk.{content_in, element_of, is_element_meant, topic_at, walk_of}
use Rattle.topic_find.proofs.WalkLaws.{passed, walk_behind, walk_here, walk_inside}
use Rattle.topic_find.proofs.elements.+walk_to_element.Goals as goal

pub returns-then-is_meant : goal.returns-then-is_meant
returns-then-is_meant t c = λ name.
    sym (
    c.loop-rest.invariant.same name
    ∙ walk_here (is_element_meant c.args.meant) c.loop-rest.here (option_map topic_at c.args.around) _
    (element_of name c.in-Element.node.now) _ _ (ap (written_in name) c.in-Element.ensures.content)
    (c.if-is_meant.ensures name (c.is_topic-is_topic.ensures name))
    )

pub returns-in_err-here-in-Element : goal.returns-in_err-here-in-Element
returns-in_err-here-in-Element t c = λ name.
    let inside = c.in_err-here-in-Element.ensures name
    ∙ ap (λ around. walk_of (is_element_meant c.args.meant) (c.loop-rest.here + 1) around
    (content_in name c.in-Element.inside)) (c.topic_inside-nearest.ensures name (c.is_topic-is_topic.ensures name)) in
    c.from_residual.ensures
    ∙ sym (
    c.loop-rest.invariant.same name
    ∙ walk_inside (is_element_meant c.args.meant) c.loop-rest.here (option_map topic_at c.args.around) _
    (element_of name c.in-Element.node.now) _ _ (ap (written_in name) c.in-Element.ensures.content)
    c.in_err-here-in-Element.field-0.0 (c.if-is_meant.ensures name (c.is_topic-is_topic.ensures name)) inside
    )

pub loop-rest-preserved : goal.loop-rest-preserved
loop-rest-preserved t c = record {
  same = λ name.
      let inside = c.in_ok-here-in-Element.ensures name
      ∙ ap (λ around. walk_of (is_element_meant c.args.meant) (c.loop-rest.here + 1) around
      (content_in name c.in-Element.inside)) (c.topic_inside-nearest.ensures name (c.is_topic-is_topic.ensures name)) in
      c.loop-rest.invariant.same name
      ∙ walk_behind (is_element_meant c.args.meant) c.loop-rest.here (option_map topic_at c.args.around) _
      (element_of name c.in-Element.node.now) _ _ (ap (written_in name) c.in-Element.ensures.content)
      c.in_ok-here-in-Element.here (c.if-is_meant.ensures name (c.is_topic-is_topic.ensures name)) inside;
  size = omega (arith, ap size_of c.in-Element.ensures.content);
  room =
      let past = passed (is_element_meant c.args.meant) (c.loop-rest.here + 1)
      (option_map topic_at c.topic_inside-nearest.result) [] (content c.in-Element.inside)
      c.in_ok-here-in-Element.here (c.in_ok-here-in-Element.ensures []) in
      omega (arith, past, ap size_of c.in-Element.ensures.content);
}
