use Rattle.std.proofs.Common.{◌+◌, option_map, sym, ap, ◌∙◌, arith}
use Rattle.dita_doc.specs.Siblings.{content}
use Rattle.dita_doc.specs.Tree.{size_of}
use Rattle.map_spec.specs.Written.{written_in}
use Rattle.map_lemmas.proofs.TreeLaws.{size_written}
use Rattle.topic_find.specs.Walk.{content_in, element_of, topic_at}
use Rattle.topic_find.proofs.TableLaws.{way_element, way_end, way_text}
use Rattle.topic_find.proofs.table.+add_elements.Goals as goal

pub returns-in-End : goal.returns-in-End
returns-in-End t c = record {
  past = omega (arith, c.loop-rest.invariant.room, ap size_of c.in-End.ensures.content);
  table = λ name seen before is inside.
      way_end c.loop-rest.table c.loop-rest.here (option_map topic_at c.args.around) _ _
      (ap (written_in name) c.in-End.ensures.content) (c.loop-rest.invariant.way name seen before is inside);
}

pub loop-rest-preserved-in-Chars : goal.loop-rest-preserved-in-Chars
loop-rest-preserved-in-Chars t c = record {
  way = λ name seen before is inside.
      way_text c.loop-rest.table c.loop-rest.here (option_map topic_at c.args.around) _ _ _ _ _
      (ap (written_in name) c.in-Chars.ensures.content) (c.loop-rest.invariant.way name seen before is inside);
  size = omega (arith, ap size_of c.in-Chars.ensures.content);
  room = omega (arith, ap size_of c.in-Chars.ensures.content);
}

pub loop-rest-preserved : goal.loop-rest-preserved
loop-rest-preserved t c = record {
  way = λ name seen before is inside.
      let past = c.in_ok-here-in-Element.ensures.past
      ∙ ap (λ some. c.loop-rest.here + 1 + some) (sym (size_written name (content c.in-Element.inside))) in
      way_element c.loop-rest.table c.add_one.new.table c.add_elements.new.table c.loop-rest.here
      c.in_ok-here-in-Element.here (option_map topic_at c.args.around)
      (option_map topic_at c.topic_inside-nearest.result) (content_in name c.loop-rest.left) _
      (element_of name c.in-Element.node.now) (content_in name c.in-Element.inside) (content_in name c.in-Element.rest)
      (ap (written_in name) c.in-Element.ensures.content)
      (λ some one are next. c.in_ok-add_one-in-Element.ensures name some one (c.is_topic-is_topic.ensures name) are next)
      (c.topic_inside-nearest.ensures name (c.is_topic-is_topic.ensures name))
      (λ some earlier are none. c.in_ok-here-in-Element.ensures.table name some earlier are none)
      past (c.loop-rest.invariant.way name seen before is inside);
  size = omega (arith, ap size_of c.in-Element.ensures.content);
  room = omega (arith, c.in_ok-here-in-Element.ensures.past, ap size_of c.in-Element.ensures.content);
}
