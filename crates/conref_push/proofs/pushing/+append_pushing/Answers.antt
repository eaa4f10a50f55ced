use Rattle.std.proofs.Common.{◌+◌, ◌∙◌, sym, ap, arith, map}
use Rattle.dita_doc.specs.Siblings.{content}
use Rattle.dita_doc.specs.Tree.{size_of}
use Rattle.doc_elements.specs.Walk.{content_in, element_of}
use Rattle.map_spec.specs.Written.{written_in}
use Rattle.map_spec.specs.Places.{topic_inside}
use Rattle.map_lemmas.proofs.TreeLaws.{size_written}
use Rattle.conref_push.specs.Sight.{element_before, sight_of}
use Rattle.conref_push.proofs.SightLaws.{way_element, way_end, way_text}
use Rattle.conref_push.proofs.pushing.+append_pushing.Goals as goal

pub returns-in-End : goal.returns-in-End
returns-in-End t c = record {
  past = omega (arith, c.loop-rest.invariant.room, ap size_of c.in-End.ensures.content);
  seen = λ name around is.
      way_end (map (sight_of name) c.loop-rest.out.items) _ c.loop-rest.here around
      (element_before name c.loop-rest.before) (content_in name c.loop-rest.left)
      (ap (written_in name) c.in-End.ensures.content) (c.loop-rest.invariant.seen name around is);
}

pub loop-rest-preserved-in-Chars : goal.loop-rest-preserved-in-Chars
loop-rest-preserved-in-Chars t c = record {
  seen = λ name around is.
      way_text (map (sight_of name) c.loop-rest.out.items) _ c.loop-rest.here around
      (element_before name c.loop-rest.before) (content_in name c.loop-rest.left) _ _ _
      (ap (written_in name) c.in-Chars.ensures.content) (c.loop-rest.invariant.seen name around is);
  size = omega (arith, ap size_of c.in-Chars.ensures.content);
  room = omega (arith, ap size_of c.in-Chars.ensures.content);
}

pub loop-rest-preserved : goal.loop-rest-preserved
loop-rest-preserved t c = record {
  seen = λ name around is.
      let past = c.in_ok-here-in-Element.ensures.past
      ∙ ap (λ some. c.loop-rest.here + 1 + some) (sym (size_written name (content c.in-Element.inside))) in
      let label = element_of name c.in-Element.node.now in
      let nearest = topic_inside c.loop-rest.here label around in
      way_element (map (sight_of name) c.loop-rest.out.items) _ c.loop-rest.here around
      (element_before name c.loop-rest.before) (content_in name c.loop-rest.left) label
      (content_in name c.in-Element.inside) (content_in name c.in-Element.rest)
      (map (sight_of name) c.append_one.new.out.items) (map (sight_of name) c.append_pushing.new.out.items)
      c.in_ok-here-in-Element.here (ap (written_in name) c.in-Element.ensures.content)
      (c.in_ok-append_one-in-Element.ensures name (content_in name c.in-Element.inside) around is)
      (c.in_ok-here-in-Element.ensures.seen name nearest
      (sym (c.topic_inside.ensures name c.loop-rest.here around is)))
      past (c.loop-rest.invariant.seen name around is);
  size = omega (arith, ap size_of c.in-Element.ensures.content);
  room = omega (arith, c.in_ok-here-in-Element.ensures.past, ap size_of c.in-Element.ensures.content);
}
