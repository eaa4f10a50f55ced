use Rattle.std.proofs.Common.{◌+◌, sym, ap, ◌∙◌, arith}
use Rattle.dita_doc.specs.Siblings.{content}
use Rattle.dita_doc.specs.Tree.{size_of}
use Rattle.html_tables.specs.Walk.{content_named, element_named}
use Rattle.html_spec.specs.Blocks.{cells_from, context_in, row_for}
use Rattle.readers.specs.Named.{name_at, under_names}
use Rattle.readers.proofs.GivenLaws.{size_named}
use Rattle.html_tables.proofs.WalkLaws.{cells_first, cells_text, kept_context, more_again, way_ends, way_more, way_same}
use Rattle.html_tables.proofs.table.+append_cells.Goals as goal

pub returns-in-End : goal.returns-in-End
returns-in-End t c = record {
  past = omega (arith, c.loop-rest.invariant.room, ap size_of c.in-End.ensures.content);
  cells = λ names around is.
      way_ends _ _ _ _
      (ap (λ all. cells_from around c.loop-rest.here (under_names names all)) c.in-End.ensures.content)
      (c.loop-rest.invariant.way names around is);
}

pub loop-rest-preserved-in-Chars : goal.loop-rest-preserved-in-Chars
loop-rest-preserved-in-Chars t c = record {
  way = λ names around is.
      way_same _ _ _ _ _
      (cells_text around c.loop-rest.here _ _ _ _ (ap (under_names names) c.in-Chars.ensures.content))
      (c.loop-rest.invariant.way names around is);
  size = omega (arith, ap size_of c.in-Chars.ensures.content);
  room = omega (arith, ap size_of c.in-Chars.ensures.content);
}

pub loop-rest-preserved : goal.loop-rest-preserved
loop-rest-preserved t c = record {
  way = λ names around is.
      let way = c.loop-rest.invariant.way names around is in
      let element = element_named names c.in-Element.node.now in
      let inside = content_named names c.in-Element.inside in
      let entered = c.in_ok-within-in-Element.ensures names (name_at names c.in-Element.node.now.origin) around
      (kept_context _ _ _ around way.kept is) in
      let more = c.in_ok-here-in-Element.ensures.cells names (context_in element inside (row_for element) around)
      entered.context in
      let past = c.in_ok-here-in-Element.ensures.past
      ∙ ap (λ some. c.loop-rest.here + 1 + some) (sym (size_named names (content c.in-Element.inside))) in
      way_more _ _ _ _ _ _ _
      (cells_first around c.loop-rest.here _ element inside (content_named names c.in-Element.rest) _
      (ap (under_names names) c.in-Element.ensures.content) past)
      (more_again _ _ _ _ _ entered.more more) way;
  size = omega (arith, ap size_of c.in-Element.ensures.content);
  room = omega (arith, c.in_ok-here-in-Element.ensures.past, ap size_of c.in-Element.ensures.content);
}
