use Rattle.std.proofs.Common.{◌+◌, ◌-◌, ◌<◌, ◌∙◌, ap, arith, length, refl, subst, sym}
use Rattle.dita_doc.specs.HtmlEscapes.{escaped}
use Rattle.dita_doc.specs.Siblings.{content, doc_of_siblings}
use Rattle.dita_doc.specs.Tree.{size_of}
use Rattle.dita_doc.specs.declared.doc.Doc.{Doc}
use Rattle.dita_doc.proofs.PlaceLaws.{end_first}
use Rattle.dita_doc.proofs.TreeLaws.{origin_fits}
use Rattle.html_blocks.specs.Walk.{content_of, origins_of, overlay_of}
use Rattle.html_tables.specs.Walk.{element_named}
use Rattle.html_spec.specs.Blocks.{shown, shown_from}
use Rattle.readers.specs.Named.{name_at, under_names}
use Rattle.readers.proofs.GivenLaws.{size_named}
use Rattle.html_blocks.proofs.ContextLaws.{kept_within}
use Rattle.html_blocks.proofs.NodeLaws.{first_named, text_named}
use Rattle.html_blocks.proofs.WayLaws.{more_text, shown_end, shown_first, shown_text, way_ends, way_more}
use Rattle.html_blocks.proofs.body.+append.Goals as goal

pub append_siblings-returns-in-End : goal.append_siblings-returns-in-End
append_siblings-returns-in-End t c = λ around is.
    let left = c.loop-node.left in
    way_ends _ _ _ _
    (shown_end around (overlay_of c.args.overlay.now) c.loop-node.here (content_of left)
    (ap (under_names (origins_of left)) c.in-End.ensures.content))
    (c.loop-node.invariant.way around is)

pub append_siblings-loop-node-preserved-in-Chars : goal.append_siblings-loop-node-preserved-in-Chars
append_siblings-loop-node-preserved-in-Chars t c = record {
  way = λ around is.
      let overlay = overlay_of c.args.overlay.now in
      let left = c.loop-node.left in
      let node = c.in-Chars.node.now in
      let rest = c.in-Chars.rest in
      way_more _ _ _ _ _ (shown (escaped node.text))
      (shown_from around overlay (c.loop-node.here + 1) (content_of rest))
      (shown_text around overlay c.loop-node.here (content_of left) node.text (name_at (origins_of left) node.origin)
      (content_of rest)
      (text_named (doc_of_siblings left) (content left) node.text node.origin node.line (content rest)
      (doc_of_siblings rest)
      c.in-Chars.ensures.content c.in-Chars.ensures.document))
      (more_text _ _ _ (λ group names known. known) c.in_ok-append_characters-in-Chars.ensures refl)
      (c.loop-node.invariant.way around is);
  size = omega (arith, c.loop-node.invariant.size, ap size_of c.in-Chars.ensures.content);
  room = omega (arith, c.loop-node.invariant.room, ap size_of c.in-Chars.ensures.content);
  home = c.in-Chars.ensures.document ∙ c.loop-node.invariant.home;
}

pub append_siblings-overflow_sub-count : goal.append_siblings-overflow_sub-count
append_siblings-overflow_sub-count t c =
    let end = end_first c.loop-node.left c.in-Element.node.now (content c.in-Element.inside) (content c.in-Element.rest)
    c.in-Element.place c.in-Element.ensures.content c.in-Element.ensures.place c.in-Element.ensures.node in
    omega (arith, end)

pub append_siblings-overflow_add-here-in-Element : goal.append_siblings-overflow_add-here-in-Element
append_siblings-overflow_add-here-in-Element t c =
    let end = end_first c.loop-node.left c.in-Element.node.now (content c.in-Element.inside) (content c.in-Element.rest)
    c.in-Element.place c.in-Element.ensures.content c.in-Element.ensures.place c.in-Element.ensures.node in
    omega (arith, end, c.loop-node.invariant.room, ap size_of c.in-Element.ensures.content, c.requires)

pub append_siblings-invariant_of-element : goal.append_siblings-invariant_of-element
append_siblings-invariant_of-element t c =
    let home = doc_of_siblings c.loop-node.left in
    record {
      written = subst (λ (doc : Doc). c.in-Element.node.now.origin < length doc.origins)
          (sym c.in-Element.ensures.document.0)
          (origin_fits (length home.origins) home.nodes c.in-Element.place c.in-Element.node.now home.placed
          c.in-Element.ensures.node);
    }

pub append_siblings-loop-node-preserved : goal.append_siblings-loop-node-preserved
append_siblings-loop-node-preserved t c =
    let left = c.loop-node.left in
    let here = c.loop-node.here in
    let node = c.in-Element.node.now in
    let inside = c.in-Element.inside in
    let rest = c.in-Element.rest in
    let end = end_first left node (content inside) (content rest) c.in-Element.place c.in-Element.ensures.content
    c.in-Element.ensures.place c.in-Element.ensures.node in
    let count = size_named (origins_of inside) (content inside) in
    record {
      way = λ around is.
          let way = c.loop-node.invariant.way around is in
          way_more _ _ _ _ _ _ _
          (shown_first around (overlay_of c.args.overlay.now) here (content_of left)
          (element_named (origins_of inside) node) (content_of inside) (content_of rest) (here + (node.end - c.in-Element.place))
          (first_named (doc_of_siblings left) (content left) node.text node.attributes node.origin node.line
          (content inside)
          (content rest) (doc_of_siblings inside) (doc_of_siblings rest) c.in-Element.ensures.content
          c.in-Element.ensures.document.0 c.in-Element.ensures.document.1)
          (omega (arith, end, count)))
          (c.in_ok-append_element-in-Element.ensures around (kept_within _ _ c.args.context around way.kept is)) way;
      size = omega (arith, c.loop-node.invariant.size, ap size_of c.in-Element.ensures.content);
      room = omega (arith, end, c.loop-node.invariant.room, ap size_of c.in-Element.ensures.content);
      home = c.in-Element.ensures.document.1 ∙ c.loop-node.invariant.home;
    }
