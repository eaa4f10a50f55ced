use Rattle.std.proofs.Common.{[], ◌++◌, ap, ◌∙◌, arith, map, refl, subst, sym}
use Rattle.dita_doc.specs.Siblings.{content}
use Rattle.dita_doc.specs.Tree.{size_of, tree_of}
use Rattle.dita_doc.proofs.PlaceLaws.{end_first, root_fits}
use Rattle.html_tables.specs.Walk.{HasColumns, cells_of, content_named, element_named, shown_cell}
use Rattle.readers.specs.Named.{name_at, under_names}
use Rattle.readers.proofs.GivenLaws.{size_named}
use Rattle.html_tables.proofs.DownLaws.{down_begins, down_behind, down_ends, down_found, down_inside, down_nothing, down_text}
use Rattle.html_tables.proofs.WalkLaws.{none_more}
use Rattle.html_tables.proofs.table.append_found.Goals as goal

pub loop-rest-init : goal.loop-rest-init
loop-rest-init c = record {
  cells = refl;
  way = down_begins _ _ _ _ _ (ap (under_names c.args.body.now.origins) c.of-left.ensures.content) (record {
    head = c.outside-context.ensures.head;
    simple_head = c.outside-context.ensures.simple_head;
    columns = subst (λ group. HasColumns c.args.walk.now.groups group []) (sym c.outside-context.ensures.group) refl;
  });
  room = omega (arith, ap size_of c.of-left.ensures.content);
}

pub returns-in-End : goal.returns-in-End
returns-in-End c = none_more _ _ _ c.loop-rest.invariant.cells
    (down_ends _ _ _ _ _ _ c.loop-rest.invariant.way
    (ap (under_names c.args.body.now.origins) c.in-End.ensures.content))

pub returns-then-here-table : goal.returns-then-here-table
returns-then-here-table c = none_more _ _ _ c.loop-rest.invariant.cells
    (down_nothing _ _ _ _ _ _ c.loop-rest.invariant.way _ _ _
    (ap (under_names c.args.body.now.origins) c.in-Chars.ensures.content) c.if-here-table.true)

pub loop-rest-preserved-in-Chars : goal.loop-rest-preserved-in-Chars
loop-rest-preserved-in-Chars c = record {
  cells = c.loop-rest.invariant.cells;
  way = down_text _ _ _ _ _ _ c.loop-rest.invariant.way _ _ _
      (ap (under_names c.args.body.now.origins) c.in-Chars.ensures.content) c.if-here-table.false;
  room = omega (arith, c.loop-rest.invariant.room, ap size_of c.in-Chars.ensures.content);
}

pub append_whole-requires : goal.append_whole-requires
append_whole-requires c =
    let doc = c.args.body.now in
    let fits = root_fits doc.nodes (tree_of doc.nodes) doc.tree doc.small refl in
    omega (arith, fits, c.loop-rest.invariant.room, ap size_of c.in-Element.ensures.content)

pub returns-then-here-table-2 : goal.returns-then-here-table-2
returns-then-here-table-2 c =
    let names = c.args.body.now.origins in
    let node = c.in-Element.node.now in
    let way = c.loop-rest.invariant.way in
    let has = c.in_ok-append_whole-in-Element.ensures names (name_at names node.origin) way.around way.is in
    has.cells
    ∙ ap (λ cells. map shown_cell cells
    ++ cells_of way.around c.loop-rest.here (element_named names node, content_named names c.in-Element.inside))
    c.loop-rest.invariant.cells
    ∙ ap (λ some. map shown_cell c.args.walk.now.cells ++ some)
    (down_found _ _ _ _ _ _ way (element_named names node) (content_named names c.in-Element.inside)
    (content_named names c.in-Element.rest)
    (ap (under_names names) c.in-Element.ensures.content) c.if-here-table-2.true)

pub overflow_add-past : goal.overflow_add-past
overflow_add-past c =
    let doc = c.args.body.now in
    let fits = root_fits doc.nodes (tree_of doc.nodes) doc.tree doc.small refl in
    let end = end_first c.loop-rest.left c.in-Element.node.now (content c.in-Element.inside) (content c.in-Element.rest)
    c.in-Element.place c.in-Element.ensures.content c.in-Element.ensures.place c.in-Element.ensures.node in
    omega (arith, end, fits, c.loop-rest.invariant.room, ap size_of c.in-Element.ensures.content)

pub loop-rest-preserved-then-past-table : goal.loop-rest-preserved-then-past-table
loop-rest-preserved-then-past-table c =
    let names = c.args.body.now.origins in
    let node = c.in-Element.node.now in
    let inside = content c.in-Element.inside in
    let end = end_first c.loop-rest.left node inside (content c.in-Element.rest)
    c.in-Element.place c.in-Element.ensures.content c.in-Element.ensures.place c.in-Element.ensures.node in
    let count = size_named names inside in
    record {
      cells = c.loop-rest.invariant.cells;
      way = down_behind _ _ _ _ _ _ c.loop-rest.invariant.way (element_named names node) (under_names names inside)
          (content_named names c.in-Element.rest) (ap (under_names names) c.in-Element.ensures.content) _
          (omega (arith, end, count)) c.if-past-table.true;
      room = omega (arith, end, c.loop-rest.invariant.room, ap size_of c.in-Element.ensures.content);
    }

pub loop-rest-preserved : goal.loop-rest-preserved
loop-rest-preserved c =
    let names = c.args.body.now.origins in
    let node = c.in-Element.node.now in
    let inside = content c.in-Element.inside in
    let end = end_first c.loop-rest.left node inside (content c.in-Element.rest)
    c.in-Element.place c.in-Element.ensures.content c.in-Element.ensures.place c.in-Element.ensures.node in
    let count = size_named names inside in
    let way = c.loop-rest.invariant.way in
    record {
      cells = c.loop-rest.invariant.cells;
      way = down_inside _ _ _ _ _ _ way (element_named names node) (under_names names inside)
          (content_named names c.in-Element.rest) (ap (under_names names) c.in-Element.ensures.content) _ _
          (c.in_ok-context-in-Element.ensures.within names (name_at names node.origin) way.around way.is)
          c.if-here-table-2.false (omega (arith, end, count, c.if-past-table.false));
      room = omega (arith, c.loop-rest.invariant.room, ap size_of c.in-Element.ensures.content);
    }
