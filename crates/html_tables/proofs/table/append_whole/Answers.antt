use Rattle.html_tables.specs.Walk.{content_named}
use Rattle.doc_elements.specs.Walk.{element_of}
use Rattle.html_spec.specs.Blocks.{context_in, row_for}
use Rattle.html_tables.proofs.WalkLaws.{more_again}
use Rattle.html_tables.proofs.table.append_whole.Goals as goal

pub returns : goal.returns
returns c = λ names name around is.
    let element = element_of name c.args.element.now in
    let inside = content_named names c.args.inside in
    let entered = c.in_ok-within.ensures names name around is in
    more_again _ _ _ _ _ entered.more
    (c.in_ok-append_cells.ensures.cells names (context_in element inside (row_for element) around) entered.context)
