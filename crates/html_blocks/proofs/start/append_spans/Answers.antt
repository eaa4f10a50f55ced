use Rattle.std.proofs.Common.{◌++◌, ◌∙◌, ap, codes}
use Rattle.doc_elements.specs.Walk.{element_of}
use Rattle.html_spec.specs.Blocks.{span_text, spans}
use Rattle.html_spec.specs.Tables.{rows_of}
use Rattle.html_blocks.proofs.TagLaws.{text_then}
use Rattle.html_blocks.proofs.start.append_spans.Goals as goal

pub returns : goal.returns
returns c = λ name around has.
    let cell = element_of name c.args.cell.now in
    text_then c.append_span-2.result c.args.out.now c.append_span.new.out c.append_span-2.new.out _ _
    (spans around cell) c.in_ok-append_span.ensures
    (ap (λ rows. span_text (codes "rowspan") rows ++ span_text (codes "colspan") c.columns_spanned-columns.result)
    (c.rows_spanned-rows.ensures name)
    ∙ ap (λ columns. span_text (codes "rowspan") (rows_of cell) ++ span_text (codes "colspan") columns)
    (c.columns_spanned-columns.ensures name around.columns has))
    c.append_span-2.ensures
