use Rattle.std.proofs.Common.{◌∙◌, sym}
use Rattle.page_names.proofs.BaseLaws.{dot_in_front, extension_cut, no_extension, text_cut, text_lacks}
use Rattle.page_names.proofs.base.without_extension.Goals as goal

pub returns-in-None : goal.returns-in-None
returns-in-None c =
    no_extension c.args.segment.now (text_lacks 46 _ c.args.segment.now c.as_bytes.ensures.value c.in-None.ensures)

pub returns-then-is_empty : goal.returns-then-is_empty
returns-then-is_empty c =
    dot_in_front c.args.segment.now c.in-Some.front.now c.in-Some.field-0-1.now
    (text_cut 46 _ c.args.segment.now _ _ c.as_bytes.ensures.value c.in-Some.ensures)
    (sym c.if-is_empty.true ∙ c.is_empty.ensures)

pub returns-else-is_empty : goal.returns-else-is_empty
returns-else-is_empty c =
    extension_cut c.args.segment.now c.in-Some.front.now c.in-Some.field-0-1.now c.range.result.now
    (text_cut 46 _ c.args.segment.now _ _ c.as_bytes.ensures.value c.in-Some.ensures)
    (sym c.if-is_empty.false ∙ c.is_empty.ensures) c.range.ensures.value
