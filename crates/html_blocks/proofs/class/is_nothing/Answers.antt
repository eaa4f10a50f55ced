use Rattle.std.proofs.Common.{◌∙◌, [], ap, length, sym, if◌then◌else◌}
use Rattle.std.specs.Prelude.{◌==◌, ◌&&◌}
use Rattle.html_blocks.specs.Marks.{texts_of, texts_text}
use Rattle.html_blocks.proofs.MarkLaws.{texts_shown}
use Rattle.html_blocks.proofs.class.is_nothing.Goals as goal

pub returns-then-is_empty : goal.returns-then-is_empty
returns-then-is_empty c =
    let first = c.args.first.now in
    let texts = texts_of c.args.marks in
    texts_shown first texts
    ∙ ap (λ test. if test && (length texts == 0) then [] else texts_text first texts) (sym c.if-is_empty.ensures)
    ∙ ap (λ test. if test then [] else texts_text first texts) (sym c.is_empty-then-is_empty.ensures)

pub returns-else-is_empty : goal.returns-else-is_empty
returns-else-is_empty c =
    let first = c.args.first.now in
    let texts = texts_of c.args.marks in
    texts_shown first texts
    ∙ ap (λ test. if test && (length texts == 0) then [] else texts_text first texts) (sym c.if-is_empty.ensures)
    ∙ ap (λ test. if test then [] else texts_text first texts) (sym c.if-is_empty.false)
