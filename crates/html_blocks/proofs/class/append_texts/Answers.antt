use Rattle.std.proofs.Common.{◌++◌, ◌∷◌, ◌∙◌, ap, append_assoc, codes, sym}
use Rattle.std.proofs.lemmas.List.{append-nil}
use Rattle.dita_doc.specs.HtmlEscapes.{escaped_value}
use Rattle.html_blocks.specs.Marks.{behind, class_text, texts_of}
use Rattle.html_spec.specs.Blocks.{spaced}
use Rattle.html_blocks.proofs.TagLaws.{text_last}
use Rattle.html_blocks.proofs.class.append_texts.Goals as goal

pub returns-then-is_nothing : goal.returns-then-is_nothing
returns-then-is_nothing c =
    sym (append-nil c.args.out.now) ∙ ap (λ bytes. c.args.out.now ++ bytes) (sym c.if-is_nothing.ensures)

pub returns : goal.returns
returns c =
    let first = c.args.first.now in
    let texts = texts_of c.args.marks in
    text_last c.append-2.result c.args.out.now c.append.new.self c.append_html_value.new.out c.append_behind.new.out
    c.append-2.new.self _ _ _ _ (class_text (spaced (first ∷ texts))) c.in_ok-append.ensures
    c.in_ok-append_html_value.ensures c.in_ok-append_behind.ensures c.append-2.ensures
    (ap (λ more. codes " class=\"" ++ more) (append_assoc (escaped_value first) (behind texts) (codes "\""))
    ∙ sym c.if-is_nothing.ensures)
