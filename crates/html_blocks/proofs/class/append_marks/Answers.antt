use Rattle.std.proofs.Common.{◌++◌, ◌∙◌, ap, sym}
use Rattle.std.proofs.lemmas.List.{append-nil}
use Rattle.html_blocks.specs.Marks.{class_text}
use Rattle.html_spec.specs.Blocks.{spaced}
use Rattle.html_blocks.proofs.TagLaws.{text_as}
use Rattle.html_blocks.proofs.class.append_marks.Goals as goal

pub returns-in-Some : goal.returns-in-Some
returns-in-Some c = text_as c.append_texts.result c.args.out.now c.append_texts.new.out _ _
    (ap (λ texts. class_text (spaced texts)) (sym c.in-Some.ensures.some)) c.append_texts.ensures

pub returns-in-None : goal.returns-in-None
returns-in-None c =
    sym (append-nil c.args.out.now)
    ∙ ap (λ texts. c.args.out.now ++ class_text (spaced texts)) (sym c.in-None.ensures.none)
