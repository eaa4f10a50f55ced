use Rattle.std.proofs.Common.{sym}
use Rattle.html_blocks.specs.Marks.{texts_of}
use Rattle.html_blocks.proofs.MarkLaws.{class_of_none, class_of_some}
use Rattle.html_blocks.proofs.TagLaws.{text_as}
use Rattle.html_blocks.proofs.class.append_tag_class.Goals as goal

pub returns-then-is_empty : goal.returns-then-is_empty
returns-then-is_empty c = text_as c.append_marks.result c.args.out.now c.append_marks.new.out _ _
    (class_of_none (texts_of c.args.marks) c.args.class.now (sym c.if-is_empty.ensures)) c.append_marks.ensures

pub returns-else-is_empty : goal.returns-else-is_empty
returns-else-is_empty c = text_as c.append_texts.result c.args.out.now c.append_texts.new.out _ _
    (class_of_some (texts_of c.args.marks) c.args.class.now (sym c.if-is_empty.ensures)) c.append_texts.ensures
