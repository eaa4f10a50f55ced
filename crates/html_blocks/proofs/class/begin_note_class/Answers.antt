use Rattle.std.proofs.Common.{refl}
use Rattle.html_blocks.specs.Opened.{note_begun}
use Rattle.html_blocks.proofs.TagLaws.{text_then}
use Rattle.html_blocks.proofs.class.begin_note_class.Goals as goal

pub returns : goal.returns
returns c = text_then c.append_kind.result c.args.out.now c.append.new.self c.append_kind.new.out _ _
    (note_begun c.args.kind.now) c.in_ok-append.ensures refl c.append_kind.ensures
