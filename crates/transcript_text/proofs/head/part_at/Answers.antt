use Rattle.std.proofs.Common.{refl, ap}
use Rattle.transcript_text.specs.Transcript.{IsPage}
use Rattle.transcript_text.specs.Heads.{part_word}
use Rattle.transcript_text.proofs.head.part_at.Goals as goal

pub returns-then-is_page : goal.returns-then-is_page
returns-then-is_page c = (IsPage c.args.index, refl, ap part_word c.if-is_page.true, refl)
