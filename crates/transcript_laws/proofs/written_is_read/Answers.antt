use Rattle.std.proofs.Common.{ap, sym, ◌∙◌}
use Rattle.transcript_text.specs.Told.{told}
use Rattle.transcript_laws.proofs.OnceLaws.{one_transcript}
use Rattle.transcript_laws.proofs.written_is_read.Goals as goal

pub returns : goal.returns
returns c = record {
  once = one_transcript;
  read = λ s transcript is read. read.3 ∙ ap told (one_transcript read.0 s read.1 is (sym read.2));
}
