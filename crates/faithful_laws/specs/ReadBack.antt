-- What the reading of a faithful text gives.
use Rattle.std.specs.Prelude.{◌≡◌, ℕ}
use Rattle.dita_doc.specs.Bytes.{Bytes}
use Rattle.transcript_text.specs.Read.{IsBadAt, IsRead}
use Rattle.transcript_text.specs.Told.{told}
use Rattle.transcript_text.specs.Transcript as shown
use Rattle.transcript_text.specs.declared.transcript.Transcript.{Transcript}

-- the text is read as what this transcript tells, and as nothing else; and no line of it is named as a fault
pub record IsReadAs (text : Bytes) (own : shown.Transcript) : Type 0 where
  pub read : IsRead (told own) text
  pub alone : (transcript : Transcript) → IsRead transcript text → transcript ≡ told own
  pub faultless : (number : ℕ) → IsBadAt text number → ⊥
