-- What the reading of bytes says of them.
use Rattle.std.specs.Prelude.{◌≡◌, ◌<◌, ◌⊎◌, ℕ, List, ◌++◌, length, take}
use Rattle.std.specs.List.{flat_map}
use Rattle.dita_doc.specs.declared.stop.Stop.{Stop}
use Rattle.dita_doc.specs.declared.stop.Stop.TheVariants.{Fault, NoMemory}
use Rattle.dita_doc.specs.Lines.{lines_of, line}
use Rattle.transcript_text.specs.Transcript.{IsTranscript, transcript_text}
use Rattle.transcript_text.specs.Transcript as shown
use Rattle.transcript_text.specs.declared.transcript.Transcript.{Transcript}
use Rattle.transcript_text.specs.declared.transcript.BadTranscript.{BadTranscript}
use Rattle.transcript_text.specs.Told.{told}

-- the bytes are the text of a valid transcript, and this is what it tells
abbrev pub IsRead : Transcript → List ℕ → Type 0
IsRead transcript bytes = (s : shown.Transcript) × IsTranscript s × (bytes ≡ transcript_text s) × (transcript ≡ told s)

-- the text of some valid transcript begins so
abbrev pub Begins : List ℕ → Type 0
Begins front = (s : shown.Transcript) × IsTranscript s × (rest : List ℕ) × (transcript_text s ≡ front ++ rest)

-- the first lines, each with its LF
abbrev pub first_lines : ℕ → List ℕ → List ℕ
first_lines count bytes = flat_map line (take count (lines_of bytes))

-- The bytes are no transcript. The first line that no transcript has behind the lines before it; if there is none, the
-- last line, since the text ends too early. A rest without LF is a line.
pub record IsBadAt (bytes : List ℕ) (number : ℕ) : Type 0 where
  pub none : (s : shown.Transcript) → IsTranscript s → transcript_text s ≡ bytes → ⊥
  pub before : (m : ℕ) → m < number → Begins (first_lines m bytes)
  pub there : (number ≡ length (lines_of bytes)) ⊎ (Begins (first_lines number bytes) → ⊥)

-- out of memory, nothing is said of the bytes
abbrev pub IsFaultOf : Stop BadTranscript → List ℕ → Type 0
IsFaultOf (Fault bad) bytes = IsBadAt bytes bad.line
IsFaultOf NoMemory bytes = Unit {0}

-- the fault of a line, if it can be named
abbrev pub IsLine : Stop BadTranscript → ℕ → Type 0
IsLine (Fault bad) number = bad.line ≡ number
IsLine NoMemory number = Unit {0}
