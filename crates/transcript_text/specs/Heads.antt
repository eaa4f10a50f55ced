-- The words of the lines that begin an entry or a row, and of the last line.
use Rattle.std.specs.Prelude.{◌≡◌, ℕ, Bool, true, false, [], ◌∷◌, Option, Some, codes}
use Rattle.std.specs.Fmt.{decimal}
use Rattle.dita_doc.specs.declared.fact.Part.{Part}
use Rattle.dita_doc.specs.declared.fact.Part.TheVariants as parts
use Rattle.transcript_text.specs.Transcript.{Fits64, Fits32, IsNameShown, IsValShown, PartShown, IsPage, IsContents, part_text, part_index, val_text}
use Rattle.transcript_text.specs.declared.below.Below.{Below}
use Rattle.dita_doc.specs.Bytes.{Bytes, spaced_parts}
use Rattle.transcript_text.specs.Words.{Words}
use Rattle.transcript_text.specs.Below.{below_of}

-- the line begins an entry: three numbers, and a reply that says what stands below
pub record IsEntryLine (line : Bytes) (place session number : ℕ) (reply : Bytes) (below : Below) : Type 0 where
  pub place_fits : Fits64 place
  pub session_fits : Fits32 session
  pub number_fits : Fits32 number
  pub words : spaced_parts line ≡ codes "entry" ∷ decimal place ∷ decimal session ∷ decimal number ∷ spaced_parts reply
  pub said : below_of (spaced_parts reply) ≡ Some below

abbrev pub row_words : ℕ → PartShown → Bytes → Option Bytes → ℕ → Words
row_words serial part map val count =
    codes "row" ∷ decimal serial ∷ part_text part ∷ map ∷ val_text val ∷ decimal (part_index part) ∷ decimal count ∷ []

-- the line begins a row, with so many lines below
pub record IsRowLine (line : Bytes) (serial : ℕ) (part : PartShown) (map : Bytes) (val : Option Bytes)
    (count : ℕ) : Type 0 where
  pub serial_fits : Fits64 serial
  pub index_fits : Fits32 (part_index part)
  pub map_named : IsNameShown map
  pub val_named : IsValShown val
  pub count_fits : Fits64 count
  pub words : spaced_parts line ≡ row_words serial part map val count

-- a part as a key has it
abbrev pub part_seen : PartShown → Part
part_seen (IsPage index) = parts.Page index
part_seen IsContents = parts.Contents

-- the word of a page, or of the contents page
abbrev pub part_word : Bool → Bytes
part_word true = codes "page"
part_word false = codes "contents"

-- the line is the last one
pub record IsEndLine (line : Bytes) (entries made dropped : ℕ) : Type 0 where
  pub entries_fits : Fits64 entries
  pub made_fits : Fits64 made
  pub dropped_fits : Fits64 dropped
  pub words : spaced_parts line ≡ codes "end" ∷ decimal entries ∷ decimal made ∷ decimal dropped ∷ []
