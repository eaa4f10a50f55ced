-- The words of a line, taken one after the other.
use Rattle.std.specs.Prelude.{◌≡◌, ℕ, List, [], ◌∷◌, Option, Some, None}
use Rattle.dita_doc.specs.Bytes.{spaced_words}

-- the first word of a line, and what stands behind it
abbrev pub BeginsWord : (line word rest : List ℕ) → Type 0
BeginsWord line word rest = spaced_words line ≡ word ∷ spaced_words rest

-- the word, if it is the only one
abbrev pub only : List (List ℕ) → Option (List ℕ)
only [] = None
only (word ∷ []) = Some word
only (word ∷ other ∷ words) = None
