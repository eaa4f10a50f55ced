-- The words of a line, and the numbers among them (own): words have spaces between them, and perhaps at both ends; a
-- number is 1 to 18 decimal digits, zeros before it among these.
use Rattle.std.specs.Prelude.{◌≡◌, ◌≤◌, ◌==◌, ◌++◌, ℕ, Bool, true, List, [], ◌∷◌, length}
use Rattle.std.specs.Fmt.{decimal}
use Rattle.std.specs.List.{list_all}
use Rattle.dita_doc.specs.Bytes.{space, digit_zero, is_space}

-- a run of spaces, perhaps empty
abbrev pub AreSpaces : List ℕ → Type 0
AreSpaces gap = list_all is_space gap ≡ true

-- what stands behind a word: spaces alone, or a space, perhaps more, and the next word
abbrev pub AreBehind : List (List ℕ) → List ℕ → Type 0
AreBehind [] rest = AreSpaces rest
AreBehind (word ∷ words) rest = (gap more : List ℕ) × AreSpaces gap × (rest ≡ space ∷ gap ++ word ++ more)
    × AreBehind words more

-- a line of these words
abbrev pub IsLineOf : List (List ℕ) → List ℕ → Type 0
IsLineOf [] line = AreSpaces line
IsLineOf (word ∷ words) line = (gap rest : List ℕ) × AreSpaces gap × (line ≡ gap ++ word ++ rest)
    × AreBehind words rest

abbrev pub is_zero : ℕ → Bool
is_zero b = b == digit_zero

-- a word that says a number
pub record SaysNumber (number : ℕ) (word : List ℕ) : Type 0 where
  pub zeros : List ℕ
  pub are : list_all is_zero zeros ≡ true
  pub is : word ≡ zeros ++ decimal number
  pub short : length word ≤ 18
