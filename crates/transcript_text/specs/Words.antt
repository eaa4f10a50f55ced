-- The words of a line, with one space between each two, and the words that are numbers.
use Rattle.std.specs.Prelude.{◌≡◌, ◌≢◌, ◌<◌, ◌&&◌, ◌^◌, ℕ, List, [], Option, Some, None, length, slice_index, nat_lt, bytes_eq, if◌then◌else◌}
use Rattle.std.specs.Borrow.{Bor}
use Rattle.std.specs.Fmt.{decimal}
use Rattle.std.specs.Str.Parse.{digits_value}
use Rattle.dita_doc.specs.Bytes.{Bytes, plus_sign, digit_zero, spaced_parts}

-- the lines of a text as contracts see them, without their LF
abbrev pub TextLines : Type 0
TextLines = List Bytes

-- the words of a line
abbrev pub Words : Type 0
Words = List Bytes

-- the words of the rest of a line, if there is one
abbrev pub words_in : Option (Bor Bytes) → Words
words_in None = []
words_in (Some rest) = spaced_parts rest.now

-- the number of so many bits at most whose decimal the word is
abbrev pub number_of : ℕ → Bytes → Option ℕ
number_of bits word =
    if nat_lt (digits_value 10 word) (2 ^ bits) && bytes_eq (decimal (digits_value 10 word)) word then Some
    (digits_value 10 word) else None

-- a word that is not empty, and has no plus and no zero before other bytes
pub record IsPlain (word : Bytes) : Type 0 where
  pub some : 0 < length word
  pub unsigned : slice_index word 0 ≢ plus_sign
  pub zero_alone : slice_index word 0 ≡ digit_zero → length word ≡ 1
