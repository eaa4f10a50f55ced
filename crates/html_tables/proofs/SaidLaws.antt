-- How many rows a value says, by what `parse` reads.
use Rattle.std.specs.Prelude.{◌≡◌, ◌+◌, ◌<◌, ◌==◌, ◌&&◌, ◌^◌, ℕ, Bool, true, false, not, List, [], ◌∷◌, length, nat_le, if◌then◌else◌}
use Rattle.std.specs.Char.{digit_value}
use Rattle.std.specs.List.{list_all}
use Rattle.std.specs.Str.Parse.{AllDigits, IsNumeral, digits_value, without_leading_plus}
use Rattle.std.proofs.Common.{refl, sym, ap, ◌∙◌, subst, arith}
use Rattle.std.proofs.lemmas.Bool.{and_parts, false≢true, leb-true}
use Rattle.std.proofs.lemmas.Bool.Decides.{nat_tests}
use Rattle.std.proofs.lemmas.Str.{digit_value_digit}
use Rattle.dita_doc.specs.Bytes.{is_digit}
use Rattle.dita_doc.proofs.LackLaws.{no_equal}
use Rattle.html_spec.specs.Tables.{is_decimal, row_limit, rows_said}

below_ten : (b : ℕ) → is_digit b ≡ true → digit_value b < 10
below_ten b e =
    let parts = and_parts (nat_le 48 b) (nat_le b 57) e in
    let low = leb-true 48 b parts.0 in
    let high = leb-true b 57 parts.1 in
    let same = digit_value_digit b (low, high) in
    omega arith

all_digits : (text : List ℕ) → list_all is_digit text ≡ true → AllDigits 10 text
all_digits [] e = tt
all_digits (b ∷ text) e =
    let parts = and_parts (is_digit b) (list_all is_digit text) e in
    (below_ten b parts.0, all_digits text parts.1)

-- no plus stands before a digit
no_plus : (text : List ℕ) → list_all is_digit text ≡ true → without_leading_plus text ≡ text
no_plus [] e = refl
no_plus (b ∷ text) e =
    let parts = and_parts (is_digit b) (list_all is_digit text) e in
    let low = leb-true 48 b (and_parts (nat_le 48 b) (nat_le b 57) parts.0).0 in
    let other : (b == 43) ≡ false = no_equal b 43 (λ same. omega arith) in
    rw other refl

-- no number is none
pub not_said : (text : List ℕ) → false ≡ is_decimal text → 1 ≡ rows_said text
not_said text e = rw (← e) refl

rows_by : (n : ℕ) → (if nat_le n row_limit then n + 1 else 1)
    ≡ (if nat_le 1 n && nat_le n row_limit then n + 1 else 1)
rows_by n = grind (arith, nat_tests)

too_many : (n : ℕ) (within : Bool) → nat_le n row_limit ≡ within → (n < 2 ^ 32 → ⊥) → 1 ≡ (if within then n + 1 else 1)
too_many n false e many = refl
too_many n true e many = let low = leb-true n row_limit e in absurd (many (omega arith))

some_text : (text : List ℕ) → not (length text == 0) ≡ true → 0 < length text
some_text [] e = absurd (false≢true e)
some_text (b ∷ text) e = omega arith

-- a text and a number that it writes
abbrev pub Writes : List ℕ → Type 0
Writes text = IsNumeral 10 text × (digits_value 10 text < 2 ^ 32)

module _ (text : List ℕ) (decimal : true ≡ is_decimal text) where
  parts : (not (length text == 0) ≡ true) × (list_all is_digit text ≡ true)
  parts = and_parts (not (length text == 0)) (list_all is_digit text) (sym decimal)

  said_by : (if nat_le (digits_value 10 text) row_limit then digits_value 10 text + 1 else 1) ≡ rows_said text
  said_by = rw (← decimal) (rows_by (digits_value 10 text))

  -- a number that was read
  pub said : (more : ℕ) → Writes (without_leading_plus text) × (more ≡ digits_value 10 (without_leading_plus text))
      → (if nat_le more row_limit then more + 1 else 1) ≡ rows_said text
  said more reads =
      let same : more ≡ digits_value 10 text = reads.1 ∙ ap (digits_value 10) (no_plus text parts.1) in
      ap (λ n. if nat_le n row_limit then n + 1 else 1) same ∙ said_by

  -- a number that is too long to be read
  pub too_long : (Writes (without_leading_plus text) → ⊥) → 1 ≡ rows_said text
  too_long none =
      let many : digits_value 10 text < 2 ^ 32 → ⊥ = λ small. none (
      subst Writes (sym (no_plus text parts.1)) ((some_text text parts.0, all_digits text parts.1), small)
      ) in
      too_many (digits_value 10 text) (nat_le (digits_value 10 text) row_limit) refl many ∙ said_by
