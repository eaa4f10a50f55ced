-- The number that a text is, by what `parse` reads.
use Rattle.std.specs.Prelude.{◌≡◌, ◌<◌, ◌&&◌, ◌^◌, ℕ, Bool, true, false, List, nat_le, nat_lt, if◌then◌else◌}
use Rattle.std.specs.Str.Parse.{IsNumeral, digits_value, without_leading_plus}
use Rattle.std.proofs.Common.{refl, sym, ap, ◌∙◌, arith}
use Rattle.std.proofs.lemmas.Bool.{and_parts}
use Rattle.clap.specs.ValueTests.{is_numeral, is_unsigned_in}
use Rattle.clap.specs.declared.builder.value_parser.ValueParser.TheVariants as values
use Rattle.clap.proofs.ValueTestLemmas.{Accepts-accepts, accepts-Accepts}
use Rattle.command_line.specs.Command.{number_in}

-- a text is a number of 64 bits
abbrev pub IsWritten : List ℕ → Type 0
IsWritten digits = IsNumeral 10 digits × (digits_value 10 digits < 2 ^ 64)

-- then the test of its bounds is left
bounds_left : (least most : ℕ) (text : List ℕ) → IsWritten (without_leading_plus text)
    → is_unsigned_in least most text
    ≡ (nat_le least (digits_value 10 (without_leading_plus text))
    && nat_le (digits_value 10 (without_leading_plus text)) most)
bounds_left least most text is =
    let digits = without_leading_plus text in
    let whole = Accepts-accepts false (values.Unsigned 0 18446744073709551615) text (is.0, is.1, omega arith, omega (arith, is.1)) in
    let first = and_parts (is_numeral digits) _ whole in
    let second = and_parts (nat_lt (digits_value 10 digits) (2 ^ 64)) _ first.1 in
    rw (first.0, second.0) refl

-- a number that was read
pub number_said : (least most : ℕ) (text : List ℕ) (number : ℕ)
    → IsWritten (without_leading_plus text) × (number ≡ digits_value 10 (without_leading_plus text))
    → (if nat_le least number && nat_le number most then number else least) ≡ number_in least most text
number_said least most text number reads =
    let digits = without_leading_plus text in
    ap (λ (n : ℕ). if nat_le least n && nat_le n most then n else least) reads.1
    ∙ ap (λ (test : Bool). if test then digits_value 10 digits else least) (sym (bounds_left least most text reads.0))

-- a text that is no number of 64 bits
pub not_said : (least most : ℕ) (text : List ℕ) → (IsWritten (without_leading_plus text) → ⊥)
    → least ≡ number_in least most text
not_said least most text none = by_test (is_unsigned_in least most text) refl
  where
    by_test : (test : Bool) → is_unsigned_in least most text ≡ test → least ≡ number_in least most text
    by_test true accepted =
        let is = accepts-Accepts false (values.Unsigned least most) text accepted in absurd (none (is.0, is.1))
    by_test false refused =
        sym (ap (λ (test : Bool). if test then digits_value 10 (without_leading_plus text) else least) refused)
