-- Words that are numbers.
use Rattle.std.specs.Prelude.{◌≡◌, ◌<◌, ◌≤◌, ◌^◌, ◌&&◌, ℕ, zero, suc, true, List, ◌∷◌, Option, Some, None, Result, Ok, Err, MatchResult, nat_lt, bytes_eq, is_some, length, if◌then◌else◌}
use Rattle.std.specs.Borrow.{Bor}
use Rattle.std.specs.Fmt.{decimal}
use Rattle.std.specs.Str.{IsUtf8}
use Rattle.std.specs.Str.Parse.{AllDigits, digits_value, ParsesUnsigned}
use Rattle.std.specs.Result.{result_ok}
use Rattle.std.proofs.Common.{refl, sym, ap, subst, ◌∙◌, arith, get_or}
use Rattle.std.proofs.lemmas.Bool.{and_parts, ltb-true}
use Rattle.std.proofs.lemmas.Bool.Decides.{nat_tests}
use Rattle.std.proofs.lemmas.Slice.Eq.{bytes_eq-Decides}
use Rattle.std.proofs.lemmas.Str.Parse.{IsNumeralModel, numerals_by_value, tells_digits, parse_plain, not_in_digits}
use Rattle.std.proofs.lemmas.Fmt.{digits_value-decimal, digits_decimal, decimal-digits_value, parse-decimal, decimal_nonempty, first_decimal, decimal_digit, IsAscii-decimal}
use Rattle.std.proofs.lemmas.Str.{IsUtf8-from_ascii}
use Rattle.dita_doc.proofs.Tests.{told_if}
use Rattle.transcript_text.specs.Words.{number_of, IsPlain}

pub own : IsNumeralModel (AllDigits 10) (digits_value 10)
own = numerals_by_value (AllDigits 10) tells_digits

by_value : (bits n v : ℕ) (word : List ℕ) → v ≡ n → n < 2 ^ bits → word ≡ decimal n
    → (if nat_lt v (2 ^ bits) && bytes_eq (decimal v) word then Some v else None) ≡ Some n
by_value bits n v word same less is =
    let below : nat_lt n (2 ^ bits) ≡ true = grind (arith, nat_tests) in
    let equal : bytes_eq (decimal n) (decimal n) ≡ true = (bytes_eq-Decides (decimal n) (decimal n)).1 refl in
    rw (same, is, below, equal) refl

-- the word of a number is read as that number
pub number_is : (bits n : ℕ) (word : List ℕ) → n < 2 ^ bits → n < 2 ^ 64 → word ≡ decimal n
    → number_of bits word ≡ Some n
number_is bits n word less small is =
    let value : digits_value 10 word ≡ n = ap (digits_value 10) is ∙ digits_value-decimal own n small in
    by_value bits n (digits_value 10 word) word value less is

-- and a word that is read as a number is its word
pub number_says : (bits n : ℕ) (word : List ℕ) → number_of bits word ≡ Some n → (n < 2 ^ bits) × (decimal n ≡ word)
number_says bits n word e =
    let told = told_if _ _ n e in
    let parts = and_parts _ _ told.0 in
    let less : digits_value 10 word < 2 ^ bits = ltb-true _ _ parts.0 in
    let equal : decimal (digits_value 10 word) ≡ word = (bytes_eq-Decides _ _).0 parts.1 in
    (subst (λ m. m < 2 ^ bits) told.1 less, subst (λ m. decimal m ≡ word) told.1 equal)

-- the two sizes of numbers
pub number64_is : (n : ℕ) → n < 2 ^ 64 → number_of 64 (decimal n) ≡ Some n
number64_is n small = number_is 64 n (decimal n) small small refl

pub number32_is : (n : ℕ) → n < 2 ^ 32 → number_of 32 (decimal n) ≡ Some n
number32_is n less = let small : n < 2 ^ 64 = omega arith in number_is 32 n (decimal n) less small refl

-- what is read as some number is the word of one
pub number_there : (bits : ℕ) (word : List ℕ) (found : Option ℕ) → number_of bits word ≡ found → is_some found ≡ true
    → (n : ℕ) × (n < 2 ^ bits) × (decimal n ≡ word)
number_there bits word (Some n) is some = let says = number_says bits n word is in (n, says.0, says.1)
number_there bits word None is some = absurd (cc)

none_from : (r : Option ℕ) → ((n : ℕ) → r ≡ Some n → ⊥) → r ≡ None
none_from (Some n) none = absurd (none n refl)
none_from None none = refl

-- where it is no number's word, none is read
pub number_none : (bits : ℕ) (word : List ℕ) → ((n : ℕ) → n < 2 ^ bits → decimal n ≡ word → ⊥)
    → number_of bits word ≡ None
number_none bits word none =
    none_from (number_of bits word) (λ n e. let says = number_says bits n word e in none n says.0 says.1)

-- the decimals are plain
zero_alone : (n : ℕ) → n < 2 ^ 64 → get_or (decimal n) 0 0 ≡ 48 → length (decimal n) ≡ 1
zero_alone zero small first = rw (decimal_digit 0 (omega arith)) refl
zero_alone (suc n) small first =
    let some : 0 < suc n = omega arith in absurd (omega (arith, first_decimal (suc n) some small))

pub decimal_plain : (n : ℕ) → n < 2 ^ 64 → IsPlain (decimal n)
decimal_plain n small =
    let some = decimal_nonempty n small in
    record {
      some = some;
      unsigned = not_in_digits own (decimal n) 43 (digits_decimal own n small) (λ range. omega (arith, range.0)) 0 some;
      zero_alone = zero_alone n small;
    }

-- what `parse` reads of a plain word
pub parsed : {E : Type 0} (bits : ℕ) (word : List ℕ) (r : Result ℕ E) → bits ≤ 64 → 2 ^ bits ≤ 2 ^ 64
    → ParsesUnsigned bits 10 word r → IsPlain word → result_ok r ≡ number_of bits word
parsed {E} bits word (Ok v) few low reads plain =
    let told = parse_plain own {E = E} bits word (Ok v) reads plain.unsigned in
    let small : digits_value 10 word < 2 ^ 64 = omega (arith, told.0.2) in
    let is : decimal (digits_value 10 word) ≡ word =
    decimal-digits_value own word told.0.0 plain.some plain.zero_alone small in
    let less : digits_value 10 word < 2 ^ bits = told.0.2 in
    rw told.1 (sym (number_is bits (digits_value 10 word) word less small (sym is)))
parsed {E} bits word (Err e) few low reads plain =
    sym (number_none bits word
    (λ n less is. let small : n < 2 ^ 64 = omega arith in let same = parse-decimal bits n word (Err e) less small
    (sym is) reads in absurd (cc)))

-- what is no text is no number
pub no_text : {E : Type 0} (P : E → Type 0) (bits : ℕ) (word : List ℕ) (r : Result (Bor (List ℕ)) E) → bits ≤ 64
    → 2 ^ bits ≤ 2 ^ 64
    → MatchResult r (λ text. (text.now ≡ word) × IsUtf8 word) (λ e. (IsUtf8 word → ⊥) × P e) → None ≡ result_ok r
    → number_of bits word ≡ None
no_text P bits word (Ok text) few low told none = absurd (cc)
no_text P bits word (Err e) few low told none =
    number_none bits word
    (λ n less is. let small : n < 2 ^ 64 = omega arith in told.0
    (subst IsUtf8 is (IsUtf8-from_ascii (decimal n) (IsAscii-decimal n small))))

-- and the text of what is one is the word
pub text_is : {E : Type 0} (P : E → Type 0) (word : List ℕ) (text : Bor (List ℕ)) (r : Result (Bor (List ℕ)) E)
    → MatchResult r (λ text. (text.now ≡ word) × IsUtf8 word) (λ e. (IsUtf8 word → ⊥) × P e) → Some text ≡ result_ok r
    → text.now ≡ word
text_is P word text (Ok other) told some = let same : text ≡ other = cc in rw same told.0
text_is P word text (Err e) told some = absurd (cc)

-- a word that is no plain one is no number
pub not_plain : (bits : ℕ) (word : List ℕ) → 2 ^ bits ≤ 2 ^ 64 → (IsPlain word → ⊥) → number_of bits word ≡ None
not_plain bits word low none =
    number_none bits word
    (λ n less is. let small : n < 2 ^ 64 = omega arith in none (subst IsPlain is (decimal_plain n small)))

-- no number stands first where the first word is read as none
pub not_taken : (bits n : ℕ) (word : List ℕ) (words rest more : List (List ℕ)) → words ≡ word ∷ rest
    → None ≡ number_of bits word → n < 2 ^ bits → n < 2 ^ 64 → words ≡ decimal n ∷ more → ⊥
not_taken bits n word words rest more is none less small other = let same = number_is bits n word less small (cc) in cc
