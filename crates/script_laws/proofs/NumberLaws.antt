-- The words that say a number are those that are read as this number.
use Rattle.std.specs.Prelude.{◌≡◌, ◌==◌, ◌+◌, ◌*◌, ◌/◌, ◌%◌, ◌^◌, ◌<◌, ◌≤◌, ◌++◌, ℕ, zero, suc, Bool, true, false, List, [], ◌∷◌, Some, length}
use Rattle.std.specs.Fmt.{decimal, digits, digits_onto, digit_glyph}
use Rattle.std.specs.List.{list_all, list_any}
use Rattle.std.proofs.Common.{refl, inl, inr, sym, ap, subst, ◌∙◌, arith, get_or, rules, length-append}
use Rattle.std.proofs.Math.Nat.{pow-suc, pow-le-pow_right}
use Rattle.std.proofs.lemmas.Bool.{and_parts, and_from, cases_lt, cond_both, eqb-true, leb-true, le-leb, or_from}
use Rattle.std.proofs.lemmas.Bool.Decides.{nat_tests}
use Rattle.std.proofs.lemmas.Fmt.{digits_decimal, digits_value-decimal, decimal-digits_value, decimal_nonempty}
use Rattle.std.proofs.lemmas.List.Folds.{list_all-append}
use Rattle.std.proofs.lemmas.Str.Parse.{IsNumeralModel, numerals_by_fold, digits_value_short}
use Rattle.dita_doc.specs.Bytes.{is_space, is_digit, has_bytes}
use Rattle.dita_doc.proofs.Tests.{told_if}
use Rattle.script_text.specs.Script.{number_of, value_after}
use Rattle.script_laws.specs.Words.{is_zero, SaysNumber}
use Rattle.script_laws.proofs.WordLaws.{IsWord}

-- texts of digits and their values, in this crate's words
own : IsNumeralModel (λ word. list_all is_digit word ≡ true) (value_after 0)
own = numerals_by_fold _ (search rules) value_after (search rules)

-- How long numbers are

kept_onto : (k n : ℕ) (behind : List ℕ) → length behind ≤ length (digits_onto k 10 false n behind)
kept_onto zero n behind = omega arith
kept_onto (suc k) n behind =
    let digit = digit_glyph false (n % 10) in
    cond_both (n / 10 == 0) (digit ∷ behind) (digits_onto k 10 false (n / 10) (digit ∷ behind))
    (λ ds. length behind ≤ length ds) (λ e. omega arith) (λ e. omega (arith, kept_onto k (n / 10) (digit ∷ behind)))

long_onto : (k n places : ℕ) (behind : List ℕ) → places < k → 10 ^ places ≤ n
    → places + length behind < length (digits_onto k 10 false n behind)
long_onto zero n places behind few high = absurd (omega arith)
long_onto (suc k) n zero behind few high =
    let digit = digit_glyph false (n % 10) in
    cond_both (n / 10 == 0) (digit ∷ behind) (digits_onto k 10 false (n / 10) (digit ∷ behind))
    (λ ds. 0 + length behind < length ds) (λ e. omega arith)
    (λ e. omega (arith, kept_onto k (n / 10) (digit ∷ behind)))
long_onto (suc k) n (suc places) behind few high =
    let digit = digit_glyph false (n % 10) in
    let more : 10 ^ places * 10 ≤ n = rw pow-suc at high in
    let rest : 10 ^ places ≤ n / 10 = omega arith in
    let some : 1 ≤ 10 ^ places = pow-le-pow_right {n = 10} (omega arith) {i = 0} {j = places} (omega arith) in
    cond_both (n / 10 == 0) (digit ∷ behind) (digits_onto k 10 false (n / 10) (digit ∷ behind))
    (λ ds. suc places + length behind < length ds)
    (λ e. absurd (omega (arith, eqb-true (n / 10) 0 e)))
    (λ e. omega (arith, long_onto k (n / 10) places (digit ∷ behind) (omega arith) rest))

long_decimal : (n : ℕ) → 10 ^ 18 ≤ n → 18 < length (decimal n)
unfolding digits
long_decimal n high = omega (arith, long_onto 64 n 18 [] (omega arith) high)

-- a number of at most 18 digits is below 2 ^ 64
small_decimal : (n : ℕ) → length (decimal n) ≤ 18 → n < 2 ^ 64
small_decimal n short = elim (cases_lt n (10 ^ 18)) [
  | inl low ↦ omega arith
  | inr high ↦ absurd (omega (arith, long_decimal n high))
]

-- and so is one that a word says
small_said : (word : List ℕ) (number : ℕ) → SaysNumber number word → number < 2 ^ 64
small_said word number says =
    small_decimal number (omega (arith, length-append says.zeros (decimal number), ap length says.is, says.short))

-- Zeros before a number

zero_is : (b : ℕ) → is_zero b ≡ true → b ≡ 48
zero_is b e = grind (arith, nat_tests)

zero_digit : (b : ℕ) → is_zero b ≡ true → is_digit b ≡ true
zero_digit b e = rw (zero_is b e) refl

zeros_digits : (zeros : List ℕ) → list_all is_zero zeros ≡ true → list_all is_digit zeros ≡ true
zeros_digits [] all = refl
zeros_digits (b ∷ zeros) all =
    let parts = and_parts (is_zero b) (list_all is_zero zeros) all in
    and_from _ _ (zero_digit b parts.0) (zeros_digits zeros parts.1)

-- they do not change its value
zeros_value : (zeros digits : List ℕ) → list_all is_zero zeros ≡ true
    → value_after 0 (zeros ++ digits) ≡ value_after 0 digits
zeros_value [] digits all = refl
zeros_value (b ∷ zeros) digits all =
    let parts = and_parts (is_zero b) (list_all is_zero zeros) all in
    rw (zero_is b parts.0, zeros_value zeros digits parts.1) refl

-- What a word that says a number is

pub number_bytes : (word : List ℕ) (number : ℕ) → SaysNumber number word → list_all is_digit word ≡ true
number_bytes word number says =
    let small = small_said word number says in
    ap (list_all is_digit) says.is ∙ list_all-append is_digit says.zeros (decimal number)
    ∙ and_from _ _ (zeros_digits says.zeros says.are) (digits_decimal own number small)

-- digits are no spaces
no_spaces : (word : List ℕ) → list_all is_digit word ≡ true → list_any is_space word ≡ false
no_spaces [] all = refl
no_spaces (b ∷ word) all =
    let parts = and_parts (is_digit b) (list_all is_digit word) all in
    let low : 48 ≤ b = leb-true _ _ (and_parts _ _ parts.0).0 in
    let other : is_space b ≡ false = grind (arith, nat_tests) in
    or_from _ _ other (no_spaces word parts.1)

has_some : (word : List ℕ) → 1 ≤ length word → has_bytes word ≡ true
has_some word some = grind (arith, nat_tests)

number_some : (word : List ℕ) (number : ℕ) → SaysNumber number word → 1 ≤ length word
number_some word number says =
    let some : 0 < length (decimal number) = decimal_nonempty number (small_said word number says) in
    omega (arith, length-append says.zeros (decimal number), ap length says.is)

-- a word that says a number is a word
pub number_is_word : (word : List ℕ) (number : ℕ) → SaysNumber number word → IsWord word
number_is_word word number says =
    (has_some word (number_some word number says), no_spaces word (number_bytes word number says))

first_of_word : (word : List ℕ) → 1 ≤ length word → list_all is_digit word ≡ true
    → (first : ℕ) × (rest : List ℕ) × (word ≡ first ∷ rest) × (is_digit first ≡ true)
first_of_word [] some all = absurd (omega arith)
first_of_word (b ∷ word) some all = (b, word, refl, (and_parts _ _ all).0)

-- and its first byte is a digit
pub number_first : (word : List ℕ) (number : ℕ) → SaysNumber number word
    → (first : ℕ) × (rest : List ℕ) × (word ≡ first ∷ rest) × (is_digit first ≡ true)
number_first word number says =
    first_of_word word (number_some word number says) (number_bytes word number says)

-- Reading

read_if : (word : List ℕ) (number : ℕ) → 1 ≤ length word → length word ≤ 18 → list_all is_digit word ≡ true
    → value_after 0 word ≡ number → number_of word ≡ Some number
read_if word number some short all value =
    rw (le-leb 1 (length word) some, le-leb (length word) 18 short, all, value) refl

-- a word that says a number is read as it
pub number_said : (word : List ℕ) (number : ℕ) → SaysNumber number word → number_of word ≡ Some number
number_said word number says =
    read_if word number (number_some word number says) says.short (number_bytes word number says)
    (ap (value_after 0) says.is ∙ zeros_value says.zeros (decimal number) says.are
    ∙ digits_value-decimal own number (small_said word number says))

-- the digits without the zeros before them are the number's
own_number : (word : List ℕ) → list_all is_digit word ≡ true → 0 < length word → length word ≤ 18
    → (get_or word 0 0 ≡ 48 → length word ≡ 1) → SaysNumber (value_after 0 word) word
own_number word all some short alone =
    let low : value_after 0 word < 10 ^ 18 = digits_value_short own word 18 all short in
    let small : value_after 0 word < 2 ^ 64 = omega arith in
    record { zeros = []; are = refl; is = sym (decimal-digits_value own word all some alone small); short = short }

zero_more : (b number : ℕ) (word : List ℕ) → is_zero b ≡ true → length word < 18 → SaysNumber number word
    → SaysNumber number (b ∷ word)
zero_more b number word e short says =
    record {
      zeros = b ∷ says.zeros;
      are = and_from _ _ e says.are;
      is = ap (λ bytes. b ∷ bytes) says.is;
      short = omega arith;
    }

digits_say_by : (b c : ℕ) (word : List ℕ) (test : Bool) → is_zero b ≡ test → list_all is_digit (b ∷ c ∷ word) ≡ true
    → length (b ∷ c ∷ word) ≤ 18 → SaysNumber (value_after 0 (c ∷ word)) (c ∷ word)
    → SaysNumber (value_after 0 (b ∷ c ∷ word)) (b ∷ c ∷ word)
digits_say_by b c word true e all short more =
    let same : value_after 0 (c ∷ word) ≡ value_after 0 (b ∷ c ∷ word) =
    sym (zeros_value (b ∷ []) (c ∷ word) (and_from _ _ e refl)) in
    let P : ℕ → Type 0 = λ number. SaysNumber number (b ∷ c ∷ word) in
    subst P same (zero_more b _ (c ∷ word) e (omega arith) more)
digits_say_by b c word false e all short more =
    own_number (b ∷ c ∷ word) all (omega arith) short (λ is. absurd (grind (arith, nat_tests)))

digits_say : (word : List ℕ) → list_all is_digit word ≡ true → 0 < length word → length word ≤ 18
    → SaysNumber (value_after 0 word) word
digits_say [] all some short = absurd (omega arith)
digits_say (b ∷ []) all some short = own_number (b ∷ []) all some short (λ is. omega arith)
digits_say (b ∷ c ∷ word) all some short =
    digits_say_by b c word (is_zero b) refl all short
    (digits_say (c ∷ word) (and_parts (is_digit b) (list_all is_digit (c ∷ word)) all).1 (omega arith) (omega arith))

-- and a word that is read as a number says it
pub says_number : (word : List ℕ) (number : ℕ) → number_of word ≡ Some number → SaysNumber number word
says_number word number e =
    let told = told_if _ _ number e in
    let parts = and_parts _ _ told.0 in
    let front = and_parts _ _ parts.0 in
    let P : ℕ → Type 0 = λ n. SaysNumber n word in
    subst P told.1
    (digits_say word parts.1 (leb-true 1 (length word) front.0) (leb-true (length word) 18 front.1))
