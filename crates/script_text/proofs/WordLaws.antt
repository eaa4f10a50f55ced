-- The words of a line, and the numbers that words are.
use Rattle.std.specs.Prelude.{◌≡◌, ◌==◌, ◌+◌, ◌-◌, ◌*◌, ◌^◌, ◌<◌, ◌≤◌, ℕ, zero, suc, true, false, List, [], ◌∷◌, length, nat_le, drop}
use Rattle.std.specs.List.{list_all}
use Rattle.std.proofs.Common.{refl, arith, get_or, add-one}
use Rattle.std.proofs.Math.Nat.{pow-suc, pow-le-pow_right}
use Rattle.std.proofs.Math.Seq.{drop-cons}
use Rattle.std.proofs.lemmas.Bool.{and_parts, leb-true}
use Rattle.dita_doc.specs.Cut.{Lacks, IsCutAt}
use Rattle.dita_doc.specs.Bytes.{space, is_space, is_digit, spaced_words}
use Rattle.dita_doc.proofs.PartLaws.{parts_after, one_part}
use Rattle.script_text.specs.Script.{value_after}

-- a part that is not empty is the first word
pub word_first : (bytes word rest : List ℕ) → IsCutAt space bytes word rest → false ≡ (length word == 0)
    → spaced_words bytes ≡ word ∷ spaced_words rest
word_first bytes word rest cut e = rw (cut.whole, parts_after is_space word rest space refl cut.first, ← e)

-- bytes without spaces are one word
pub one_word : (bytes : List ℕ) → Lacks space bytes → false ≡ (length bytes == 0) → spaced_words bytes ≡ bytes ∷ []
one_word bytes lacks e = rw (one_part is_space bytes lacks, ← e)

-- a number of so many digits, and one digit more
pub digit_more : (value digit places : ℕ) → value < 10 ^ places → places < 18 → digit < 10
    → (value * 10 + digit < 10 ^ 18) × (value * 10 + digit < 10 ^ (places + 1))
digit_more value digit places small few one =
    let step : 10 ^ (places + 1) ≡ 10 ^ places * 10 = rw (add-one, pow-suc 10 places) in
    let most : 10 ^ (places + 1) ≤ 10 ^ 18 =
    pow-le-pow_right {n = 10} (omega arith) {i = places + 1} {j = 18} (omega arith) in
    (omega arith, omega arith)

-- a digit is below ten
digit_by : (b : ℕ) → is_digit b ≡ true → b - 48 < 10
digit_by b e =
    let most = leb-true b 57 (and_parts (nat_le 48 b) (nat_le b 57) e).1 in
    omega arith

pub digit_at : (word : List ℕ) (place : ℕ) → list_all is_digit word ≡ true → place < length word
    → get_or word place 0 - 48 < 10
digit_at [] place all inside = absurd (omega arith)
digit_at (b ∷ word) zero all inside = digit_by b (and_parts (is_digit b) (list_all is_digit word) all).0
digit_at (b ∷ word) (suc place) all inside =
    digit_at word place (and_parts (is_digit b) (list_all is_digit word) all).1 (omega arith)

-- the value, read one digit further
pub value_step : (value : ℕ) (word : List ℕ) (place : ℕ) → place < length word
    → value_after value (drop place word)
    ≡ value_after (value * 10 + (get_or word place 0 - 48)) (drop (place + 1) word)
value_step value word place inside = rw (add-one, drop-cons word place 0 inside)
