-- What `&&`, `||` and `not` say, and the tests of numbers and of texts.
use Rattle.std.specs.Prelude.{Bool, List, None, Some, bytes_eq, cond, false, if◌then◌else◌, nat_lt, not, suc, true, ℕ, ◌&&◌, ◌+◌, ◌==◌, ◌||◌, ◌≡◌, ◌≢◌, ◌≤◌}
use Rattle.std.proofs.Common.{ap, arith, refl, sym}
use Rattle.std.proofs.lemmas.Bool.{false_from_ne_true}
use Rattle.std.proofs.lemmas.Bool.Decides.{nat_tests}
use Rattle.std.proofs.lemmas.Slice.Eq.{bytes_eq-Decides}
use Rattle.dita_doc.proofs.LackLaws.{no_equal}

-- Truth

-- two tests that hold in the same cases
pub by_truth : (a b : Bool) → (a ≡ true → b ≡ true) → (b ≡ true → a ≡ true) → a ≡ b
by_truth true b there back = sym (there refl)
by_truth false true there back = back refl
by_truth false false there back = refl

pub first_holds : (a b : Bool) → (a && b) ≡ true → a ≡ true
first_holds true b both = refl
first_holds false b both = cc

pub second_holds : (a b : Bool) → (a && b) ≡ true → b ≡ true
second_holds true b both = both
second_holds false b both = cc

pub and_false : (a : Bool) → (a && false) ≡ false
and_false true = refl
and_false false = refl

pub and_true : (a : Bool) → (a && true) ≡ a
and_true true = refl
and_true false = refl

pub and_swap : (a b : Bool) → (a && b) ≡ (b && a)
and_swap true true = refl
and_swap true false = refl
and_swap false true = refl
and_swap false false = refl

pub and_assoc : (a b c : Bool) → (a && (b && c)) ≡ ((a && b) && c)
and_assoc true b c = refl
and_assoc false b c = refl

pub or_false : (b : Bool) → (b || false) ≡ b
or_false true = refl
or_false false = refl

pub or_true : (a : Bool) → (a || true) ≡ true
or_true true = refl
or_true false = refl

pub or_assoc : (a b c : Bool) → ((a || b) || c) ≡ (a || (b || c))
or_assoc true b c = refl
or_assoc false b c = refl

pub or_twice : (a b : Bool) → (a || b) ≡ (a || (a || b))
or_twice true b = refl
or_twice false b = refl

pub or_swap : (a b c : Bool) → (a || (b || c)) ≡ (b || (a || c))
or_swap true true c = refl
or_swap true false c = refl
or_swap false true c = refl
or_swap false false c = refl

pub or_last : (a b : Bool) → (a || b) ≡ (b || (a || false))
or_last true true = refl
or_last true false = refl
or_last false true = refl
or_last false false = refl

pub or_first : (a b : Bool) → (a || b) ≡ false → a ≡ false
or_first true b e = e
or_first false b e = refl

pub or_second : (a b : Bool) → (a || b) ≡ false → b ≡ false
or_second true b e = cc
or_second false b e = e

pub cond_or : (a b : Bool) → cond a true b ≡ (a || b)
cond_or true b = refl
cond_or false b = refl

pub not_either : (a b : Bool) → (not b && not a) ≡ not (a || (b || false))
not_either true true = refl
not_either true false = refl
not_either false true = refl
not_either false false = refl

pub not_true : (b c : Bool) → c ≡ true → c ≡ not b → b ≡ false
not_true true c is same = cc
not_true false c is same = refl

pub not_false : (b c : Bool) → c ≡ false → c ≡ not b → b ≡ true
not_false true c is same = refl
not_false false c is same = cc

pub or_again : (a b c : Bool) → a ≡ b → (b || c) ≡ (a || (b || c))
or_again true b c e = sym (ap (λ d. d || c) e)
or_again false b c e = refl

pub or_moves : (a b c d : Bool) → d ≡ (b || c) → (a || d) ≡ (b || (a || c))
or_moves true true c d e = refl
or_moves true false c d e = refl
or_moves false b c d e = e

pub or_four : (a b c d : Bool) → ((a || b) || (c || d)) ≡ ((a || c) || (b || d))
or_four true b c d = refl
or_four false true true d = refl
or_four false true false d = refl
or_four false false c d = refl

-- Numbers

pub number_itself : (n : ℕ) → (n == n) ≡ true
number_itself n = grind (arith, nat_tests)

pub number_swaps : (a b : ℕ) → (a == b) ≡ (b == a)
number_swaps a b = grind (arith, nat_tests)

pub not_zero : (n : ℕ) → (suc n == 0) ≡ false
not_zero n = no_equal (suc n) 0 (λ same. omega arith)

pub less_before : (end i j : ℕ) → i ≤ j → nat_lt j end ≡ true → nat_lt i end ≡ true
less_before end i j less is = grind (arith, nat_tests)

pub place_next : (at n : ℕ) → at + suc n ≡ at + 1 + n
place_next at n = omega arith

pub nothing_more : (at : ℕ) → at + 0 ≡ at
nothing_more at = omega arith

pub from_zero : (n : ℕ) → n ≡ 0 + n
from_zero n = omega arith

pub zeroth : (n : ℕ) → Some (0 + n) ≡ Some n
zeroth n = let e : 0 + n ≡ n = omega arith in ap (λ k. Some k) e

pub one_further : (from at : ℕ) → from + 1 + at ≡ from + suc at
one_further from at = omega arith

pub told_if : (test : Bool) (value number : ℕ) → (if test then Some value else None) ≡ Some number
    → (test ≡ true) × (value ≡ number)
told_if true value number e = (refl, cc)
told_if false value number e = absurd (cc)

-- Texts

pub text_swaps : (a b : List ℕ) → bytes_eq a b ≡ bytes_eq b a
text_swaps a b = by_truth (bytes_eq a b) (bytes_eq b a)
    (λ e. (bytes_eq-Decides b a).1 (sym ((bytes_eq-Decides a b).0 e)))
    (λ e. (bytes_eq-Decides a b).1 (sym ((bytes_eq-Decides b a).0 e)))

pub same_text : (a b : List ℕ) → bytes_eq a b ≡ true → a ≡ b
same_text a b e = (bytes_eq-Decides a b).0 e

pub equal_text : (a b : List ℕ) → a ≡ b → bytes_eq a b ≡ true
equal_text a b e = (bytes_eq-Decides a b).1 e

-- a text that is not this one
pub other_text : (text other : List ℕ) → text ≢ other → bytes_eq text other ≡ false
other_text text other differs = false_from_ne_true _ (λ e. differs ((bytes_eq-Decides text other).0 e))
