-- What it says that two numbers, or two texts, are in order.
use Rattle.std.specs.BTreeMap.{is_at}
use Rattle.std.specs.FinMap.{nat_cmp-IsAntisymmetric}
use Rattle.std.specs.Ordering.{is_eq, nat_cmp, ordering_then}
use Rattle.std.specs.Prelude.{List, bytes_eq, true, ℕ, ◌==◌, ◌≡◌}
use Rattle.std.proofs.Common.{Equal, Greater, Less, Ordering, ap, arith, refl, sym, ◌∙◌}
use Rattle.std.proofs.lemmas.Bool.{eqb-true}
use Rattle.std.proofs.lemmas.Bool.Decides.{nat_tests}
use Rattle.std.proofs.lemmas.Cmp.{nat_cmp_total, tied_itself}
use Rattle.dita_doc.proofs.NameOrder.{same_from_equal}
use Rattle.dita_doc.proofs.Tests.{by_truth}
use Rattle.std.specs.Cmp.Lexicographic.{slice_cmp, texts_ties}

pub equal_test : (o : Ordering) → is_eq o ≡ true → o ≡ Equal
equal_test Equal same = refl
equal_test Less same = cc
equal_test Greater same = cc

pub both_equal : (x y : Ordering) → ordering_then x y ≡ Equal → (x ≡ Equal) × (y ≡ Equal)
both_equal Equal y same = (refl, same)
both_equal Less y same = cc
both_equal Greater y same = cc

pub equal_number : (n k : ℕ) → nat_cmp n k ≡ Equal → n ≡ k
equal_number n k is = grind (arith, nat_tests)

pub numbers_same : (a b : ℕ) → is_eq (nat_cmp a b) ≡ (a == b)
numbers_same a b = by_truth (is_eq (nat_cmp a b)) (a == b)
    (λ e. let same = nat_cmp-IsAntisymmetric a b (equal_test (nat_cmp a b) e) in grind (arith, nat_tests))
    (λ e. ap (λ n. is_eq (nat_cmp n b)) (eqb-true a b e) ∙ ap is_eq (tied_itself nat_cmp_total b))

-- a number is at itself alone
pub at_number : (n k : ℕ) → is_at (nat_cmp n) k ≡ (n == k)
at_number n k = numbers_same n k

-- the names are the same
pub same_at : (name other : List ℕ) → is_at (slice_cmp nat_cmp name) other ≡ true → name ≡ other
same_at name other at = same_from_equal name other (equal_test (slice_cmp nat_cmp name other) at)

pub at_text : (name word : List ℕ) → is_at (slice_cmp nat_cmp word) name ≡ bytes_eq word name
at_text name word = sym (texts_ties word name)
