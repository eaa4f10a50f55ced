-- What halving finds among the elements that declare names.
use Rattle.std.specs.Prelude.{◌≡◌, ◌<◌, ◌≤◌, ℕ, true, false, List, length, nat_le, nat_lt}
use Rattle.std.specs.List.Sorted.{IsPartitionPoint, IsPartitionedBy}
use Rattle.std.proofs.Common.{refl, subst, arith, ⊎_elim}
use Rattle.std.proofs.lemmas.Bool.{ltb-true, leb-true, cases_lt}
use Rattle.std.proofs.lemmas.Bool.Decides.{nat_tests}
use Rattle.ditaval_rules.specs.Declarations.{holds, lies_around, IsCut, AreLinked, end_at, place_at}
use Rattle.ditaval_rules.specs.declared.declarations.DeclaredEntry.{DeclaredEntry}

module _ (entries : List DeclaredEntry) (place count : ℕ) (fits : count ≤ length entries) where
  pub cut_to : IsPartitionPoint (λ (entry : DeclaredEntry). nat_le entry.place place ≡ true)
      (λ (entry : DeclaredEntry). nat_le entry.place place ≡ false) entries count
      → IsCut (holds place) entries place count
  cut_to part = record {
    stand = (fits, λ k d less. leb-true _ _ (part.0 k d (omega arith) less));
    passed = λ k d less ended.
        let past : nat_lt place (end_at entries k d) ≡ false = grind (arith, nat_tests) in
        rw (part.0 k d (omega arith) less, past) refl;
    reaches = λ k d less reaches.
        let more : nat_lt place (end_at entries k d) ≡ true = grind (arith, nat_tests) in
        rw (part.0 k d (omega arith) less, more) refl;
    behind = λ k d more less. rw (part.1 k d more less) refl;
  }

  pub cut_before : IsPartitionPoint (λ (entry : DeclaredEntry). nat_lt entry.place place ≡ true)
      (λ (entry : DeclaredEntry). nat_lt entry.place place ≡ false) entries count
      → IsCut (lies_around place) entries place count
  cut_before part = record {
    stand = (fits, λ k d less. let low = ltb-true _ _ (part.0 k d (omega arith) less) in omega arith);
    passed = λ k d less ended.
        let past : nat_lt place (end_at entries k d) ≡ false = grind (arith, nat_tests) in
        rw (part.0 k d (omega arith) less, past) refl;
    reaches = λ k d less reaches.
        let more : nat_lt place (end_at entries k d) ≡ true = grind (arith, nat_tests) in
        rw (part.0 k d (omega arith) less, more) refl;
    behind = λ k d more less. rw (part.1 k d more less) refl;
  }

rises : (entries : List DeclaredEntry) → AreLinked entries → (i j : ℕ) (d : DeclaredEntry) → i ≤ j → j < length entries
    → place_at entries i d ≤ place_at entries j d
rises entries linked i j d le inside = ⊎_elim
    (λ less. let order = linked.sorted i j d less inside in omega arith)
    (λ more. let same : i ≡ j = omega arith in subst (λ n. place_at entries i d ≤ place_at entries n d) same (omega arith))
    (cases_lt i j)

pub parted_to : (entries : List DeclaredEntry) (place : ℕ) → AreLinked entries
    → IsPartitionedBy (λ (entry : DeclaredEntry). nat_le entry.place place) entries
parted_to entries place linked i j d le inside below =
    let rise = rises entries linked i j d le inside in
    let low = leb-true _ _ below in
    grind (arith, nat_tests)

pub parted_before : (entries : List DeclaredEntry) (place : ℕ) → AreLinked entries
    → IsPartitionedBy (λ (entry : DeclaredEntry). nat_lt entry.place place) entries
parted_before entries place linked i j d le inside below =
    let rise = rises entries linked i j d le inside in
    let low = ltb-true _ _ below in
    grind (arith, nat_tests)
