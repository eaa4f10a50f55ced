-- Answers that were made, found by their scopes and keys.
use Rattle.std.proofs.Common.{◌≡◌, ℕ, Bool, true, false, List, [], ◌∷◌, Option, Some, None, IfSome, Ordering, Less, Equal, Greater, cond, sym, ap₂, subst, refl}
use Rattle.std.specs.BTreeMap.{insert_entry, is_at}
use Rattle.std.specs.Borrow.{Bor}
use Rattle.std.specs.Cmp.Lexicographic.{slice_cmp}
use Rattle.std.specs.FinMap.{nat_cmp-IsAntisymmetric}
use Rattle.std.specs.Map.{lookup}
use Rattle.std.specs.Option.{option_copied}
use Rattle.std.specs.Ordering.{match_ordering, nat_cmp, ordering_then}
use Rattle.dita_doc.specs.declared.content.KeyAnswer.{KeyAnswer}
use Rattle.dita_doc.specs.declared.plan.PlanNode.{PlanNode}
use Rattle.dita_doc.proofs.NameOrder.{same_from_equal}
use Rattle.dita_doc.proofs.Orders.{both_equal, equal_test}
use Rattle.readers.specs.Founded.{Grows}
use Rattle.readers.specs.Told.{Told}
use Rattle.readers.proofs.GrowthLaws.{agrees_before, are_allowed_before}
use Rattle.key_layer.specs.Answers.{AreAnswers, IsAnswer}
use Rattle.key_layer.specs.declared.memo.KeyAt.{KeyAt}

-- the order of keys in scopes
abbrev order : KeyAt → KeyAt → Ordering
order a b = ordering_then (nat_cmp a.scope b.scope) (slice_cmp nat_cmp a.key b.key)

same_key : (a b : KeyAt) → order a b ≡ Equal → a ≡ b
same_key a b equal =
    let parts = both_equal (nat_cmp a.scope b.scope) (slice_cmp nat_cmp a.key b.key) equal in
    ap₂ (λ scope key. record { scope = scope; key = key })
    (nat_cmp-IsAntisymmetric a.scope b.scope parts.0) (same_from_equal a.key b.key parts.1)

module _ (told : List Told) (nodes : List PlanNode) where
  pub answer_found : (at : KeyAt) (all : List (KeyAt × KeyAnswer)) → AreAnswers told nodes all
      → IfSome (lookup (is_at (order at)) all) (IsAnswer told nodes at)
  answer_found at [] answers = tt
  answer_found at (entry ∷ more) answers =
      by_test (answer_found at more answers.1) (is_at (order at) entry.0) refl
    where
      by_test : IfSome (lookup (is_at (order at)) more) (IsAnswer told nodes at) → (test : Bool)
          → is_at (order at) entry.0 ≡ test
          → IfSome (cond test (Some entry.1) (lookup (is_at (order at)) more)) (IsAnswer told nodes at)
      by_test behind true same = subst (λ a. IsAnswer told nodes a entry.1)
          (sym (same_key at entry.0 (equal_test (order at entry.0) same))) answers.0
      by_test behind false same = behind

  pub answer_put : (at : KeyAt) (answer : KeyAnswer) (all : List (KeyAt × KeyAnswer)) → AreAnswers told nodes all
      → IsAnswer told nodes at answer → AreAnswers told nodes (insert_entry order all at answer)
  answer_put at answer [] answers is = (is, tt)
  answer_put at answer (entry ∷ more) answers is =
      by_order (answer_put at answer more answers.1 is) (order at entry.0) refl
    where
      by_order : AreAnswers told nodes (insert_entry order more at answer) → (o : Ordering) → order at entry.0 ≡ o
          → AreAnswers told nodes (match_ordering o ((at, answer) ∷ entry ∷ more) ((entry.0, answer) ∷ more)
          (entry ∷ insert_entry order more at answer))
      by_order behind Less same = (is, answers)
      by_order behind Equal same =
          (subst (λ a. IsAnswer told nodes a answer) (same_key at entry.0 same) is, answers.1)
      by_order behind Greater same = (answers.0, behind)

-- what was told before makes answers right also when more is told
pub answers_more : (old new : List Told) (nodes : List PlanNode) (all : List (KeyAt × KeyAnswer)) → Grows old new
    → AreAnswers old nodes all → AreAnswers new nodes all
answers_more old new nodes [] grows answers = tt
answers_more old new nodes (entry ∷ more) grows answers = (
  record {
    known = λ world agrees. answers.0.known world (agrees_before world old new grows agrees);
    given = λ roots. are_allowed_before roots old new _ grows (answers.0.given roots);
  },
  answers_more old new nodes more grows answers.1,
)

-- an answer, said of the same scope and key, and of a copy
pub answer_moved : (told : List Told) (nodes : List PlanNode) (at : KeyAt) (scope : ℕ) (key : List ℕ)
    (answer copy : KeyAnswer) → at.scope ≡ scope → at.key ≡ key → copy ≡ answer → IsAnswer told nodes at answer
    → IsAnswer told nodes (record { scope = scope; key = key }) copy
answer_moved told nodes at scope key answer copy of_scope of_key same is =
    subst (λ a. IsAnswer told nodes a copy) (ap₂ (λ s k. record { scope = s; key = k }) of_scope of_key)
    (subst (IsAnswer told nodes at) (sym same) is)

-- the answer that was found
pub answer_held : (told : List Told) (nodes : List PlanNode) (at : KeyAt) (found : Option KeyAnswer)
    (answer : KeyAnswer) → found ≡ Some answer → IfSome found (IsAnswer told nodes at) → IsAnswer told nodes at answer
answer_held told nodes at found answer is held = subst (λ o. IfSome o (IsAnswer told nodes at)) is held

-- what a search gave, as a reference to the answer
pub found_held : (P : KeyAnswer → Type 0) (found : Option (Bor KeyAnswer)) (answer : Option KeyAnswer)
    → option_copied found ≡ answer → IfSome answer P → IfSome found (λ a. P a.now)
found_held P None answer is holds = tt
found_held P (Some a) answer is holds = subst (λ o. IfSome o P) (sym is) holds
