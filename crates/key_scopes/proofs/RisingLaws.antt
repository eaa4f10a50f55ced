-- The search up from a scope: one scope more, and the same by parents.
use Rattle.std.specs.Prelude.{◌≡◌, ◌<◌, ◌≤◌, ◌==◌, ◌⊎◌, ℕ, zero, suc, Bool, true, false, List, Option, Some, None, IfSome, length, nat_lt, slice_get, if◌then◌else◌}
use Rattle.std.specs.Option.{option_and_then, option_map_or, option_or}
use Rattle.std.proofs.Common.{refl, ap, ◌∙◌, arith, inl, inr}
use Rattle.std.proofs.lemmas.Bool.{cases_Bool}
use Rattle.std.proofs.lemmas.Bool.Decides.{nat_tests}
use Rattle.std.proofs.lemmas.Option.{slice_get_past}
use Rattle.dita_doc.specs.declared.plan.Scope.{Scope}
use Rattle.dita_doc.proofs.Lists.{some_at}
use Rattle.key_scopes.specs.Above.{AreInPreorder, around_in, parent_in}
use Rattle.key_scopes.proofs.RiseLaws.{outermost_from, outermost_in}
use Rattle.key_scopes.specs.Rising.{answer_up, outermost_up}

abbrev pub parent_or_root : Option Scope → ℕ
parent_or_root one = option_map_or (λ (scope : Scope). scope.parent) one 0

-- each parent stands before its scope
pub parent_low : (all : List Scope) → AreInPreorder (parent_in all) (length all) → (at : ℕ) → 0 < at → parent_in all at < at
parent_low all ordered at some = by_test (cases_Bool (nat_lt at (length all)))
  where
    by_test : (nat_lt at (length all) ≡ true) ⊎ (nat_lt at (length all) ≡ false) → parent_in all at < at
    by_test (inl low) = ordered.before at some (grind (arith, nat_tests))
    by_test (inr far) =
        let out : length all ≤ at = grind (arith, nat_tests) in
        let none = ap parent_or_root (slice_get_past all at out) in
        omega (arith, some, none)

module _ (all : List Scope) (ordered : AreInPreorder (parent_in all) (length all)) where
  pub lower : (at : ℕ) → 0 < at → at < length all → parent_in all at < at
  lower at above within = ordered.before at above within

  pub around_root : around_in all 0 ≡ None
  around_root = by_found (slice_get all 0) refl
    where
      by_found : (found : Option Scope) → slice_get all 0 ≡ found → around_in all 0 ≡ None
      by_found None e = rw e refl
      by_found (Some scope) e =
          let root : parent_in all 0 ≡ 0 = ordered.root in
          let is : parent_in all 0 ≡ scope.parent = rw e refl in
          let test : nat_lt scope.parent 0 ≡ false = grind (arith, nat_tests) in
          rw (e, test) refl

  pub around_other : (at : ℕ) → 0 < at → at < length all → around_in all at ≡ Some (parent_in all at)
  around_other at above within =
      let is = some_at all at within in
      let same : parent_in all at ≡ is.0.parent = rw is.1 refl in
      let less = lower at above within in
      let test : nat_lt is.0.parent at ≡ true = grind (arith, nat_tests) in
      rw (is.1, test) refl

  -- of a table in preorder the parents are the scopes around
  up_steps : (answer : ℕ → Option ℕ) (steps scope : ℕ) → scope < length all
      → outermost_up steps answer all scope ≡ outermost_in steps answer all scope
  up_steps answer zero scope within = refl
  up_steps answer (suc steps) zero within =
      ap (λ some. option_or (option_and_then (outermost_up steps answer all) some) (answer zero)) around_root
  up_steps answer (suc steps) (suc scope) within =
      let above : 0 < suc scope = omega arith in
      let other : (suc scope == 0) ≡ false = grind (arith, nat_tests) in
      let less = lower (suc scope) above within in
      rw other (ap (λ some. option_or (option_and_then (outermost_up steps answer all) some) (answer (suc scope)))
      (around_other (suc scope) above within)
      ∙ ap (λ one. option_or one (answer (suc scope)))
      (up_steps answer steps (parent_in all (suc scope)) (omega (arith, less, within))))

  pub up_is : (answer : ℕ → Option ℕ) (from : Option ℕ) → IfSome from (λ one. one < length all)
      → answer_up answer all from ≡ outermost_from answer all from
  up_is answer None within = refl
  up_is answer (Some scope) within = up_steps answer scope scope within

-- Any table: the scope around one has a lower number

around_low : (all : List Scope) (at around : ℕ) → around_in all at ≡ Some around → around < at
around_low all at around is = by_found (slice_get all at) is
  where
    by_test : (scope : Scope) (a : Bool) → nat_lt scope.parent at ≡ a
        → (if a then Some scope.parent else None) ≡ Some around → around < at
    by_test scope true e is =
        let same : scope.parent ≡ around = cc in
        let less : scope.parent < at = grind (arith, nat_tests) in
        omega (arith, same, less)
    by_test scope false e is = cc

    by_found : (found : Option Scope)
        → option_and_then (λ (scope : Scope). if nat_lt scope.parent at then Some scope.parent else None) found
        ≡ Some around → around < at
    by_found None is = cc
    by_found (Some scope) is = by_test scope (nat_lt scope.parent at) refl is

module _ (all : List Scope) (answer : ℕ → Option ℕ) where
  none_around : (at : ℕ) → at ≤ 0 → around_in all at ≡ None
  none_around at low = by_around (around_in all at) refl
    where
      by_around : (one : Option ℕ) → around_in all at ≡ one → around_in all at ≡ None
      by_around None e = e
      by_around (Some around) e = let less = around_low all at around e in absurd (omega (arith, less, low))

  -- so many steps are enough as the number says
  enough : (steps more at : ℕ) → at ≤ steps → at ≤ more
      → outermost_up steps answer all at ≡ outermost_up more answer all at
  enough zero zero at first second = refl
  enough zero (suc more) at first second = rw (none_around at first) refl
  enough (suc steps) zero at first second = rw (none_around at second) refl
  enough (suc steps) (suc more) at first second =
      by_around (λ around less. enough steps more around (omega (arith, first, less)) (omega (arith, second, less)))
      (around_in all at) refl
    where
      by_around : ((around : ℕ) → around < at
          → outermost_up steps answer all around ≡ outermost_up more answer all around)
          → (one : Option ℕ) → around_in all at ≡ one
          → outermost_up (suc steps) answer all at ≡ outermost_up (suc more) answer all at
      by_around behind None e = rw e refl
      by_around behind (Some around) e =
          rw e (ap (λ one. option_or one (answer at)) (behind around (around_low all at around e)))

  -- one scope more
  pub one_up : (scope : ℕ)
      → answer_up answer all (Some scope) ≡ option_or (answer_up answer all (around_in all scope)) (answer scope)
  one_up zero = rw (none_around zero (omega arith)) refl
  one_up (suc scope) = by_around (around_in all (suc scope)) refl
    where
      by_around : (one : Option ℕ) → around_in all (suc scope) ≡ one → answer_up answer all (Some (suc scope))
          ≡ option_or (answer_up answer all (around_in all (suc scope))) (answer (suc scope))
      by_around None e = rw e refl
      by_around (Some around) e =
          let less = around_low all (suc scope) around e in
          rw e (ap (λ one. option_or one (answer (suc scope)))
          (enough scope around around (omega (arith, less)) (omega arith)))

  -- where no scope has an answer, there is none
  pub no_answer : ((scope : ℕ) → answer scope ≡ None) → (from : Option ℕ) → answer_up answer all from ≡ None
  no_answer none None = refl
  no_answer none (Some scope) = none_up scope scope
    where
      none_up : (steps at : ℕ) → outermost_up steps answer all at ≡ None
      none_up zero at = none at
      none_up (suc steps) at =
          by_around (λ around. none_up steps around) (around_in all at) refl
        where
          by_around : ((around : ℕ) → outermost_up steps answer all around ≡ None) → (one : Option ℕ)
              → around_in all at ≡ one → outermost_up (suc steps) answer all at ≡ None
          by_around behind None e = rw e (none at)
          by_around behind (Some around) e = rw (e, behind around) (none at)
