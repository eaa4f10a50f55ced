-- What is found, and how much there is, after something was stored or taken away.
use Rattle.std.proofs.Common.{◌≡◌, ◌≢◌, ℕ, suc, ◌+◌, ◌≤◌, true, false, Bool, List, [], ◌∷◌, Some, None, IsSome, is_some, refl, length, cond, not, sym, ap, ◌∙◌, arith}
use Rattle.std.specs.Ordering.{nat_cmp}
use Rattle.std.specs.Cmp.Lexicographic.{slice_cmp, bytes_decides}
use Rattle.std.specs.declared.cmp.Ordering.TheVariants.{Less, Equal, Greater}
use Rattle.std.proofs.lemmas.Bool.{false≢true}
use Rattle.dita_doc.specs.Desk.{Stored, State, IsSortedByName, is_named, stored_under, with_stored, without_name}
use Rattle.dita_doc.proofs.NameOrder.{with_order, named_itself, named_by_order, found_above, same_from_equal, below_from_above, below_all_lower}

-- a test of a name is decided by whether the names are the same
pub not_named : (stored : Stored) (name : List ℕ) → stored.name ≢ name → is_named name stored ≡ false
not_named stored name other = by_test (is_named name stored) refl
  where
    by_test : (b : Bool) → is_named name stored ≡ b → is_named name stored ≡ false
    by_test true e = absurd (other ((bytes_decides stored.name name).0 e))
    by_test false e = e

-- what was stored is found under its name, and nothing else has changed
pub found_with_same : (new : Stored) (state : State) → stored_under (with_stored new state) new.name ≡ Some new
found_with_same new [] = ap (λ b. cond b (Some new) None) (named_itself new)
found_with_same new (stored ∷ state) =
    let here : (rest : State) → stored_under (new ∷ rest) new.name ≡ Some new =
    λ rest. ap (λ b. cond b (Some new) (stored_under rest new.name)) (named_itself new) in
    let rest = found_with_same new state in
    let by_order : slice_cmp nat_cmp new.name stored.name ≡ slice_cmp nat_cmp new.name stored.name
    → stored_under (with_stored new (stored ∷ state)) new.name ≡ Some new =
    elim (slice_cmp nat_cmp new.name stored.name) as (λ order. slice_cmp nat_cmp new.name stored.name ≡ order
    → stored_under (with_order new stored state order) new.name ≡ Some new) [
      | Less ↦ λ e. here (stored ∷ state)
      | Equal ↦ λ e. here state
      | Greater ↦ λ e. ap (λ b. cond b (Some stored) (stored_under (with_stored new state) new.name))
          (named_by_order stored new.name Less (below_from_above new.name stored.name e)) ∙ rest
    ] in
    by_order refl

pub found_with_other : (new : Stored) (state : State) (name : List ℕ) → new.name ≢ name
    → stored_under (with_stored new state) name ≡ stored_under state name
found_with_other new [] name other = ap (λ b. cond b (Some new) None) (not_named new name other)
found_with_other new (stored ∷ state) name other =
    let past : (rest : State) → stored_under (new ∷ rest) name ≡ stored_under rest name =
    λ rest. ap (λ b. cond b (Some new) (stored_under rest name)) (not_named new name other) in
    let rest = found_with_other new state name other in
    let by_order : slice_cmp nat_cmp new.name stored.name ≡ slice_cmp nat_cmp new.name stored.name
    → stored_under (with_stored new (stored ∷ state)) name ≡ stored_under (stored ∷ state) name =
    elim (slice_cmp nat_cmp new.name stored.name) as (λ order. slice_cmp nat_cmp new.name stored.name ≡ order
    → stored_under (with_order new stored state order) name ≡ stored_under (stored ∷ state) name) [
      | Less ↦ λ e. past (stored ∷ state)
      | Equal ↦ λ e. past state
          ∙ sym (ap (λ b. cond b (Some stored) (stored_under state name))
          (not_named stored name (λ same. other (same_from_equal new.name stored.name e ∙ same))))
      | Greater ↦ λ e. ap (cond (is_named name stored) (Some stored)) rest
    ] in
    by_order refl

-- what was taken away is not found, and nothing else has changed
pub found_without_same : (name : List ℕ) (state : State) → stored_under (without_name name state) name ≡ None
found_without_same name [] = refl
found_without_same name (stored ∷ state) =
    let rest = found_without_same name state in
    let by_test : is_named name stored ≡ is_named name stored
    → stored_under (without_name name (stored ∷ state)) name ≡ None =
    elim (is_named name stored) as (λ b. is_named name stored ≡ b
    → stored_under (cond (not b) (stored ∷ without_name name state) (without_name name state)) name ≡ None) [
      | true ↦ λ e. rest
      | false ↦ λ e. ap (λ b. cond b (Some stored) (stored_under (without_name name state) name)) e ∙ rest
    ] in
    by_test refl

pub found_without_other : (gone : List ℕ) (state : State) (name : List ℕ) → gone ≢ name
    → stored_under (without_name gone state) name ≡ stored_under state name
found_without_other gone [] name other = refl
found_without_other gone (stored ∷ state) name other =
    let rest = found_without_other gone state name other in
    let by_test : is_named gone stored ≡ is_named gone stored
    → stored_under (without_name gone (stored ∷ state)) name ≡ stored_under (stored ∷ state) name =
    elim (is_named gone stored) as (λ b. is_named gone stored ≡ b
    → stored_under (cond (not b) (stored ∷ without_name gone state) (without_name gone state)) name
    ≡ stored_under (stored ∷ state) name) [
      | true ↦ λ e. rest
          ∙ sym (ap (λ b. cond b (Some stored) (stored_under state name))
          (not_named stored name (λ same. other (sym ((bytes_decides stored.name gone).0 e) ∙ same))))
      | false ↦ λ e. ap (cond (is_named name stored) (Some stored)) rest
    ] in
    by_test refl

-- how many names there are afterwards
pub length_with : (new : Stored) (state : State) → length (with_stored new state) ≤ length state + 1
length_with new [] = omega arith
length_with new (stored ∷ state) =
    let rest = length_with new state in
    elim (slice_cmp nat_cmp new.name stored.name) as
    (λ order. length (with_order new stored state order) ≤ length (stored ∷ state) + 1) [
      | Less ↦ omega arith
      | Equal ↦ omega arith
      | Greater ↦ omega (arith, rest)
    ]

pub length_with_found : (new : Stored) (state : State) → IsSortedByName state → IsSome (stored_under state new.name)
    → length (with_stored new state) ≡ length state
length_with_found new [] sorted stands = absurd (false≢true stands)
length_with_found new (stored ∷ state) sorted stands =
    let rest = length_with_found new state sorted.1 in
    let by_order : slice_cmp nat_cmp new.name stored.name ≡ slice_cmp nat_cmp new.name stored.name
    → length (with_stored new (stored ∷ state)) ≡ length (stored ∷ state) =
    elim (slice_cmp nat_cmp new.name stored.name) as (λ order. slice_cmp nat_cmp new.name stored.name ≡ order
    → length (with_order new stored state order) ≡ length (stored ∷ state)) [
      | Less ↦ λ e. absurd
          (false≢true
          (sym (ap is_some (found_above (stored ∷ state) new.name
          (e, below_all_lower new.name stored.name state e sorted.0))) ∙ stands))
      | Equal ↦ λ e. refl
      | Greater ↦ λ e. ap suc
          (rest (sym (ap (λ b. is_some (cond b (Some stored) (stored_under state new.name)))
          (named_by_order stored new.name Less (below_from_above new.name stored.name e))) ∙ stands))
    ] in
    by_order refl

pub length_without : (name : List ℕ) (state : State) → length (without_name name state) ≤ length state
length_without name [] = omega arith
length_without name (stored ∷ state) =
    let rest = length_without name state in
    elim (is_named name stored) as (λ b. length
    (cond (not b) (stored ∷ without_name name state) (without_name name state)) ≤ length (stored ∷ state))
    [ true ↦ omega (arith, rest) | false ↦ omega (arith, rest) ]
