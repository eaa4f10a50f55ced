-- The order of names, and what it says of documents that stand in it.
use Rattle.std.proofs.Common.{◌≡◌, ℕ, true, false, List, [], ◌∷◌, ◌++◌, Some, None, refl, cond, not, sym, ap, ◌∙◌, subst}
use Rattle.std.specs.Ordering.{nat_cmp, ordering_reverse, is_eq}
use Rattle.std.specs.Cmp.Lexicographic.{slice_cmp, texts_ties, bytes_decides}
use Rattle.std.specs.declared.cmp.Ordering.{Ordering}
use Rattle.std.specs.declared.cmp.Ordering.TheVariants.{Less, Equal, Greater}
use Rattle.std.proofs.lemmas.Cmp.{nat_list_cmp_total, tied_itself}
use Rattle.std.proofs.lemmas.Option.{none-some, same_Some}
use Rattle.dita_doc.specs.Desk.{Stored, State, IsBelowAll, IsSortedByName, is_named, stored_under, with_stored, without_name}
use Rattle.dita_doc.specs.Sources.{AreBelow}

-- who is below another has him above
pub above_from_below : (a b : List ℕ) → slice_cmp nat_cmp a b ≡ Less → slice_cmp nat_cmp b a ≡ Greater
above_from_below a b below = nat_list_cmp_total.antisymm b a ∙ ap ordering_reverse below

pub below_from_above : (a b : List ℕ) → slice_cmp nat_cmp a b ≡ Greater → slice_cmp nat_cmp b a ≡ Less
below_from_above a b above = nat_list_cmp_total.antisymm b a ∙ ap ordering_reverse above

pub equal_itself : (a : List ℕ) → slice_cmp nat_cmp a a ≡ Equal
equal_itself a = tied_itself nat_list_cmp_total a

pub same_from_equal : (a b : List ℕ) → slice_cmp nat_cmp a b ≡ Equal → a ≡ b
same_from_equal a b equal = (bytes_decides a b).0 (texts_ties a b ∙ ap is_eq equal)

-- the test of a name by the order
pub named_by_order : (stored : Stored) (name : List ℕ) (order : Ordering) → slice_cmp nat_cmp stored.name name ≡ order
    → is_named name stored ≡ is_eq order
named_by_order stored name order e = texts_ties stored.name name ∙ ap is_eq e

pub named_itself : (stored : Stored) → is_named stored.name stored ≡ true
named_itself stored = named_by_order stored stored.name Equal (equal_itself stored.name)

-- below what is below all is below all
pub below_all_lower : (low high : List ℕ) (state : State) → slice_cmp nat_cmp low high ≡ Less → IsBelowAll high state
    → IsBelowAll low state
below_all_lower low high [] less below = tt
below_all_lower low high (stored ∷ state) less below =
    (nat_list_cmp_total.trans low high stored.name less below.0, below_all_lower low high state less below.1)

pub below_all_back : (name : List ℕ) (front back : State) → IsBelowAll name (front ++ back) → IsBelowAll name back
below_all_back name [] back h = h
below_all_back name (stored ∷ front) back h = below_all_back name front back h.1

-- a sorted list, cut
pub sorted_back : (front back : State) → IsSortedByName (front ++ back) → IsSortedByName back
sorted_back [] back h = h
sorted_back (stored ∷ front) back h = sorted_back front back h.1

-- what stands before a document is below it
pub below_sorted : (front : State) (stored : Stored) (back : State) → IsSortedByName (front ++ stored ∷ back)
    → AreBelow front stored.name
below_sorted [] stored back h = tt
below_sorted (first ∷ front) stored back h =
    ((below_all_back first.name front (stored ∷ back) h.0).0, below_sorted front stored back h.1)

-- nothing that is below a name, or above it, has it
pub found_behind : (front back : State) (name : List ℕ) → AreBelow front name
    → stored_under (front ++ back) name ≡ stored_under back name
found_behind [] back name below = refl
found_behind (stored ∷ front) back name below =
    ap (λ b. cond b (Some stored) (stored_under (front ++ back) name)) (named_by_order stored name Less below.0)
    ∙ found_behind front back name below.1

pub found_above : (back : State) (name : List ℕ) → IsBelowAll name back → stored_under back name ≡ None
found_above [] name above = refl
found_above (stored ∷ back) name above =
    ap (λ b. cond b (Some stored) (stored_under back name))
    (named_by_order stored name Greater (above_from_below name stored.name above.0)) ∙ found_above back name above.1

pub without_behind : (front back : State) (name : List ℕ) → AreBelow front name
    → without_name name (front ++ back) ≡ front ++ without_name name back
without_behind [] back name below = refl
without_behind (stored ∷ front) back name below =
    ap (λ b. cond (not b) (stored ∷ without_name name (front ++ back)) (without_name name (front ++ back)))
    (named_by_order stored name Less below.0) ∙ ap (λ rest. stored ∷ rest) (without_behind front back name below.1)

pub without_above : (back : State) (name : List ℕ) → IsBelowAll name back → without_name name back ≡ back
without_above [] name above = refl
without_above (stored ∷ back) name above =
    ap (λ b. cond (not b) (stored ∷ without_name name back) (without_name name back))
    (named_by_order stored name Greater (above_from_below name stored.name above.0))
    ∙ ap (λ rest. stored ∷ rest) (without_above back name above.1)

-- a document is stored behind the lower ones
abbrev pub with_order : Stored → Stored → State → Ordering → State
with_order new stored state order = elim order [
  | Less ↦ new ∷ stored ∷ state
  | Equal ↦ new ∷ state
  | Greater ↦ stored ∷ with_stored new state
]

pub with_behind : (front back : State) (new : Stored) → AreBelow front new.name
    → with_stored new (front ++ back) ≡ front ++ with_stored new back
with_behind [] back new below = refl
with_behind (stored ∷ front) back new below =
    ap (with_order new stored (front ++ back)) (above_from_below stored.name new.name below.0)
    ∙ ap (λ rest. stored ∷ rest) (with_behind front back new below.1)

pub with_above : (back : State) (new : Stored) → IsBelowAll new.name back → with_stored new back ≡ new ∷ back
with_above [] new above = refl
with_above (stored ∷ back) new above = ap (with_order new stored back) above.0

pub with_same : (stored : Stored) (back : State) (new : Stored) → stored.name ≡ new.name
    → with_stored new (stored ∷ back) ≡ new ∷ back
with_same stored back new same = ap (with_order new stored back)
    (subst (λ name. slice_cmp nat_cmp new.name name ≡ Equal) (sym same) (equal_itself new.name))

-- the edits keep the order
pub below_with : (name : List ℕ) (new : Stored) (state : State) → slice_cmp nat_cmp name new.name ≡ Less
    → IsBelowAll name state → IsBelowAll name (with_stored new state)
below_with name new [] less below = (less, tt)
below_with name new (stored ∷ state) less below =
    let rest = below_with name new state less below.1 in
    elim (slice_cmp nat_cmp new.name stored.name) as (λ order. IsBelowAll name (with_order new stored state order)) [
      | Less ↦ (less, below)
      | Equal ↦ (less, below.1)
      | Greater ↦ (below.0, rest)
    ]

pub sorted_with : (new : Stored) (state : State) → IsSortedByName state → IsSortedByName (with_stored new state)
sorted_with new [] sorted = (tt, tt)
sorted_with new (stored ∷ state) sorted =
    let rest = sorted_with new state sorted.1 in
    let by_order : slice_cmp nat_cmp new.name stored.name ≡ slice_cmp nat_cmp new.name stored.name
    → IsSortedByName (with_stored new (stored ∷ state)) =
    elim (slice_cmp nat_cmp new.name stored.name) as (λ order. slice_cmp nat_cmp new.name stored.name ≡ order
    → IsSortedByName (with_order new stored state order)) [
      | Less ↦ λ e. ((e, below_all_lower new.name stored.name state e sorted.0), sorted)
      | Equal ↦ λ e. (
        subst (λ name. IsBelowAll name state) (sym (same_from_equal new.name stored.name e)) sorted.0,
        sorted.1,
      )
      | Greater ↦ λ e. (below_with stored.name new state (below_from_above new.name stored.name e) sorted.0, rest)
    ] in
    by_order refl

pub below_without : (low name : List ℕ) (state : State) → IsBelowAll low state
    → IsBelowAll low (without_name name state)
below_without low name [] below = tt
below_without low name (stored ∷ state) below =
    let rest = below_without low name state below.1 in
    elim (is_named name stored) as (λ b. IsBelowAll low
    (cond (not b) (stored ∷ without_name name state) (without_name name state)))
    [ true ↦ rest | false ↦ (below.0, rest) ]

pub sorted_without : (name : List ℕ) (state : State) → IsSortedByName state → IsSortedByName (without_name name state)
sorted_without name [] sorted = tt
sorted_without name (stored ∷ state) sorted =
    let rest = sorted_without name state sorted.1 in
    let below = below_without stored.name name state sorted.0 in
    elim (is_named name stored) as (λ b. IsSortedByName
    (cond (not b) (stored ∷ without_name name state) (without_name name state)))
    [ true ↦ rest | false ↦ (below, rest) ]

-- a name that is not found is not taken away, and what is found has the name
pub without_unfound : (name : List ℕ) (state : State) → stored_under state name ≡ None → without_name name state ≡ state
without_unfound name [] none = refl
without_unfound name (stored ∷ state) none =
    let rest = without_unfound name state in
    let by_test : is_named name stored ≡ is_named name stored → without_name name (stored ∷ state) ≡ stored ∷ state =
    elim (is_named name stored) as (λ b. b ≡ is_named name stored
    → cond (not b) (stored ∷ without_name name state) (without_name name state) ≡ stored ∷ state) [
      | true ↦ λ e. absurd
          (none-some stored (sym none ∙ ap (λ b. cond b (Some stored) (stored_under state name)) (sym e)))
      | false ↦ λ e. ap (λ rest. stored ∷ rest)
          (rest (ap (λ b. cond b (Some stored) (stored_under state name)) e ∙ none))
    ] in
    by_test refl

pub named_as_found : (state : State) (name : List ℕ) (stored : Stored) → stored_under state name ≡ Some stored
    → stored.name ≡ name
named_as_found [] name stored is = absurd (none-some stored is)
named_as_found (first ∷ state) name stored is =
    let rest = named_as_found state name stored in
    let by_test : is_named name first ≡ is_named name first → stored.name ≡ name =
    elim (is_named name first) as (λ b. b ≡ is_named name first → stored.name ≡ name) [
      | true ↦ λ e. ap (λ (s : Stored). s.name)
          (sym (same_Some first stored (ap (λ b. cond b (Some first) (stored_under state name)) e ∙ is)))
          ∙ (bytes_decides first.name name).0 (sym e)
      | false ↦ λ e. rest (ap (λ b. cond b (Some first) (stored_under state name)) e ∙ is)
    ] in
    by_test refl
