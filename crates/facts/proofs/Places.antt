-- Elements of lists by their places: in an end of a list, in a list with one more, and in a list that is filtered.
use Rattle.std.proofs.Common.{◌≡◌, ◌+◌, ◌-◌, ◌<◌, ◌≤◌, ◌⊎◌, ℕ, zero, suc, Bool, true, false, List, [], ◌∷◌, ◌++◌, Some, refl, sym, ap, ◌∙◌, inl, inr, length, drop, filter, slice_get, if◌then◌else◌, arith}
use Rattle.std.proofs.lemmas.List.{length-drop}
use Rattle.std.proofs.lemmas.Option.{none-some, same_Some}

-- an end of a list: all but the first ones
pub record IsEnd {X : Type 0} (all some : List X) : Type 0 where
  pub gone : ℕ
  pub within : gone ≤ length all
  pub is : some ≡ drop gone all

pub gone_is : {X : Type 0} (all some : List X) (end : IsEnd all some) → length all - length some ≡ end.gone
gone_is all some end =
    let rest : length some ≡ length all - end.gone = ap length end.is ∙ length-drop end.gone all in
    let within : end.gone ≤ length all = end.within in
    omega arith

pub slice_get-drop : {X : Type 0} (gone : ℕ) (xs : List X) (i : ℕ) → slice_get (drop gone xs) i ≡ slice_get xs (gone + i)
slice_get-drop zero xs i = ap (slice_get xs) (omega arith)
slice_get-drop (suc gone) [] i = refl
slice_get-drop (suc gone) (x ∷ xs) i = slice_get-drop gone xs i ∙ ap (slice_get (x ∷ xs)) {x = suc (gone + i)} (omega arith)

pub end_at : {X : Type 0} (all some : List X) (end : IsEnd all some) (i : ℕ) (x : X) → slice_get some i ≡ Some x
    → slice_get all (end.gone + i) ≡ Some x
end_at all some end i x at =
    sym (slice_get-drop end.gone all i) ∙ sym (ap (λ xs. slice_get xs i) end.is) ∙ at

-- an element of a list with one more at its end
pub push_at : {X : Type 0} (xs : List X) (x y : X) (i : ℕ) → slice_get (xs ++ x ∷ []) i ≡ Some y
    → (slice_get xs i ≡ Some y) ⊎ ((i ≡ length xs) × (y ≡ x))
push_at [] x y zero at = inr (refl, sym (same_Some x y at))
push_at [] x y (suc i) at = absurd (none-some y at)
push_at (z ∷ xs) x y zero at = inl at
push_at (z ∷ xs) x y (suc i) at = elim (push_at xs x y i at) [
  | inl old ↦ inl old
  | inr new ↦ inr (ap suc new.0, new.1)
]

pub slice_get-push : {X : Type 0} (xs : List X) (x y : X) (i : ℕ) → slice_get xs i ≡ Some y
    → slice_get (xs ++ x ∷ []) i ≡ Some y
slice_get-push [] x y i at = absurd (none-some y at)
slice_get-push (z ∷ xs) x y zero at = at
slice_get-push (z ∷ xs) x y (suc i) at = slice_get-push xs x y i at

-- an element of a filtered list stood in the list, and passes the test
pub record WasAt {X : Type 0} (test : X → Bool) (xs : List X) (x : X) : Type 0 where
  pub place : ℕ
  pub at : slice_get xs place ≡ Some x
  pub passes : test x ≡ true

later : {X : Type 0} (test : X → Bool) (first : X) (xs : List X) (x : X) → WasAt test xs x → WasAt test (first ∷ xs) x
later test first xs x was = record { place = suc was.place; at = was.at; passes = was.passes }

filtered_if : {X : Type 0} (test : X → Bool) (first : X) (xs rest : List X) (b : Bool) → test first ≡ b
    → ((i : ℕ) (x : X) → slice_get rest i ≡ Some x → WasAt test xs x) → (i : ℕ) (x : X)
    → slice_get (if b then first ∷ rest else rest) i ≡ Some x → WasAt test (first ∷ xs) x
filtered_if test first xs rest true is more zero x at =
    record { place = 0; at = at; passes = ap test (sym (same_Some first x at)) ∙ is }
filtered_if test first xs rest true is more (suc i) x at = later test first xs x (more i x at)
filtered_if test first xs rest false is more i x at = later test first xs x (more i x at)

pub filtered_at : {X : Type 0} (test : X → Bool) (xs : List X) (i : ℕ) (x : X) → slice_get (filter test xs) i ≡ Some x
    → WasAt test xs x
filtered_at test [] i x at = absurd (none-some x at)
filtered_at test (first ∷ xs) i x at =
    filtered_if test first xs (filter test xs) (test first) refl (filtered_at test xs) i x at

-- two elements of a filtered list stood in the list in the same order
pub record WereBehind {X : Type 0} (xs : List X) (x y : X) : Type 0 where
  pub first : ℕ
  pub second : ℕ
  pub behind : first < second
  pub first_at : slice_get xs first ≡ Some x
  pub second_at : slice_get xs second ≡ Some y

both_later : {X : Type 0} (first : X) (xs : List X) (x y : X) → WereBehind xs x y → WereBehind (first ∷ xs) x y
both_later first xs x y were = record {
  first = suc were.first;
  second = suc were.second;
  behind = let low : were.first < were.second = were.behind in omega arith;
  first_at = were.first_at;
  second_at = were.second_at;
}

ordered_if : {X : Type 0} (test : X → Bool) (first : X) (xs rest : List X) (b : Bool)
    → ((i : ℕ) (x : X) → slice_get rest i ≡ Some x → WasAt test xs x)
    → ((i j : ℕ) (x y : X) → i < j → slice_get rest i ≡ Some x → slice_get rest j ≡ Some y → WereBehind xs x y)
    → (i j : ℕ) (x y : X) → i < j → slice_get (if b then first ∷ rest else rest) i ≡ Some x
    → slice_get (if b then first ∷ rest else rest) j ≡ Some y → WereBehind (first ∷ xs) x y
ordered_if test first xs rest true one both i zero x y low at-x at-y = absurd (omega arith)
ordered_if test first xs rest true one both zero (suc j) x y low at-x at-y = record {
  first = 0;
  second = suc (one j y at-y).place;
  behind = omega arith;
  first_at = at-x;
  second_at = (one j y at-y).at;
}
ordered_if test first xs rest true one both (suc i) (suc j) x y low at-x at-y =
    both_later first xs x y (both i j x y (omega arith) at-x at-y)
ordered_if test first xs rest false one both i j x y low at-x at-y =
    both_later first xs x y (both i j x y low at-x at-y)

pub filtered_order : {X : Type 0} (test : X → Bool) (xs : List X) (i j : ℕ) (x y : X) → i < j
    → slice_get (filter test xs) i ≡ Some x → slice_get (filter test xs) j ≡ Some y → WereBehind xs x y
filtered_order test [] i j x y low at-x at-y = absurd (none-some x at-x)
filtered_order test (first ∷ xs) i j x y low at-x at-y = ordered_if test first xs (filter test xs) (test first)
    (filtered_at test xs) (filtered_order test xs) i j x y low at-x at-y
