-- Lists: what begins with what, what stands, and what holds of each item once one is set.
use Rattle.std.proofs.Common.{◌≡◌, ◌≢◌, ◌⊎◌, ℕ, zero, suc, ◌+◌, List, [], ◌∷◌, ◌++◌, Option, Some, None, IfSome, refl, sym, ap, ◌∙◌, subst, inl, inr, ⊎_elim, arith, map, set, append_assoc, sum_by}
use Rattle.std.specs.List.{slice_get}
use Rattle.std.proofs.lemmas.List.{append-nil, map-append}
use Rattle.std.proofs.lemmas.List.Sums.{sum_by-append, sum_by-cons}
use Rattle.std.proofs.lemmas.Option.{none-some, same_Some}
use Rattle.facts.specs.Rows.{Stands}
use Rattle.desk_lock.specs.Lists.{Each, StartsWith}

module _ {X : Type 0} where
  pub starts_same : (xs : List X) → StartsWith xs xs
  starts_same xs = ([], sym (append-nil xs))

  pub starts_equal : (xs first : List X) → xs ≡ first → StartsWith xs first
  starts_equal xs first same = ([], same ∙ sym (append-nil first))

  pub starts_then : (xs ys zs : List X) → StartsWith xs ys → StartsWith ys zs → StartsWith xs zs
  starts_then xs ys zs long short =
      (short.0 ++ long.0, long.1 ∙ ap (λ list. list ++ long.0) short.1 ∙ append_assoc zs short.0 long.0)

  pub starts_longer : (xs first more : List X) → StartsWith xs first → StartsWith (xs ++ more) first
  starts_longer xs first more starts =
      (starts.0 ++ more, ap (λ list. list ++ more) starts.1 ∙ append_assoc first starts.0 more)

  -- What stands

  pub at_left : (xs ys : List X) (k : ℕ) (x : X) → slice_get xs k ≡ Some x → slice_get (xs ++ ys) k ≡ Some x
  at_left [] ys k x e = absurd (none-some x e)
  at_left (y ∷ xs) ys zero x e = e
  at_left (y ∷ xs) ys (suc k) x e = at_left xs ys k x e

  pub stands_left : (xs ys : List X) (x : X) → Stands xs x → Stands (xs ++ ys) x
  stands_left xs ys x stands = (stands.0, at_left xs ys stands.0 x stands.1)

  pub stands_right : (xs ys : List X) (x : X) → Stands ys x → Stands (xs ++ ys) x
  stands_right [] ys x stands = stands
  stands_right (y ∷ xs) ys x stands = let r = stands_right xs ys x stands in (suc r.0, r.1)

  pub stands_last : (xs : List X) (x : X) → Stands (xs ++ x ∷ []) x
  stands_last xs x = stands_right xs (x ∷ []) x (0, refl)

  pub stands_either : (xs ys : List X) (k : ℕ) (x : X) → slice_get (xs ++ ys) k ≡ Some x → Stands xs x ⊎ Stands ys x
  stands_either [] ys k x e = inr (k, e)
  stands_either (y ∷ xs) ys zero x e = inl (zero, e)
  stands_either (y ∷ xs) ys (suc k) x e = ⊎_elim
      (λ there. inl (suc there.0, there.1)) (λ there. inr there) (stands_either xs ys k x e)

  pub stands_starts : (xs first : List X) (x : X) → StartsWith xs first → Stands first x → Stands xs x
  stands_starts xs first x starts stands =
      subst (λ list. Stands list x) (sym starts.1) (stands_left first starts.0 x stands)

  -- What is set

  pub set_stands : (xs : List X) (k : ℕ) (old new : X) → slice_get xs k ≡ Some old → slice_get (set xs k new) k ≡ Some new
  set_stands [] k old new e = absurd (none-some old e)
  set_stands (x ∷ xs) zero old new e = refl
  set_stands (x ∷ xs) (suc k) old new e = set_stands xs k old new e

  pub set_leaves : (xs : List X) (k j : ℕ) (new : X) → j ≢ k → slice_get (set xs k new) j ≡ slice_get xs j
  set_leaves [] k j new differ = refl
  set_leaves (x ∷ xs) zero zero new differ = absurd (differ refl)
  set_leaves (x ∷ xs) zero (suc j) new differ = refl
  set_leaves (x ∷ xs) (suc k) zero new differ = refl
  set_leaves (x ∷ xs) (suc k) (suc j) new differ = set_leaves xs k j new (λ same. differ (ap suc same))

  pub set_weighs : (f : X → ℕ) (xs : List X) (k : ℕ) (old new : X) → slice_get xs k ≡ Some old
      → sum_by f (set xs k new) + f old ≡ sum_by f xs + f new
  set_weighs f [] k old new e = absurd (none-some old e)
  set_weighs f (x ∷ xs) zero old new e =
      let s : f x ≡ f old = ap f (same_Some x old e) in
      let c = sum_by-cons f x xs in let d = sum_by-cons f new xs in omega arith
  set_weighs f (x ∷ xs) (suc k) old new e =
      let c = sum_by-cons f x xs in let d = sum_by-cons f x (set xs k new) in
      let r = set_weighs f xs k old new e in omega arith

  -- What holds of each

  pub each_append : (P : X → Type 0) (xs ys : List X) → Each P xs → Each P ys → Each P (xs ++ ys)
  each_append P [] ys first second = second
  each_append P (x ∷ xs) ys first second = (first.0, each_append P xs ys first.1 second)

  pub each_first : (P : X → Type 0) (xs ys : List X) → Each P (xs ++ ys) → Each P xs
  each_first P [] ys each = tt
  each_first P (x ∷ xs) ys each = (each.0, each_first P xs ys each.1)

  pub each_starts : (P : X → Type 0) (xs first : List X) → StartsWith xs first → Each P xs → Each P first
  each_starts P xs first starts each = each_first P first starts.0 (subst (λ list. Each P list) starts.1 each)

  pub each_onward : (P Q : X → Type 0) (xs : List X) → ((x : X) → P x → Q x) → Each P xs → Each Q xs
  each_onward P Q [] onward each = tt
  each_onward P Q (x ∷ xs) onward each = (onward x each.0, each_onward P Q xs onward each.1)

  pub each_set : (P : X → Type 0) (xs : List X) (k : ℕ) (new : X) → Each P xs → P new → Each P (set xs k new)
  each_set P [] k new each here = tt
  each_set P (x ∷ xs) zero new each here = (here, each.1)
  each_set P (x ∷ xs) (suc k) new each here = (each.0, each_set P xs k new each.1 here)

  pub each_at : (P : X → Type 0) (xs : List X) (k : ℕ) (x : X) → Each P xs → slice_get xs k ≡ Some x → P x
  each_at P [] k x each e = absurd (none-some x e)
  each_at P (y ∷ ys) zero x each e = subst P (same_Some y x e) each.0
  each_at P (y ∷ ys) (suc k) x each e = each_at P ys k x each.1 e

  pub each_from : (P : X → Type 0) (xs : List X) → ((k : ℕ) (x : X) → slice_get xs k ≡ Some x → P x) → Each P xs
  each_from P [] all = tt
  each_from P (x ∷ xs) all = (all 0 x refl, each_from P xs (λ k. all (suc k)))

  -- Options

  pub if_some_onward : (o : Option X) (P Q : X → Type 0) → ((x : X) → P x → Q x) → IfSome o P → IfSome o Q
  if_some_onward None P Q onward holds = holds
  if_some_onward (Some x) P Q onward holds = onward x holds

-- Weights of mapped lists

pub map_push_weighs : {X : Type 0} (weight : ℕ → ℕ) (f : X → ℕ) (xs : List X) (x : X)
    → sum_by weight (map f (xs ++ x ∷ [])) ≡ sum_by weight (map f xs) + weight (f x)
map_push_weighs weight f [] x = let c = sum_by-cons weight (f x) [] in omega arith
map_push_weighs weight f (y ∷ ys) x =
    let c = sum_by-cons weight (f y) (map f (ys ++ x ∷ [])) in let d = sum_by-cons weight (f y) (map f ys) in
    let r = map_push_weighs weight f ys x in omega arith

pub map_both_weigh : {X : Type 0} (weight : ℕ → ℕ) (f : X → ℕ) (xs ys : List X)
    → sum_by weight (map f (xs ++ ys)) ≡ sum_by weight (map f xs) + sum_by weight (map f ys)
map_both_weigh weight f xs ys =
    ap (λ list. sum_by weight list) (map-append f xs ys) ∙ sum_by-append weight (map f xs) (map f ys)
