-- The requests of sessions: those of a session are steps of the script by their numbers, these rise, and all sessions
-- together ask each step once. What a session asked stays where it stands, and one more stands behind it.
use Rattle.std.proofs.Common.{◌≡◌, ◌<◌, ◌≤◌, ◌+◌, ◌++◌, ◌⊎◌, ◌==◌, ℕ, zero, suc, Bool, true, false, cond, if◌then◌else◌, List, [], ◌∷◌, Some, All, AllPairs, length, refl, sym, ap, ◌∙◌, subst, arith, sum_by, get_or, inl, inr, ⊎_elim, eq-eqb, ne_eqb, true≢false}
use Rattle.std.specs.List.{AllZip, slice_get}
use Rattle.std.proofs.lemmas.List.Elements.{All-append, All-cons, All-nil}
use Rattle.std.proofs.lemmas.List.Kept.{AllPairs-cons}
use Rattle.std.proofs.lemmas.List.Sums.{sum_by-cons}
use Rattle.std.proofs.lemmas.Option.{none-some, same_Some, slice_get-get_or}
use mathlib.Core.Logic.{dite}
use native.Mathlib.Decide.{ℕ_discrete}
use Rattle.facts.specs.Rows.{Stands}
use Rattle.script_text.specs.Script.{Step}
use Rattle.desk_lock.specs.Lists.{StartsWith, counted}
use Rattle.desk_work.proofs.Lists.{at_left}
use Rattle.desk_top.specs.Asked.{Asked, asked_by}

-- Lists

module _ {X : Type 0} where
  pub at_start : (xs first : List X) (k : ℕ) (x : X) → StartsWith xs first → slice_get first k ≡ Some x
      → slice_get xs k ≡ Some x
  at_start xs first k x starts e =
      subst (λ list. slice_get list k ≡ Some x) (sym starts.1) (at_left first starts.0 k x e)

  pub all_from : (P : X → Type 0) (xs : List X) → ((x : X) → Stands xs x → P x) → All P xs
  all_from P xs each = λ k d within. each (get_or xs k d) (k, slice_get-get_or xs k d within)

  pub pairs_none : (R : X → X → Type 0) → AllPairs R []
  pairs_none R = λ i j d before within. absurd (omega (arith, within))

  pub pairs_push : (R : X → X → Type 0) (xs : List X) (y : X) → AllPairs R xs → All (λ x. R x y) xs
      → AllPairs R (xs ++ y ∷ [])
  pairs_push R [] y pairs all = λ i j d before within. absurd (omega (arith, within, before))
  pairs_push R (x ∷ xs) y pairs all = AllPairs-cons R x (xs ++ y ∷ [])
      (All-append (R x) xs (y ∷ []) (λ k d within. pairs 0 (suc k) d (omega arith) (omega (arith, within)))
      (All-cons (R x) y [] (all 0 x (omega arith)) (All-nil (R x))))
      (pairs_push R xs y (λ i j d before within. pairs (suc i) (suc j) d (omega (arith, before)) (omega (arith, within)))
      (λ k d within. all (suc k) d (omega (arith, within))))

  -- Weights

  pub sum_both : (f g : X → ℕ) (xs : List X) → sum_by (λ x. f x + g x) xs ≡ sum_by f xs + sum_by g xs
  sum_both f g [] = refl
  sum_both f g (x ∷ xs) =
      let c = sum_by-cons (λ y. f y + g y) x xs in let d = sum_by-cons f x xs in let e = sum_by-cons g x xs in
      let r = sum_both f g xs in omega arith

  pub sum_same : (f g : X → ℕ) (xs : List X) → ((x : X) → f x ≡ g x) → sum_by f xs ≡ sum_by g xs
  sum_same f g [] same = refl
  sum_same f g (x ∷ xs) same =
      let c = sum_by-cons f x xs in let d = sum_by-cons g x xs in let here = same x in
      let r = sum_same f g xs same in omega arith

  pub sum_one : (xs : List X) → sum_by (λ x. 1) xs ≡ length xs
  sum_one [] = refl
  sum_one (x ∷ xs) = let c = sum_by-cons (λ (y : X). 1) x xs in let r = sum_one xs in omega arith

  pub sum_none : (xs : List X) → sum_by (λ x. 0) xs ≡ 0
  sum_none [] = refl
  sum_none (x ∷ xs) = let c = sum_by-cons (λ (y : X). 0) x xs in let r = sum_none xs in omega arith

  -- An item that stands or does not

  maybe_weighs : (f : X → ℕ) (b : Bool) (x : X) (xs : List X)
      → sum_by f (if b then x ∷ xs else xs) ≡ cond b (f x) 0 + sum_by f xs
  maybe_weighs f true x xs = sum_by-cons f x xs
  maybe_weighs f false x xs = omega arith

  maybe_at : (b : Bool) (x : X) (xs : List X) (k : ℕ) (y : X) → slice_get (if b then x ∷ xs else xs) k ≡ Some y
      → ((b ≡ true) × (x ≡ y)) ⊎ Stands xs y
  maybe_at true x xs zero y e = inl (refl, same_Some x y e)
  maybe_at true x xs (suc k) y e = inr (k, e)
  maybe_at false x xs k y e = inr (k, e)

  maybe_pairs : (R : X → X → Type 0) (b : Bool) (x : X) (xs : List X) → All (R x) xs → AllPairs R xs
      → AllPairs R (if b then x ∷ xs else xs)
  maybe_pairs R true x xs above pairs = AllPairs-cons R x xs above pairs
  maybe_pairs R false x xs above pairs = pairs

module _ {X Y : Type 0} (R : X → Y → Type 0) where
  pub zip_push : (xs : List X) (ys : List Y) (x : X) (y : Y) → AllZip R xs ys → R x y
      → AllZip R (xs ++ x ∷ []) (ys ++ y ∷ [])
  zip_push [] [] x y zip here = (here, tt)
  zip_push [] (z ∷ ys) x y zip here = absurd zip
  zip_push (w ∷ xs) [] x y zip here = absurd zip
  zip_push (w ∷ xs) (z ∷ ys) x y zip here = (zip.0, zip_push xs ys x y zip.1 here)

  pub zip_onward : (Q : X → Y → Type 0) → ((x : X) (y : Y) → R x y → Q x y) → (xs : List X) (ys : List Y) → AllZip R xs ys
      → AllZip Q xs ys
  zip_onward Q onward [] [] zip = tt
  zip_onward Q onward [] (y ∷ ys) zip = zip
  zip_onward Q onward (x ∷ xs) [] zip = zip
  zip_onward Q onward (x ∷ xs) (y ∷ ys) zip = (onward x y zip.0, zip_onward Q onward xs ys zip.1)

  pub zip_at : (xs : List X) (ys : List Y) (k : ℕ) (y : Y) → AllZip R xs ys → slice_get ys k ≡ Some y
      → (x : X) × (slice_get xs k ≡ Some x) × R x y
  zip_at [] [] k y zip e = absurd (none-some y e)
  zip_at [] (z ∷ ys) k y zip e = absurd zip
  zip_at (x ∷ xs) [] k y zip e = absurd zip
  zip_at (x ∷ xs) (z ∷ ys) zero y zip e = (x, refl, subst (R x) (same_Some z y e) zip.0)
  zip_at (x ∷ xs) (z ∷ ys) (suc k) y zip e = zip_at xs ys k y zip.1 e

-- The requests of a session

same_session : (session other : ℕ) → (session == other) ≡ true → session ≡ other
same_session session other e = dite (ℕ_discrete session other)
    (λ same. same)
    (λ differ. absurd (true≢false (sym e ∙ ne_eqb session other differ)))

-- each is a step, by its number
pub asked_named : (session number : ℕ) (steps : List Step) (k : ℕ) (one : Asked)
    → slice_get (asked_by session number steps) k ≡ Some one
    → (before : ℕ) × (one.number ≡ number + before)
    × (slice_get steps before ≡ Some (record { session = session; request = one.request }))
asked_named session number [] k one e = absurd (none-some one e)
asked_named session number (step ∷ steps) k one e =
    let first : Asked = record { number = number; request = step.request } in
    ⊎_elim
    (λ here. (
      0,
      ap (λ (other : Asked). other.number) (sym here.1) ∙ omega arith,
      ap (λ (other : Step). Some other) (λ i. record {
        session = sym (same_session session step.session here.0) i;
        request = ap (λ (other : Asked). other.request) here.1 i;
      }),
    ))
    (λ there. let rest = asked_named session (number + 1) steps there.0 one there.1 in
    (suc rest.0, rest.1 ∙ omega arith, rest.2))
    (maybe_at (session == step.session) first (asked_by session (number + 1) steps) k one e)

abbrev pub IsEarlier : Asked → Asked → Type 0
IsEarlier one later = one.number < later.number

-- their numbers rise
pub asked_rise : (session number : ℕ) (steps : List Step) → AllPairs IsEarlier (asked_by session number steps)
asked_rise session number [] = pairs_none IsEarlier
asked_rise session number (step ∷ steps) = maybe_pairs IsEarlier (session == step.session)
    (record { number = number; request = step.request }) (asked_by session (number + 1) steps)
    (all_from (IsEarlier (record { number = number; request = step.request })) (asked_by session (number + 1) steps)
    (λ one stands. let named = asked_named session (number + 1) steps stands.0 one stands.1 in
    omega (arith, named.1)))
    (asked_rise session (number + 1) steps)

-- Among these numbers one is this one

counted_none : (w n from count : ℕ) → n < from → sum_by (λ k. cond (k == n) w 0) (counted from count) ≡ 0
counted_none w n from zero below = refl
counted_none w n from (suc count) below =
    let c = sum_by-cons (λ k. cond (k == n) w 0) from (counted (from + 1) count) in
    let differ : from ≡ n → ⊥ = λ same. absurd (omega (arith, same, below)) in
    let t : cond (from == n) w 0 ≡ 0 = ap (λ b. cond b w 0) (ne_eqb from n differ) in
    let r = counted_none w n (from + 1) count (omega (arith, below)) in omega (arith, c, t, r)

pub counted_one : (w n from count : ℕ) → from ≤ n → n < from + count
    → sum_by (λ k. cond (k == n) w 0) (counted from count) ≡ w
counted_one w n from zero above within = absurd (omega (arith, above, within))
counted_one w n from (suc count) above within =
    let c = sum_by-cons (λ k. cond (k == n) w 0) from (counted (from + 1) count) in
    dite (ℕ_discrete from n)
    (λ same.
    let t : cond (from == n) w 0 ≡ w = ap (λ b. cond b w 0) (eq-eqb from n same) in
    let r = counted_none w n (from + 1) count (omega (arith, same)) in omega (arith, c, t, r))
    (λ differ.
    let t : cond (from == n) w 0 ≡ 0 = ap (λ b. cond b w 0) (ne_eqb from n differ) in
    let r = counted_one w n (from + 1) count (omega (arith, above, differ)) (omega (arith, within)) in omega (arith, c, t, r))

-- a step of one of so many sessions
abbrev pub IsAmong : ℕ → Step → Type 0
IsAmong count step = (1 ≤ step.session) × (step.session ≤ count)

-- all sessions together ask each number once
pub asked_weigh : (w : ℕ → ℕ) (count number : ℕ) (steps : List Step) → All (IsAmong count) steps
    → sum_by (λ session. sum_by (λ (one : Asked). w one.number) (asked_by session number steps)) (counted 1 count)
    ≡ sum_by w (counted number (length steps))
asked_weigh w count number [] all = sum_none (counted 1 count)
asked_weigh w count number (step ∷ steps) all =
    let by : Asked → ℕ = λ one. w one.number in
    let first : Asked = record { number = number; request = step.request } in
    let rest : ℕ → List Asked = λ session. asked_by session (number + 1) steps in
    let among = all 0 step (omega arith) in
    let split = sum_same (λ session. sum_by by (asked_by session number (step ∷ steps)))
    (λ session. cond (session == step.session) (w number) 0 + sum_by by (rest session)) (counted 1 count)
    (λ session. maybe_weighs by (session == step.session) first (rest session)) in
    let both = sum_both (λ session. cond (session == step.session) (w number) 0)
    (λ session. sum_by by (rest session)) (counted 1 count) in
    let one = counted_one (w number) step.session 1 count among.0 (omega (arith, among.1)) in
    let more = asked_weigh w count (number + 1) steps (λ k d within. all (suc k) d (omega (arith, within))) in
    let c = sum_by-cons w number (counted (number + 1) (length steps)) in
    omega (arith, split, both, one, more, c)
