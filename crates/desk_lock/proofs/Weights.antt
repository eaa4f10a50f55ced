-- Weights of lists, and of what parties have together: a weight that counts how often one number stands.
use Rattle.std.proofs.Common.{◌≡◌, ◌≢◌, ℕ, zero, suc, ◌+◌, ◌<◌, ◌≤◌, cond, eqb, List, [], ◌∷◌, map, Some, refl, sym, ap, subst, arith, length, drop, set, sum_by, eq-eqb, ne_eqb}
use Rattle.std.specs.List.{slice_get}
use Rattle.facts.specs.Rows.{Stands}
use Rattle.std.proofs.lemmas.List.Sums.{sum_by-cons}
use Rattle.std.proofs.lemmas.Option.{none-some, same_Some}
use mathlib.Core.Logic.{dite}
use mathlib.Core.Option.{some, some-injective, some-ne-none}
use native.Mathlib.Decide.{ℕ_discrete}
use lib.ListN.{get_elem?}
use Rattle.desk_lock.specs.Lists.{Each, IsNoneOf, counted}

-- 1 if the numbers are equal
abbrev pub tick : ℕ → ℕ → ℕ
tick number other = cond (eqb other number) 1 0

pub tick_same : (number : ℕ) → tick number number ≡ 1
tick_same number = ap (λ b. cond b 1 0) (eq-eqb number number refl)

pub tick_is : (number other : ℕ) → other ≡ number → tick number other ≡ 1
tick_is number other e = ap (λ b. cond b 1 0) (eq-eqb other number e)

pub tick_other : (number other : ℕ) → other ≢ number → tick number other ≡ 0
tick_other number other differ = ap (λ b. cond b 1 0) (ne_eqb other number differ)

module _ {X : Type 0} (f : X → ℕ) where
  pub stands_weighs : (xs : List X) (k : ℕ) (x : X) → slice_get xs k ≡ Some x → f x ≤ sum_by f xs
  stands_weighs [] k x e = absurd (none-some x e)
  stands_weighs (y ∷ ys) zero x e =
      let c = sum_by-cons f y ys in let s : f y ≡ f x = ap f (same_Some y x e) in omega arith
  stands_weighs (y ∷ ys) (suc k) x e =
      let c = sum_by-cons f y ys in let r = stands_weighs ys k x e in omega arith

  pub two_weigh : (xs : List X) (j k : ℕ) (x y : X) → slice_get xs j ≡ Some x → slice_get xs k ≡ Some y → j < k
      → f x + f y ≤ sum_by f xs
  two_weigh [] j k x y at also less = absurd (none-some x at)
  two_weigh (z ∷ zs) zero zero x y at also less = absurd (omega arith)
  two_weigh (z ∷ zs) zero (suc k) x y at also less =
      let c = sum_by-cons f z zs in let s : f z ≡ f x = ap f (same_Some z x at) in
      let r = stands_weighs zs k y also in omega arith
  two_weigh (z ∷ zs) (suc j) zero x y at also less = absurd (omega arith)
  two_weigh (z ∷ zs) (suc j) (suc k) x y at also less =
      let c = sum_by-cons f z zs in let r = two_weigh zs j k x y at also (omega arith) in omega arith

  pub all_light : (xs : List X) → ((k : ℕ) (x : X) → slice_get xs k ≡ Some x → f x ≡ 0) → sum_by f xs ≡ 0
  all_light [] light = refl
  all_light (x ∷ xs) light =
      let c = sum_by-cons f x xs in let here = light 0 x refl in
      let r = all_light xs (λ k. light (suc k)) in omega arith

  -- what weighs something stands
  pub heavy_stands : (xs : List X) → 0 < sum_by f xs → (k : ℕ) × (x : X) × (slice_get xs k ≡ Some x) × (0 < f x)
  heavy_stands [] heavy = absurd (omega arith)
  heavy_stands (x ∷ xs) heavy = dite (ℕ_discrete (f x) 0)
      (λ light. let c = sum_by-cons f x xs in let r = heavy_stands xs (omega arith) in
      (suc r.0, r.1, r.2, r.3))
      (λ some_weight. (0, x, refl, omega arith))

-- a list of which each item is mapped weighs what its items weigh
pub sum_by-map : {X Y : Type 0} (f : Y → ℕ) (g : X → Y) (xs : List X) → sum_by f (map g xs) ≡ sum_by (λ x. f (g x)) xs
sum_by-map f g [] = refl
sum_by-map f g (x ∷ xs) =
    let c = sum_by-cons f (g x) (map g xs) in let d = sum_by-cons (λ x. f (g x)) x xs in
    let r = sum_by-map f g xs in omega arith

-- what is in a list once each has a number of its own is counted at most once
module _ {X : Type 0} (number : X → ℕ) where
  pub numbered_once : (xs : List X) (base n : ℕ)
      → ((k : ℕ) (x : X) → slice_get xs k ≡ Some x → number x ≡ base + suc k) → sum_by (λ x. tick n (number x)) xs ≤ 1
  numbered_once [] base n numbered = omega arith
  numbered_once (x ∷ xs) base n numbered = dite (ℕ_discrete (number x) n)
      (λ same. let c = sum_by-cons (λ x. tick n (number x)) x xs in let one = tick_is n (number x) same in
      let first = numbered 0 x refl in
      let r = all_light (λ x. tick n (number x)) xs
      (λ k y e. tick_other n (number y) (λ again. let later = numbered (suc k) y e in absurd (omega arith))) in
      omega arith)
      (λ differ. let c = sum_by-cons (λ x. tick n (number x)) x xs in let none = tick_other n (number x) differ in
      let r = numbered_once xs (suc base) n (λ k y e. let later = numbered (suc k) y e in omega arith) in
      omega arith)

-- a number that is none of a list has no weight there, and the other way round
pub none_weighs : (xs : List ℕ) (n : ℕ) → IsNoneOf xs n → sum_by (tick n) xs ≡ 0
none_weighs [] n none = refl
none_weighs (x ∷ xs) n none =
    let c = sum_by-cons (tick n) x xs in let t = tick_other n x none.0 in let r = none_weighs xs n none.1 in omega arith

pub weighs_none : (xs : List ℕ) (n : ℕ) → sum_by (tick n) xs ≡ 0 → IsNoneOf xs n
weighs_none [] n light = tt
weighs_none (x ∷ xs) n light =
    let c = sum_by-cons (tick n) x xs in
    ((λ same. let t = tick_is n x same in absurd (omega arith)), weighs_none xs n (omega arith))

-- each of a list, by its place
pub each_stands : {X : Type 0} (P : X → Type 0) (xs : List X) → Each P xs → (k : ℕ) (x : X)
    → slice_get xs k ≡ Some x → P x
each_stands P [] each k x e = absurd (none-some x e)
each_stands P (y ∷ ys) each zero x e = subst P (same_Some y x e) each.0
each_stands P (y ∷ ys) each (suc k) x e = each_stands P ys each.1 k x e

pub stands_each : {X : Type 0} (P : X → Type 0) (xs : List X) → ((k : ℕ) (x : X) → slice_get xs k ≡ Some x → P x)
    → Each P xs
stands_each P [] each = tt
stands_each P (x ∷ xs) each = (each 0 x refl, stands_each P xs (λ k. each (suc k)))

pub none_of_map : {X : Type 0} (number : X → ℕ) (xs : List X) (n : ℕ)
    → ((k : ℕ) (x : X) → slice_get xs k ≡ Some x → number x ≢ n) → IsNoneOf (map number xs) n
none_of_map number [] n differ = tt
none_of_map number (x ∷ xs) n differ = (differ 0 x refl, none_of_map number xs n (λ k. differ (suc k)))

pub numbered_counted : {X : Type 0} (number : X → ℕ) (xs : List X) (base : ℕ)
    → ((k : ℕ) (x : X) → slice_get xs k ≡ Some x → number x ≡ base + k) → map number xs ≡ counted base (length xs)
numbered_counted number [] base numbered = refl
numbered_counted number (x ∷ xs) base numbered =
    let first : number x ≡ base = (let here = numbered 0 x refl in omega arith) in
    let rest = numbered_counted number xs (base + 1) (λ k y e. let later = numbered (suc k) y e in omega arith) in
    λ i. first i ∷ rest i

-- What is left of a list behind its first items

pub stands_drop : {X : Type 0} (gone place : ℕ) (xs : List X) (x : X) → gone ≤ place → slice_get xs place ≡ Some x
    → Stands (drop gone xs) x
stands_drop zero place xs x behind e = (place, e)
stands_drop (suc gone) place [] x behind e = absurd (none-some x e)
stands_drop (suc gone) zero (y ∷ ys) x behind e = absurd (omega arith)
stands_drop (suc gone) (suc place) (y ∷ ys) x behind e = stands_drop gone place ys x (omega arith) e

pub drop_stands : {X : Type 0} (gone : ℕ) (xs : List X) (x : X) → Stands (drop gone xs) x → Stands xs x
drop_stands zero xs x stands = stands
drop_stands (suc gone) [] x stands = absurd (none-some x stands.1)
drop_stands (suc gone) (y ∷ ys) x stands = let r = drop_stands gone ys x stands in (suc r.0, r.1)

-- Parties, who are looked up by their numbers

module _ {V : Type 0} where
  pub at_weighs : (f : V → ℕ) (vs : List V) (by : ℕ) (v : V) → get_elem? vs by ≡ some v → f v ≤ sum_by f vs
  at_weighs f [] by v e = absurd (some-ne-none v (sym e))
  at_weighs f (u ∷ us) zero v e =
      let c = sum_by-cons f u us in let s : f u ≡ f v = ap f (some-injective u v e) in omega arith
  at_weighs f (u ∷ us) (suc by) v e =
      let c = sum_by-cons f u us in let r = at_weighs f us by v e in omega arith

  pub each_below : (f g : V → ℕ) (vs : List V) → ((by : ℕ) (v : V) → get_elem? vs by ≡ some v → f v ≤ g v)
      → sum_by f vs ≤ sum_by g vs
  each_below f g [] below = omega arith
  each_below f g (u ∷ us) below =
      let c = sum_by-cons f u us in let d = sum_by-cons g u us in let here = below 0 u refl in
      let r = each_below f g us (λ by. below (suc by)) in omega arith

  pub but_one : (f g : V → ℕ) (vs : List V) (by : ℕ) (v : V) → get_elem? vs by ≡ some v
      → ((other : ℕ) (u : V) → get_elem? vs other ≡ some u → f u ≤ g u) → sum_by f vs + g v ≤ sum_by g vs + f v
  but_one f g [] by v e below = absurd (some-ne-none v (sym e))
  but_one f g (u ∷ us) zero v e below =
      let c = sum_by-cons f u us in let d = sum_by-cons g u us in
      let s : f u ≡ f v = ap f (some-injective u v e) in let t : g u ≡ g v = ap g (some-injective u v e) in
      let r = each_below f g us (λ other. below (suc other)) in omega arith
  but_one f g (u ∷ us) (suc by) v e below =
      let c = sum_by-cons f u us in let d = sum_by-cons g u us in let here = below 0 u refl in
      let r = but_one f g us by v e (λ other. below (suc other)) in omega arith

  pub only_one : (f : V → ℕ) (vs : List V) (by : ℕ) (v : V) → get_elem? vs by ≡ some v
      → ((other : ℕ) (u : V) → other ≢ by → get_elem? vs other ≡ some u → f u ≡ 0) → sum_by f vs ≡ f v
  only_one f [] by v e rest = absurd (some-ne-none v (sym e))
  only_one f (u ∷ us) zero v e rest =
      let c = sum_by-cons f u us in let s : f u ≡ f v = ap f (some-injective u v e) in
      let r = no_weight us (λ other w. rest (suc other) w (λ e. absurd (omega arith))) in omega arith
    where
      no_weight : (ws : List V) → ((other : ℕ) (w : V) → get_elem? ws other ≡ some w → f w ≡ 0) → sum_by f ws ≡ 0
      no_weight [] light = refl
      no_weight (w ∷ ws) light =
          let c = sum_by-cons f w ws in let here = light 0 w refl in
          let r = no_weight ws (λ other. light (suc other)) in omega arith
  only_one f (u ∷ us) (suc by) v e rest =
      let c = sum_by-cons f u us in let here = rest 0 u (λ e. absurd (omega arith)) refl in
      let r = only_one f us by v e (λ other w differ. rest (suc other) w (λ same. differ (omega arith))) in omega arith

  pub two_at_weigh : (f : V → ℕ) (vs : List V) (by other : ℕ) (v u : V) → get_elem? vs by ≡ some v
      → get_elem? vs other ≡ some u → by ≢ other → f v + f u ≤ sum_by f vs
  two_at_weigh f [] by other v u e g differ = absurd (some-ne-none v (sym e))
  two_at_weigh f (w ∷ ws) zero zero v u e g differ = absurd (differ refl)
  two_at_weigh f (w ∷ ws) zero (suc other) v u e g differ =
      let c = sum_by-cons f w ws in let s : f w ≡ f v = ap f (some-injective w v e) in
      let r = at_weighs f ws other u g in omega arith
  two_at_weigh f (w ∷ ws) (suc by) zero v u e g differ =
      let c = sum_by-cons f w ws in let s : f w ≡ f u = ap f (some-injective w u g) in
      let r = at_weighs f ws by v e in omega arith
  two_at_weigh f (w ∷ ws) (suc by) (suc other) v u e g differ =
      let c = sum_by-cons f w ws in
      let r = two_at_weigh f ws by other v u e g (λ same. differ (ap suc same)) in omega arith

  -- the total after a change of one party
  pub total_set : (f : V → ℕ) (vs : List V) (by : ℕ) (v w : V) → get_elem? vs by ≡ some v
      → sum_by f (set vs by w) + f v ≡ sum_by f vs + f w
  total_set f [] by v w e = absurd (some-ne-none v (sym e))
  total_set f (u ∷ us) zero v w e =
      let c = sum_by-cons f u us in let d = sum_by-cons f w us in
      let s : f u ≡ f v = ap f (some-injective u v e) in omega arith
  total_set f (u ∷ us) (suc by) v w e =
      let c = sum_by-cons f u us in let d = sum_by-cons f u (set us by w) in
      let r = total_set f us by v w e in omega arith

  pub at_within : (vs : List V) (by : ℕ) (v : V) → get_elem? vs by ≡ some v → by < length vs
  at_within [] by v e = absurd (some-ne-none v (sym e))
  at_within (u ∷ us) zero v e = omega arith
  at_within (u ∷ us) (suc by) v e = let r = at_within us by v e in omega arith
