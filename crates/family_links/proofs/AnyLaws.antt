-- Tests of the elements of lists.
use Rattle.std.specs.Prelude.{◌≡◌, ◌+◌, ◌<◌, ◌==◌, ◌&&◌, ◌||◌, ℕ, Bool, true, false, List, [], ◌∷◌, Some, length, if◌then◌else◌}
use Rattle.std.specs.List.{All, flat_map, list_any}
use Rattle.std.proofs.Common.{refl, sym, ap, ◌∙◌, arith}
use Rattle.std.proofs.lemmas.Bool.{eqb-true}
use Rattle.std.proofs.lemmas.List.Elements.{All-head, All-tail}
use Rattle.std.proofs.lemmas.List.Folds.{list_any-append}
use Rattle.std.proofs.lemmas.Map.Keys.{any_passes_from_place}
use Rattle.dita_doc.proofs.Tests.{and_false, and_true, or_false}
use Rattle.map_spec.specs.Scopes.{places_from}
use Rattle.map_lemmas.proofs.ListedLaws.{place_there}

-- the same where the tests agree on the elements
pub any_alike : {X : Type 0} (P : X → Type 0) (p q : X → Bool) → ((x : X) → P x → p x ≡ q x) → (xs : List X)
    → All P xs → list_any p xs ≡ list_any q xs
any_alike P p q each [] all = refl
any_alike P p q each (x ∷ xs) all =
    (λ i. each x (All-head P x xs all) i || any_alike P p q each xs (All-tail P x xs all) i)

pub any_flat : {X Y : Type 0} (p : Y → Bool) (f : X → List Y) (xs : List X)
    → list_any p (flat_map f xs) ≡ list_any (λ x. list_any p (f x)) xs
any_flat p f [] = refl
any_flat p f (x ∷ xs) = list_any-append p (f x) (flat_map f xs) ∙ ap (λ b. list_any p (f x) || b) (any_flat p f xs)

pub split_test : (a q r c : Bool) → ((a && (q || r)) && c) ≡ (((a && q) && c) || ((a && r) && c))
split_test false q r c = refl
split_test true false r c = refl
split_test true true r true = refl
split_test true true true false = refl
split_test true true false false = refl

-- a test of an element between two that do not look at it
pub any_between : {X : Type 0} (a c : Bool) (q : X → Bool) (xs : List X)
    → ((a && list_any q xs) && c) ≡ list_any (λ x. (a && q x) && c) xs
any_between a c q [] = ap (λ b. b && c) (and_false a)
any_between a c q (x ∷ xs) =
    split_test a (q x) (list_any q xs) c ∙ ap (λ b. ((a && q x) && c) || b) (any_between a c q xs)

-- a test of one number alone
pub any_one : (q : ℕ → Bool) (one : ℕ) (xs : List ℕ)
    → list_any (λ x. (one == x) && q x) xs ≡ (list_any (λ x. one == x) xs && q one)
any_one q one [] = refl
any_one q one (x ∷ xs) = by_same (any_one q one xs) (one == x) refl
  where
    absorbed : (b r : Bool) → (b || (r && b)) ≡ b
    absorbed true r = refl
    absorbed false true = refl
    absorbed false false = refl

    by_same : list_any (λ x. (one == x) && q x) xs ≡ (list_any (λ x. one == x) xs && q one) → (b : Bool)
        → (one == x) ≡ b → ((one == x) && q x || list_any (λ x. (one == x) && q x) xs)
        ≡ (((one == x) || list_any (λ x. one == x) xs) && q one)
    by_same behind true e =
        ap (λ b. b && q x || list_any (λ x. (one == x) && q x) xs) e
        ∙ ap (λ n. q n || list_any (λ x. (one == x) && q x) xs) (sym (eqb-true one x e))
        ∙ ap (λ b. q one || b) behind ∙ absorbed (q one) (list_any (λ x. one == x) xs)
        ∙ sym (ap (λ b. (b || list_any (λ x. one == x) xs) && q one) e)
    by_same behind false e =
        ap (λ b. b && q x || list_any (λ x. (one == x) && q x) xs) e ∙ behind
        ∙ sym (ap (λ b. (b || list_any (λ x. one == x) xs) && q one) e)

pub any_if : {X : Type 0} (p : X → Bool) (b : Bool) (x : X) → list_any p (if b then x ∷ [] else []) ≡ (b && p x)
any_if p true x = or_false (p x)
any_if p false x = refl

-- a test of a place
pub any_place : {X : Type 0} (q : ℕ → Bool) (xs : List X) (at : ℕ) → at < length xs → q at ≡ true
    → list_any q (places_from 0 xs) ≡ true
any_place q xs at within is =
    let zero_more : 0 + at ≡ at = omega arith in
    any_passes_from_place q (places_from 0 xs) at at (place_there xs 0 at within ∙ ap Some zero_more) is

pub same_test : (a b k s t u : Bool) → a ≡ b → (k ≡ true → u ≡ t)
    → ((a && k) && (s && u)) ≡ ((b && (s && t)) && k)
same_test true true true s t u e f = ap (λ x. s && x) (f refl) ∙ sym (and_true (s && t))
same_test true true false s t u e f = sym (and_false (s && t))
same_test true false k s t u e f = cc
same_test false true k s t u e f = cc
same_test false false k s t u e f = refl

pub front_test : (a b k d : Bool) → ((a && (b && k)) && d) ≡ (b && ((a && k) && d))
front_test a false k d = ap (λ x. x && d) (and_false a)
front_test a true k d = refl
