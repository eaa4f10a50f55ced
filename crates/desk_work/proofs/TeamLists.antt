-- Lists of workers and of their piles: what is so of each, what each has, and what a loop took of a list.
use Rattle.std.proofs.Common.{◌≡◌, ℕ, suc, ◌<◌, List, [], ◌∷◌, ◌++◌, Option, Some, None, refl, sym, ap, ap₂, ◌∙◌, subst, get_or, length, map, take, drop, arith}
use Rattle.std.specs.Iterator.{Yields}
use Rattle.std.specs.Prelude.{All, vec_len}
use Rattle.std.specs.Vec.Iter.{into_iter_items, into_iter_len, into_iter_steps}
use Rattle.std.specs.declared.vec.IntoIter.{IntoIter}
use Rattle.std.specs.declared.vec.Vec.{Vec}
use Rattle.std.proofs.Math.Seq.{take-append_seam}
use Rattle.std.proofs.lemmas.Iterator.Adapters.{YieldsList-from_vec}
use Rattle.std.proofs.lemmas.Iterator.Consumers.{YieldsList-end, YieldsList-turn}
use Rattle.std.proofs.lemmas.List.Elements.{All-cons, All-nil}
use Rattle.desk_lock.specs.Lists.{Each}

module _ {X : Type 0} (P : X → Type 0) where
  pub each_all : (xs : List X) → Each P xs → All P xs
  each_all [] each = All-nil P
  each_all (x ∷ xs) each = All-cons P x xs each.0 (each_all xs each.1)

  -- what is so of all is so of the next
  pub next_has : (xs : List X) (k : ℕ) (x : X) → All P xs → (k < length xs) × (x ≡ get_or xs k x) → P x
  next_has xs k x all turn = subst P (sym turn.1) (all k x turn.0)

module _ {X Y : Type 0} (f : X → Y) where
  pub each_mapped : (P : Y → Type 0) (xs : List X) → Each P (map f xs) → Each (λ x. P (f x)) xs
  each_mapped P [] each = tt
  each_mapped P (x ∷ xs) each = (each.0, each_mapped P xs each.1)

  -- as many, each with the same
  pub maps_same : (xs ys : List X) → length ys ≡ length xs
      → ((i : ℕ) (d : X) → i < length xs → f (get_or ys i d) ≡ f (get_or xs i d)) → map f ys ≡ map f xs
  maps_same [] [] long same = refl
  maps_same [] (y ∷ ys) long same = absurd (omega (arith, long))
  maps_same (x ∷ xs) [] long same = absurd (omega (arith, long))
  maps_same (x ∷ xs) (y ∷ ys) long same = ap₂ (λ (z : Y) (zs : List Y). z ∷ zs) (same 0 x (omega arith))
      (maps_same xs ys (omega (arith, long)) (λ i d within. same (suc i) d (omega arith)))

-- what is written back over a whole list is the list then
pub written_back : {X : Type 0} (xs ys : List X) (n : ℕ) → n ≡ length ys → take n (ys ++ drop (length ys) xs) ≡ ys
written_back xs ys n long =
    ap (λ (k : ℕ). take k (ys ++ drop (length ys) xs)) long ∙ take-append_seam ys (drop (length ys) xs)

-- a loop over a vector takes its items one after the other
pub vec_turn : {X A : Type 0} (v : Vec X A) (s t u : IntoIter X A) (xs : List X) (r : Option X) (x : X)
    → into_iter_items s ≡ v.items → into_iter_len s ≡ vec_len v → Yields into_iter_steps s xs t → r ≡ Some x
    → into_iter_steps t r u → (length xs < length v.items) × (x ≡ get_or v.items (length xs) x)
vec_turn {X} {A} v s t u xs r x items long yields is steps =
    YieldsList-turn (YieldsList-from_vec {A = X} {Z = A} {s = s} v.items items (omega (arith, long, v.ok.0))) xs t
    yields r u x is steps

pub vec_end : {X A : Type 0} (v : Vec X A) (s t u : IntoIter X A) (xs : List X) (r : Option X)
    → into_iter_items s ≡ v.items → into_iter_len s ≡ vec_len v → Yields into_iter_steps s xs t → r ≡ None
    → into_iter_steps t r u → length xs ≡ length v.items
vec_end {X} {A} v s t u xs r items long yields is steps =
    (YieldsList-end (YieldsList-from_vec {A = X} {Z = A} {s = s} v.items items (omega (arith, long, v.ok.0))) xs t
    yields r u is steps).1
