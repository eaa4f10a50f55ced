-- What was told before goes on to hold.
use Rattle.std.proofs.Common.{◌≡◌, ℕ, List, [], ◌∷◌, ◌++◌, IsTrue, sym, ap, subst, refl, ◌∙◌, append_assoc}
use Rattle.std.proofs.Math.Logic.{∥∥₁_elim}
use Rattle.std.proofs.Props.{props}
use Rattle.std.proofs.lemmas.Bool.{or_right}
use Rattle.reader_spec.specs.World.{World}
use Rattle.readers.specs.Founded.{AreAllowed, Grows, IsFounded, is_allowed, is_among, names_given}
use Rattle.readers.specs.Props.{Agrees-prop, IsFounded-prop}
use Rattle.readers.specs.Told.{Told, Agrees, Holds}

pub grows_same : (ts : List Told) → Grows ts ts
grows_same ts = record { is = ∣ ([], refl) ∣₁ }

pub grows_one : (t : Told) (old new : List Told) → new ≡ t ∷ old → Grows old new
grows_one t old new is = record { is = ∣ (t ∷ [], is) ∣₁ }

pub grows_trans : (a b c : List Told) → Grows a b → Grows b c → Grows a c
grows_trans a b c before next = record {
  is = ∥∥₁_elim before.is (hlevel) (λ p. ∥∥₁_elim next.is (hlevel) (λ q.
      ∣ (q.0 ++ p.0, q.1 ∙ ap (λ ts. q.0 ++ ts) p.1 ∙ sym (append_assoc q.0 p.0 a)) ∣₁));
}

pub grows_equal : (old new : List Told) → new ≡ old → Grows old new
grows_equal old new is = record { is = ∣ ([], is) ∣₁ }

-- what closes most claims that a list grows
pub ruleset growing = (grows_same, grows_equal, grows_one, grows_trans)

agrees_behind : (world : World) (more old : List Told) → Agrees world (more ++ old) → Agrees world old
agrees_behind world [] old agrees = agrees
agrees_behind world (t ∷ more) old agrees = agrees_behind world more old agrees.1

-- a world that agrees with more agrees with less
pub agrees_before : (world : World) (old new : List Told) → Grows old new → Agrees world new → Agrees world old
agrees_before world old new grows agrees = ∥∥₁_elim grows.is (Agrees-prop world old)
    (λ p. agrees_behind world p.0 old (subst (Agrees world) p.1 agrees))

-- the answer that was told last holds in a world that agrees
pub told_answer : (world : World) (t : Told) (old new : List Told) → new ≡ t ∷ old → Agrees world new → Holds world t
told_answer world t old new is agrees = (subst (Agrees world) is agrees).0

pub allowed_behind : (roots : List (List ℕ)) (more old : List Told) (m : List ℕ) → IsTrue (is_allowed roots old m)
    → IsTrue (is_allowed roots (more ++ old) m)
allowed_behind roots [] old m allowed = allowed
allowed_behind roots (t ∷ more) old m allowed =
    or_right (is_among (names_given t) m) _ (allowed_behind roots more old m allowed)

-- what was allowed before still is
pub allowed_before : (roots : List (List ℕ)) (old new : List Told) (m : List ℕ) → Grows old new
    → IsTrue (is_allowed roots old m) → IsTrue (is_allowed roots new m)
allowed_before roots old new m grows allowed = ∥∥₁_elim grows.is (hlevel props)
    (λ p. subst (λ ts. IsTrue (is_allowed roots ts m)) (sym p.1) (allowed_behind roots p.0 old m allowed))

pub are_allowed_before : (roots : List (List ℕ)) (old new : List Told) (names : List (List ℕ)) → Grows old new
    → AreAllowed roots old names → AreAllowed roots new names
are_allowed_before roots old new names grows allowed =
    record { each = λ m among. allowed_before roots old new m grows (allowed.each m among) }

founded_behind : (roots : List (List ℕ)) (more old : List Told) → IsFounded roots (more ++ old) → IsFounded roots old
founded_behind roots [] old founded = founded
founded_behind roots (t ∷ more) old founded = founded_behind roots more old founded.1

-- what is founded was so before
pub founded_before : (roots : List (List ℕ)) (old new : List Told) → Grows old new → IsFounded roots new
    → IsFounded roots old
founded_before roots old new grows founded = ∥∥₁_elim grows.is (IsFounded-prop roots old)
    (λ p. founded_behind roots p.0 old (subst (IsFounded roots) p.1 founded))
