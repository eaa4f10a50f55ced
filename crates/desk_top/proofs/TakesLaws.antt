-- What an outlet took, one part of the pages after another.
use Rattle.std.specs.Prelude.{◌≡◌, ℕ, [], ◌++◌, Option, Some, None, Result, Ok, Err, IsErrAnd}
use Rattle.std.proofs.Common.{refl, ap, sym, ◌∙◌, append_assoc, append-nil, subst}
use Rattle.dita_doc.specs.declared.stop.Stop.{Stop}
use Rattle.dita_outside.specs.Cause.{HasCauseOrNoMemory}
use Rattle.dita_outside.specs.Pages.{Pages, TakesPages, TakesPagesFront, PutsPages}

-- an outlet that stayed as it was took nothing
pub takes_none : (a : Option Pages) → TakesPages a a []
takes_none None = tt
takes_none (Some a) = sym (append-nil a)

-- pages, and then others
pub takes_then : (a b c : Option Pages) (xs ys : Pages) → TakesPages a b xs → TakesPages b c ys
    → TakesPages a c (xs ++ ys)
takes_then None b c xs ys p q = tt
takes_then (Some a) None c xs ys p q = absurd p
takes_then (Some a) (Some b) None xs ys p q = q
takes_then (Some a) (Some b) (Some c) xs ys p q = q ∙ ap (λ zs. zs ++ ys) p ∙ append_assoc a xs ys

-- all of them
pub front_all : (a b : Option Pages) (xs : Pages) → TakesPages a b xs → TakesPagesFront a b xs
front_all a b xs p = (xs, [], sym (append-nil xs), p)

-- all pages, where others were to come
pub takes_front : (a b : Option Pages) (xs ys : Pages) → TakesPages a b xs → TakesPagesFront a b (xs ++ ys)
takes_front a b xs ys p = (xs, ys, refl, p)

-- the first of some pages, where others were to come
pub front_more : (a b : Option Pages) (xs ys : Pages) → TakesPagesFront a b xs → TakesPagesFront a b (xs ++ ys)
front_more a b xs ys f = (f.0, f.1 ++ ys, ap (λ zs. zs ++ ys) f.2 ∙ append_assoc f.0 f.1 ys, f.3)

-- pages, and then the first of others
pub takes_then_front : (a b c : Option Pages) (xs ys : Pages) → TakesPages a b xs → TakesPagesFront b c ys
    → TakesPagesFront a c (xs ++ ys)
takes_then_front a b c xs ys p f = (
  xs ++ f.0,
  f.1,
  ap (λ zs. xs ++ zs) f.2
      ∙ sym (append_assoc xs f.0 f.1),
  takes_then a b c xs f.0 p f.3,
)

-- the first of some pages, where the call that was to put them has failed
pub puts_front : {A E : Type 0} (Q : E → Type 0) (a b : Option Pages) (xs : Pages) (result : Result A E)
    → IsErrAnd result Q → TakesPagesFront a b xs → PutsPages a b result xs
puts_front Q a b xs (Ok x) failed front = absurd failed
puts_front Q a b xs (Err e) failed front = front

-- the cause of the last of several calls, of which those before it left the count, is one of them all
pub cause_from : {T E : Type 0} (a b c : ℕ) (result : Result T (Stop E)) → b ≡ a → HasCauseOrNoMemory b c result
    → HasCauseOrNoMemory a c result
cause_from a b c result same h = subst (λ (before : ℕ). HasCauseOrNoMemory before c result) same h
