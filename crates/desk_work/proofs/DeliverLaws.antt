-- The pages of a build that were put so far.
use Rattle.std.proofs.Common.{◌≡◌, ℕ, List, [], ◌++◌, Option, Some, None, Result, Ok, Err, IsErrAnd, map, take, drop, ap, sym, ◌∙◌, subst, append_assoc, append-nil}
use Rattle.std.proofs.lemmas.List.{map-append, take-append-drop}
use Rattle.dita_doc.specs.declared.stop.Stop.{Stop}
use Rattle.dita_outside.specs.Cause.{HasCauseOrNoMemory}
use Rattle.dita_outside.specs.Pages.{Pages, PutsPages, TakesPages, TakesPagesFront}
use Rattle.desk_work.specs.Build.{page_seen}
use Rattle.desk_work.specs.declared.built.PageRow.{PageRow}

takes_then : (a b c : Option Pages) (xs ys : Pages) → TakesPages a b xs → TakesPages b c ys → TakesPages a c (xs ++ ys)
takes_then None b c xs ys p q = tt
takes_then (Some a) None c xs ys p q = absurd p
takes_then (Some a) (Some b) None xs ys p q = q
takes_then (Some a) (Some b) (Some c) xs ys p q = q ∙ ap (λ (zs : Pages). zs ++ ys) p ∙ append_assoc a xs ys

-- the first pages, if one that was to come was not taken
pub put_front : (i : ℕ) (pages : List PageRow) (a b c : Option Pages) → TakesPages a b (map page_seen (take i pages))
    → TakesPages b c [] → TakesPagesFront a c (map page_seen pages)
put_front i pages a b c before none = (
  map page_seen (take i pages),
  map page_seen (drop i pages),
  ap (λ (list : List PageRow). map page_seen list) (sym (take-append-drop i pages))
      ∙ map-append page_seen (take i pages) (drop i pages),
  subst (TakesPages a c) (append-nil (map page_seen (take i pages)))
      (takes_then a b c (map page_seen (take i pages)) [] before none),
)

-- the first of some pages, where the call that was to put them has failed
pub puts_front : {A E : Type 0} (Q : E → Type 0) (a b : Option Pages) (xs : Pages) (result : Result A E)
    → IsErrAnd result Q → TakesPagesFront a b xs → PutsPages a b result xs
puts_front Q a b xs (Ok x) failed front = absurd failed
puts_front Q a b xs (Err e) failed front = front

-- the cause of the last of several calls, of which those before it left the count, is one of them all
pub cause_from : {T E : Type 0} (a b c : ℕ) (result : Result T (Stop E)) → b ≡ a → HasCauseOrNoMemory b c result
    → HasCauseOrNoMemory a c result
cause_from a b c result same h = subst (λ (before : ℕ). HasCauseOrNoMemory before c result) same h
