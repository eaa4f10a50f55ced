-- What a door tells, from one call of it to the next: connections are accepted, and as long as fewer were taken back than
-- were accepted, one may be handed back.
use Rattle.std.proofs.Common.{◌≡◌, ◌<◌, ◌≤◌, ◌+◌, ◌++◌, ℕ, List, [], ◌∷◌, Option, Some, None, length, length-append, append-nil, append_assoc, refl, sym, ap, ◌∙◌, arith}
use Rattle.dita_outside.specs.Links.{AreToldAlike, DoorTold, HasMore, Links, NoMoreReturned, SomeAreOut}

module _ {X : Type 0} where
  pub more_none : (old : Option (List X)) → HasMore old old []
  more_none None = tt
  more_none (Some old) = sym (append-nil old)

  pub more_then : (a b c : Option (List X)) (xs ys : List X) → HasMore a b xs → HasMore b c ys → HasMore a c (xs ++ ys)
  more_then None b c xs ys first then = tt
  more_then (Some a) None c xs ys first then = absurd first
  more_then (Some a) (Some b) None xs ys first then = absurd then
  more_then (Some a) (Some b) (Some c) xs ys first then =
      then ∙ ap (λ list. list ++ ys) first ∙ append_assoc a xs ys

-- nothing, and then these; or these, and then nothing
pub none_then : {X : Type 0} (a b c : Option (List X)) (xs : List X) → HasMore a b [] → HasMore b c xs → HasMore a c xs
none_then a b c xs first then = more_then a b c [] xs first then

pub then_none : {X : Type 0} (a b c : Option (List X)) (xs : List X) → HasMore a b xs → HasMore b c [] → HasMore a c xs
then_none None b c xs first then = tt
then_none (Some a) None c xs first then = absurd first
then_none (Some a) (Some b) None xs first then = absurd then
then_none (Some a) (Some b) (Some c) xs first then = then ∙ append-nil b ∙ first

-- connections may be handed back as long as fewer were than came
pub some_out : (accepted returned came back : Option Links) (links went : Links) → NoMoreReturned accepted returned
    → AreToldAlike accepted came → AreToldAlike returned back → HasMore accepted came links → HasMore returned back went
    → length went < length links → SomeAreOut came back
some_out accepted returned None back links went few same too more also less = tt
some_out accepted returned (Some came) None links went few same too more also less = tt
some_out None returned (Some came) (Some back) links went few same too more also less = absurd same
some_out (Some accepted) None (Some came) (Some back) links went few same too more also less = absurd too
some_out (Some accepted) (Some returned) (Some came) (Some back) links went few same too more also less =
    let a = ap length more in let b = length-append accepted links in let c = ap length also in
    let d = length-append returned went in omega (arith, few, less, a, b, c, d)
