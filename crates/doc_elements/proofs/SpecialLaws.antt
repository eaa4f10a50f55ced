-- Types that begin with others: with none nothing begins, and what begins with some has some itself.
use Rattle.std.specs.Prelude.{◌≡◌, ◌&&◌, ◌==◌, ℕ, Bool, true, false, not, List, [], ◌∷◌, length}
use Rattle.std.proofs.Common.{arith, refl}
use Rattle.std.proofs.lemmas.Bool.Decides.{nat_tests}
use Rattle.map_spec.specs.Elements.{begins_with}

abbrev pub has_some : List (List ℕ) → Bool
has_some tokens = not (length tokens == 0)

both_fail : (first third : Bool) → false ≡ (first && false && third)
both_fail true third = refl
both_fail false third = refl

pub none_wanted : (own wanted : List (List ℕ)) → wanted ≡ []
    → false ≡ (has_some own && has_some wanted && begins_with own wanted)
none_wanted own wanted none = rw none (both_fail (has_some own) true)

not_empty : (token : List ℕ) (tokens : List (List ℕ)) → (length (token ∷ tokens) == 0) ≡ false
not_empty token tokens = grind (arith, nat_tests)

pub some_wanted : (own wanted more : List (List ℕ)) (word : List ℕ) → wanted ≡ word ∷ more
    → begins_with own wanted ≡ (has_some own && has_some wanted && begins_with own wanted)
some_wanted [] wanted more word is = rw is refl
some_wanted (token ∷ own) wanted more word is = rw is (simp (not_empty token own, not_empty word more) refl)
