-- What was defined, by its image.
use Rattle.std.specs.Prelude.{◌≡◌, Result, Ok, Err}
use Rattle.std.specs.Result.{result_map_both}
use Rattle.std.proofs.Common.{refl, ap}

pub record Found {A B E : Type 0} (f : A → B) (defined : Result A E) (b : B) : Type 0 where
  pub value : A
  pub is : defined ≡ Ok value
  pub gives : f value ≡ b

-- what was defined, if its image is there
pub some_of : {A B E : Type 0} (f : A → B) (defined : Result A E) (b : B)
    → result_map_both f (λ e. e) defined ≡ Ok b → Found f defined b
some_of f (Ok a) b is = record { value = a; is = refl; gives = let same : f a ≡ b = cc in same }
some_of f (Err e) b is = cc

pub none_of : {A B E : Type 0} (f : A → B) (defined : Result A E) (e : E)
    → result_map_both f (λ e. e) defined ≡ Err e → defined ≡ Err e
none_of f (Ok a) e is = cc
none_of f (Err other) e is = let same : other ≡ e = cc in ap Err same
