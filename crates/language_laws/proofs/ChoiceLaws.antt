-- Choices between equal things are equal.
use Rattle.std.specs.Prelude.{◌≡◌, Bool, true, false, Option, Some, None, if◌then◌else◌}
use Rattle.std.specs.Option.{option_map_or}
use Rattle.std.proofs.Common.{refl}

-- two choices by one test are equal if what they choose is
pub both_same : {X : Type 0} (test : Bool) (x y z w : X) → (test ≡ true → x ≡ z) → (test ≡ false → y ≡ w)
    → (if test then x else y) ≡ (if test then z else w)
both_same true x y z w first second = first refl
both_same false x y z w first second = second refl

-- two functions of what was found give the same if they agree on it
pub map_or_same : {X Y : Type 0} (found : Option X) (f g : X → Y) (other : Y) → ((x : X) → found ≡ Some x → f x ≡ g x)
    → option_map_or f found other ≡ option_map_or g found other
map_or_same None f g other same = refl
map_or_same (Some x) f g other same = same x refl
