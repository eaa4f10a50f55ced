-- The fault of a transparent element, by its class value.
use Rattle.std.specs.Prelude.{◌≡◌, ℕ, true, false, List, [], ◌∷◌, Option, codes}
use Rattle.std.proofs.Common.{refl, ap}
use Rattle.map_spec.specs.Elements.{attribute, class_fault, class_faults, is_transparent}
use Rattle.map_spec.specs.Written.{Element}

-- another element has none
pub no_fault : (element : Element) → false ≡ is_transparent element → [] ≡ class_faults element
no_fault element is = rw (← is) refl

-- it has one
pub one_fault : (element : Element) (value : Option (List ℕ)) → true ≡ is_transparent element
    → value ≡ attribute (codes "class") element → class_fault element value ∷ [] ≡ class_faults element
one_fault element value is written = rw (← is) (ap (λ value. class_fault element value ∷ []) written)
