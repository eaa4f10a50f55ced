-- One name more in a set of names.
use Rattle.std.specs.Prelude.{◌≡◌, ◌||◌, ℕ, Bool, true, false, List, ◌∷◌, bytes_eq, is_some, Option, Some, if◌then◌else◌}
use Rattle.std.specs.Borrow.{Bor}
use Rattle.std.specs.BTreeSet.{BTreeSet, Updates}
use Rattle.std.proofs.Common.{refl}
use Rattle.std.proofs.lemmas.Map.Text.{is_eq-slice_cmp}
use Rattle.dita_doc.specs.ClassValue.{value_of}
use Rattle.dita_doc.specs.declared.doc.Attribute.{Attribute}
use Rattle.conref_pull.specs.NameSet.{is_name_in, name_cmp}

by_test : (same known : Bool) (value : List ℕ) (other : Option (List ℕ))
    → ((if same then true else known) || is_some other) ≡ (known || is_some (if same then Some value else other))
by_test true true value other = refl
by_test true false value other = refl
by_test false known value other = refl

-- the name of the first of some attributes, put into the set
pub name_put : (names new : BTreeSet (Bor (List ℕ))) (put name : Bor (List ℕ)) (first : Attribute) (rest : List Attribute)
    → Updates name_cmp names new put true → put.now ≡ first.name
    → (is_name_in new name || is_some (value_of name.now rest))
    ≡ (is_name_in names name || is_some (value_of name.now (first ∷ rest)))
name_put names new put name first rest updates is =
    rw (updates.0 name, is_eq-slice_cmp put.now name.now, is)
    (by_test (bytes_eq first.name name.now) (is_name_in names name) first.value (value_of name.now rest))
