-- How many parts bytes have.
use Rattle.std.specs.Prelude.{◌≡◌, ◌||◌, ◌≤◌, ℕ, Bool, true, false, List, [], ◌∷◌, length}
use Rattle.std.specs.List.{list_any}
use Rattle.std.proofs.Common.{refl, arith}
use Rattle.std.proofs.lemmas.Bool.{false≢true}
use Rattle.dita_doc.specs.Bytes.{onto_first, parts_by}

-- a byte put before the first part takes no part away
longer : (b : ℕ) (parts : List (List ℕ)) → length parts ≤ length (onto_first b parts)
longer b [] = omega arith
longer b (first ∷ parts) = omega arith

-- there is always a part
one_from : (ends : ℕ → Bool) (b : ℕ) (bytes : List ℕ) (ended : Bool) → ends b ≡ ended
    → 1 ≤ length (parts_by ends bytes) → 1 ≤ length (parts_by ends (b ∷ bytes))
one_from ends b bytes true e one = rw e (omega arith)
one_from ends b bytes false e one = rw e (omega (arith, longer b (parts_by ends bytes)))

pub has_one : (ends : ℕ → Bool) (bytes : List ℕ) → 1 ≤ length (parts_by ends bytes)
has_one ends [] = omega arith
has_one ends (b ∷ bytes) = one_from ends b bytes (ends b) refl (has_one ends bytes)

-- and with a byte that ends one there are two or more
two_from : (ends : ℕ → Bool) (b : ℕ) (bytes : List ℕ) (ended : Bool) → ends b ≡ ended
    → (ended || list_any ends bytes) ≡ true → (list_any ends bytes ≡ true → 2 ≤ length (parts_by ends bytes))
    → 2 ≤ length (parts_by ends (b ∷ bytes))
two_from ends b bytes true e any two = rw e (omega (arith, has_one ends bytes))
two_from ends b bytes false e any two = rw e (omega (arith, two any, longer b (parts_by ends bytes)))

pub has_two : (ends : ℕ → Bool) (bytes : List ℕ) → list_any ends bytes ≡ true → 2 ≤ length (parts_by ends bytes)
has_two ends [] any = absurd (false≢true any)
has_two ends (b ∷ bytes) any = two_from ends b bytes (ends b) refl any (has_two ends bytes)
