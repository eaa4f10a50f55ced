-- Bytes, cut at the first or the last of a kind.
use Rattle.std.specs.Prelude.{◌≡◌, ◌==◌, ℕ, false, List, ◌∷◌, ◌++◌}
use Rattle.std.specs.List.{list_any}

-- no byte of the list is this one
abbrev pub Lacks : ℕ → List ℕ → Type 0
Lacks byte bytes = list_any (λ b. b == byte) bytes ≡ false

-- the front, which has none of it, the byte, and what stands behind it
pub record IsCutAt (byte : ℕ) (bytes front back : List ℕ) : Type 0 where
  pub whole : bytes ≡ front ++ byte ∷ back
  pub first : Lacks byte front

-- the front, the byte, and what stands behind it, which has none of it
pub record IsCutAtLast (byte : ℕ) (bytes front back : List ℕ) : Type 0 where
  pub whole : bytes ≡ front ++ byte ∷ back
  pub last : Lacks byte back
