-- A place in a list, with more behind it.
use Rattle.std.specs.Prelude.{◌≡◌, ◌<◌, ℕ, zero, suc, List, [], ◌∷◌, ◌++◌, length, slice_get}
use Rattle.std.proofs.Common.{refl, arith}

pub get_more : {X : Type 0} (xs more : List X) (at : ℕ) → at < length xs → slice_get (xs ++ more) at ≡ slice_get xs at
get_more [] more at within = absurd (omega arith)
get_more (x ∷ xs) more zero within = refl
get_more (x ∷ xs) more (suc at) within = get_more xs more at (omega arith)
