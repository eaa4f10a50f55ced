-- The first of some things that passes a test, as another list shows them.
use Rattle.std.specs.Prelude.{◌≡◌, Bool, true, false, List, [], ◌∷◌, Option, Some, find, map, option_map}
use Rattle.std.specs.Borrow.{Bor}
use Rattle.std.proofs.Common.{refl, cond}

module _ {X Y : Type 0} (show : X → Y) (test : Y → Bool) where
  -- one more in front
  one_more : (x : X) (shown : Option Y) (found : Option X) (passes : Bool) → shown ≡ option_map show found
      → cond passes (Some (show x)) shown ≡ option_map show (cond passes (Some x) found)
  one_more x shown found true same = refl
  one_more x shown found false same = same

  -- what is found among the shown is the first that passes as shown
  find_shown : (xs : List X) → find test (map show xs) ≡ option_map show (find (λ x. test (show x)) xs)
  find_shown [] = refl
  find_shown (x ∷ xs) = one_more x _ _ (test (show x)) (find_shown xs)

  -- the same for a list that has them as shown, and a reference to the one that was found
  pub found_shown : (xs : List X) (shown : List Y) (found : Option (Bor X)) → map show xs ≡ shown
      → option_map (λ (x : Bor X). x.now) found ≡ find (λ x. test (show x)) xs
      → option_map show (option_map (λ (x : Bor X). x.now) found) ≡ find test shown
  found_shown xs shown found same is = rw (is, ← same, find_shown xs) refl
