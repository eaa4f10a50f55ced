-- The maps that were asked for.
use Rattle.std.specs.Prelude.{◌≡◌, ℕ, zero, suc, Bool, List, [], ◌∷◌, get_or}
use Rattle.std.proofs.Common.{refl, ap, set}
use Rattle.map_expand.specs.Homes.{flags, home_of, homes}
use Rattle.map_expand.specs.declared.maps.MapDoc.{MapDoc}

-- a map is marked: nothing else of it changes
pub homes_marked : (maps : List MapDoc) (at : ℕ) (found : MapDoc) (is : Bool) → found ≡ get_or maps at found
    → homes (set maps at (record found { is_around = is })) ≡ homes maps
homes_marked [] at found is same = refl
homes_marked (first ∷ maps) zero found is same = ap (λ x. home_of x ∷ homes maps) same
homes_marked (first ∷ maps) (suc at) found is same = ap (λ more. home_of first ∷ more) (homes_marked maps at found is same)

pub flags_marked : (maps : List MapDoc) (at : ℕ) (found : MapDoc) (is : Bool)
    → flags (set maps at (record found { is_around = is })) ≡ set (flags maps) at is
flags_marked [] at found is = refl
flags_marked (first ∷ maps) zero found is = refl
flags_marked (first ∷ maps) (suc at) found is = ap (λ more. first.is_around ∷ more) (flags_marked maps at found is)
