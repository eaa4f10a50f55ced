-- The room in which a door keeps what is given back (own): it is taken beforehand, so that taking back needs none.
use Rattle.std.proofs.Common.{◌≤◌, ◌+◌, ◌==◌, ◌&&◌, ◌∙◌, ℕ, Bool, true, List, [], ◌∷◌, length, map, nat_lt, subst, sym, vec_capacity}
use Rattle.std.proofs.lemmas.List.{length-map}
use Rattle.std.specs.declared.vec.Vec.{Vec}

-- each room is empty; the first holds more than so many items, and each later one an item more
abbrev pub are_rooms : {X Z : Type 0} → ℕ → List (Vec X Z) → Bool
are_rooms count [] = true
are_rooms count (room ∷ rooms) = (length room.items == 0) && nat_lt count (vec_capacity room) && are_rooms (count + 1) rooms

-- no more than there are of others, also once each is seen otherwise
pub no_more_seen : {X Y Z : Type 0} (seen : X → Y) (value : Z → X) (fewer : List X) (more : List Z)
    → length fewer ≤ length more → length (map seen fewer) ≤ length (map seen (map value more))
no_more_seen seen value fewer more is =
    subst (λ (n : ℕ). n ≤ length (map seen (map value more))) (sym (length-map fewer seen))
    (subst (λ (n : ℕ). length fewer ≤ n) (sym (length-map (map value more) seen ∙ length-map more value)) is)
