-- The rooms of a door, and one more behind them.
use Rattle.std.proofs.Common.{◌≡◌, ◌+◌, ◌<◌, ℕ, List, [], ◌∷◌, ◌++◌, IsTrue, length, arith, vec_capacity}
use Rattle.std.specs.declared.vec.Vec.{Vec}
use Rattle.dita_outside.specs.Rooms.{are_rooms}

pub are_rooms_more : {X Z : Type 0} (count : ℕ) (rooms : List (Vec X Z)) (room : Vec X Z)
    → IsTrue (are_rooms count rooms) → room.items ≡ [] → count + length rooms < vec_capacity room
    → IsTrue (are_rooms count (rooms ++ room ∷ []))
are_rooms_more count [] room rest empty enough = grind arith
are_rooms_more count (first ∷ rooms) room rest empty enough = grind (arith, are_rooms_more (count + 1) rooms room)
