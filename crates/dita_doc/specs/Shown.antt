-- Lists of references, as the lists of what they refer to.
use Rattle.std.specs.Borrow.{Bor}
use Rattle.std.specs.Prelude.{List, map}

abbrev pub shown : {X : Type 0} → List (Bor X) → List X
shown {X = X} items = map (λ (item : Bor X). item.now) items
