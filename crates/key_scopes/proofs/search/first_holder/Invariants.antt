use Rattle.std.proofs.Common.{◌≡◌, find, is_some, length}
use Rattle.key_scopes.specs.Defined.{AreStrict}
use Rattle.key_scopes.specs.Table.{firsts_of, own_in}
use Rattle.key_scopes.specs.Ways.{AreInTurn}
use Rattle.key_scopes.proofs.search.first_holder.Given as goal

pub record IsLeft (Strict Turn Left Found : Type 0) : Type 0 where
  pub turn : Turn → Left
  pub found : Strict → Turn → Found

abbrev pub invariant-loop-name : goal.invariant-loop-name
invariant-loop-name l = IsLeft (AreStrict (firsts_of l.definitions.sorted.items)) (AreInTurn l.names) (AreInTurn l.left)
    (find (λ name. is_some (own_in (firsts_of l.definitions.sorted.items) name.child l.key)) l.names
    ≡ find (λ name. is_some (own_in (firsts_of l.definitions.sorted.items) name.child l.key)) l.left)

abbrev pub decreases-loop-name : goal.decreases-loop-name
decreases-loop-name l = length l.left
