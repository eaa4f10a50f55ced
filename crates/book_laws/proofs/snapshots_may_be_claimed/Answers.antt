use Rattle.desk_core.proofs.InvariantLaws.{new_holds, steps_hold}
use Rattle.desk_core.proofs.StampLaws.{snapshot_is_of}
use Rattle.desk_core.specs.Book.{new_book}
use Rattle.desk_core.specs.Invariant.{IsInOrder}
use Rattle.facts.specs.Latest.{Agrees, FactAgrees}
use Rattle.book_laws.proofs.snapshots_may_be_claimed.Goals as goal

pub returns : goal.returns
returns g c entries text bytes events book steps =
    let agrees : FactAgrees = Agrees g.P.Parts.plan_agrees g.P.Parts.own_agrees in
    let order : IsInOrder agrees g.P.Parts.is_sound book = steps_hold agrees g.P.Parts.is_sound
    (new_book entries text bytes) events book steps (new_holds agrees g.P.Parts.is_sound entries text bytes) in
    snapshot_is_of book.store order.store
