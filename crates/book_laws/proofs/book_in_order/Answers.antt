use Rattle.desk_core.proofs.InvariantLaws.{new_holds, steps_hold}
use Rattle.desk_core.specs.Book.{new_book}
use Rattle.facts.specs.Latest.{Agrees}
use Rattle.book_laws.proofs.book_in_order.Goals as goal

pub returns : goal.returns
returns g c entries text bytes events book steps = steps_hold
    (Agrees g.P.Parts.plan_agrees g.P.Parts.own_agrees) g.P.Parts.is_sound (new_book entries text bytes) events book
    steps (new_holds (Agrees g.P.Parts.plan_agrees g.P.Parts.own_agrees) g.P.Parts.is_sound entries text bytes)
