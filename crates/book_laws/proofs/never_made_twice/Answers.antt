use Rattle.facts.specs.Latest.{Agrees}
use Rattle.book_laws.proofs.MadeLaws.{fresh_of_all}
use Rattle.book_laws.proofs.never_made_twice.Goals as goal

pub returns : goal.returns
returns g c entries text bytes events book row later steps = fresh_of_all
    (Agrees g.P.Parts.plan_agrees g.P.Parts.own_agrees) g.P.Parts.is_sound entries text bytes events book row later steps
