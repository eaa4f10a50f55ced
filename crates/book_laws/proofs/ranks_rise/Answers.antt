use Rattle.facts.specs.Latest.{Agrees}
use Rattle.book_laws.specs.Made.{rows_published}
use Rattle.book_laws.proofs.MadeLaws.{book_made, rank_below}
use Rattle.book_laws.proofs.ranks_rise.Goals as goal

pub returns : goal.returns
returns g c entries text bytes events book first second row later steps low at at_later =
    rank_below (rows_published events) book.table first second row later
    (book_made (Agrees g.P.Parts.plan_agrees g.P.Parts.own_agrees) g.P.Parts.is_sound entries text bytes events book steps)
    low at at_later
