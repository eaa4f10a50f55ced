use Rattle.facts.specs.Latest.{Agrees}
use Rattle.book_laws.specs.Made.{rows_published}
use Rattle.book_laws.proofs.MadeLaws.{all_kept, book_made}
use Rattle.book_laws.proofs.kept_rows.Goals as goal

pub returns-clause-made : goal.returns-clause-made
returns-clause-made g c entries text bytes events book steps = book_made
    (Agrees g.P.Parts.plan_agrees g.P.Parts.own_agrees) g.P.Parts.is_sound entries text bytes events book steps

pub returns-clause-all : goal.returns-clause-all
returns-clause-all g c entries text bytes events book steps none_dropped =
    all_kept (rows_published events) book.table
    (returns-clause-made g c entries text bytes events book steps) none_dropped
