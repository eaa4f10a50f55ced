use Rattle.facts.specs.Rows.{row_data}
use Rattle.desk_lock.specs.Picks.{no_claim}
use Rattle.desk_lock.proofs.claims.Desk+Book+P.publish.Given as goal

abbrev pub ghosts-open_printed : goal.ghosts-open_printed
ghosts-open_printed g a = record { picked_claim = no_claim; picked_row = row_data a._row.now; picked_serial = 0 }
