use Rattle.facts.specs.Rows.{row_data}
use Rattle.desk_lock.specs.Picks.{claim_at, no_claim, no_row}
use Rattle.desk_lock.proofs.desk.Desk.open_claimed.Given as goal

abbrev pub ghosts-open_given : goal.ghosts-open_given
ghosts-open_given g a = record { picked_claim = no_claim; picked_row = row_data a._row.now; picked_serial = 0 }

abbrev pub ghosts-open_met : goal.ghosts-open_met
ghosts-open_met g a =
    record { picked_claim = claim_at a._serial a._key.now a._stamp; picked_row = no_row; picked_serial = 0 }

abbrev pub ghosts-open_drawn : goal.ghosts-open_drawn
ghosts-open_drawn g a = record { picked_claim = a._ticket.now; picked_row = no_row; picked_serial = 0 }
