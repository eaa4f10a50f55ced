use Rattle.desk_lock.specs.Picks.{no_claim, no_row}
use Rattle.desk_lock.proofs.claims.Desk+Book+P.release.Given as goal

abbrev pub ghosts-open_released : goal.ghosts-open_released
ghosts-open_released g a = record { picked_claim = no_claim; picked_row = no_row; picked_serial = a._serial }
