use Rattle.desk_lock.proofs.desk.Desk.session.Given as goal

abbrev pub ghosts-cut : goal.ghosts-cut
ghosts-cut g a = record { for_session = a._session; with_parts = a._parts }
