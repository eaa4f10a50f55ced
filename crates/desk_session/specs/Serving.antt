-- What the sessions of one desk leave in its one history (own), once all of them have ended.
use Rattle.std.specs.Prelude.{◌≢◌, ◌+◌, ◌==◌, ℕ, List, [], ◌∷◌, Contains, if◌then◌else◌}
use Rattle.dita_doc.specs.History.{Entry}
use Rattle.dita_outside.specs.Links.{LinkTold}
use Rattle.transcript_text.specs.Transcript.{RowShown}
use Rattle.version_store.specs.Kept.{entry_limit_of_desk, text_limit_of_desk}
use Rattle.desk_lock.specs.Lists.{StartsWith}
use Rattle.desk_session.specs.Answers.{CleanBuild, SessionBasis}
use Rattle.desk_session.specs.Ends.{Ends, Room}
use Rattle.desk_session.specs.declared.end.SessionEnd.{SessionEnd}
use Rattle.desk_session.specs.declared.end.SessionEnd.TheVariants.{NoMemory}

-- the places of all entries of this session, from this place on
abbrev pub places_from : ℕ → ℕ → List Entry → List ℕ
places_from session place [] = []
places_from session place (entry ∷ entries) =
    if entry.session == session then place ∷ places_from session (place + 1) entries
    else places_from session (place + 1) entries

abbrev pub standard_room : Room
standard_room = record { entries = entry_limit_of_desk; bytes = text_limit_of_desk }

-- it saw this much of the history when it ended
abbrev pub basis_at : CleanBuild → List RowShown → ℕ → List Entry → SessionBasis
basis_at clean rows session seen = record {
  clean = clean;
  history = seen;
  IsKnown = Contains rows;
  session = session;
  behind = 0;
}

-- the session ended so, and its entries are all that the history has of it
pub record ServesDesk (clean : CleanBuild) (history : List Entry) (rows : List RowShown) (session : ℕ)
    (old new : LinkTold) (ended : SessionEnd) : Type 0 where
  pub seen : List Entry
  pub begins : StartsWith history seen
  pub ends : Ends (basis_at clean rows session seen) standard_room ended old new (places_from session 0 history)

-- the session ended, and memory may have run out
abbrev pub breaks : CleanBuild → List Entry → List RowShown → ℕ → LinkTold → LinkTold → Type 0
breaks clean history rows session old new =
    (ended : SessionEnd) × ServesDesk clean history rows session old new ended

-- the session ended, and memory did not run out
abbrev pub serves : CleanBuild → List Entry → List RowShown → ℕ → LinkTold → LinkTold → Type 0
serves clean history rows session old new =
    (ended : SessionEnd) × ServesDesk clean history rows session old new ended × (ended ≢ NoMemory)
