-- What the sessions of a script ask (own): each its requests in order, with their numbers in the script. Where they stand
-- in a history, so far as a session knows; and what whoever takes the sessions in knows then.
use Rattle.std.specs.Prelude.{◌≡◌, ◌+◌, ◌<◌, ◌≤◌, ◌==◌, ℕ, List, [], ◌∷◌, ◌++◌, All, AllPairs, Option, Some, if◌then◌else◌, flat_map, length, map, slice_get}
use Rattle.std.specs.List.{AllZip}
use Rattle.dita_doc.specs.Desk.{Reply}
use Rattle.dita_doc.specs.History.{Entry}
use Rattle.dita_doc.specs.Request.{Build, Request}
use Rattle.dita_doc.specs.Seen.{request_seen}
use Rattle.dita_doc.specs.declared.request.Request as given
use Rattle.script_text.specs.Script.{Step}
use Rattle.desk_lock.specs.Knows.{with_session}
use Rattle.desk_lock.specs.Lists.{StartsWith}
use Rattle.desk_lock.specs.declared.view.View.{View}

-- a request, with its number in the script
pub record Asked : Type 0 where
  pub number : ℕ
  pub request : Request

abbrev pub asked_seen : ℕ × given.Request → Asked
asked_seen asked = record { number = asked.0; request = request_seen asked.1 }

abbrev pub asked_build : ℕ → List ℕ → Option (List ℕ) → Asked
asked_build asked root val = record { number = asked; request = Build root val }

abbrev pub all_asked : List (ℕ × given.Request) → List Asked
all_asked asked = map asked_seen asked

-- the requests of a session, among steps of which the first has this number
abbrev pub asked_by : ℕ → ℕ → List Step → List Asked
asked_by session number [] = []
asked_by session number (step ∷ steps) =
    if session == step.session
    then record { number = number; request = step.request } ∷ asked_by session (number + 1) steps
    else asked_by session (number + 1) steps

-- Sessions

-- a request of a session stands at the place
pub record IsAskedAt (log : List Entry) (session : ℕ) (asked : Asked) (place : ℕ) : Type 0 where
  pub answer : Reply
  pub stands : slice_get log place
      ≡ Some (record { session = session; number = asked.number; request = asked.request; reply = answer })

abbrev pub IsBefore : ℕ → ℕ → Type 0
IsBefore place later = place < later

-- a session has asked these requests in order and no others, and has taken in nobody
pub record HasAsked (w : View) (asked : List Asked) : Type 0 where
  pub alone : w.theirs ≡ []
  pub at : AllZip (IsAskedAt w.seen w.session) asked w.mine
  pub rise : AllPairs IsBefore w.mine

-- it asked one more, which stands behind all that it had seen
pub record AsksOne (v : View) (asked : Asked) (w : View) : Type 0 where
  pub place : ℕ
  pub session : w.session ≡ v.session
  pub later : StartsWith w.seen v.seen
  pub behind : length v.seen ≤ place
  pub mine : w.mine ≡ v.mine ++ place ∷ []
  pub theirs : w.theirs ≡ v.theirs
  pub at : IsAskedAt w.seen v.session asked place

-- it asked these, and nothing before them
pub record AsksAll (v : View) (asked : List Asked) (w : View) : Type 0 where
  pub session : w.session ≡ v.session
  pub has : HasAsked w asked

-- All sessions

-- nothing stands in the history of its own, or of another that it took in, and neither published a row
pub record HasNone (v : View) : Type 0 where
  pub mine : v.mine ≡ []
  pub theirs : v.theirs ≡ []
  pub published : v.published ≡ []

-- the entries of a party, and of those that it took in
abbrev pub brought : View → List (ℕ × ℕ)
brought u = u.theirs ++ with_session u.session u.mine

-- it took in all that these knew
pub record TakesIn (v : View) (others : List View) (w : View) : Type 0 where
  pub later : StartsWith w.seen v.seen
  pub too : All (λ (u : View). StartsWith w.seen u.seen) others
  pub mine : w.mine ≡ v.mine
  pub theirs : w.theirs ≡ v.theirs ++ flat_map brought others
