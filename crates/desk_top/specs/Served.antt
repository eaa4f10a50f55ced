-- What a batch has answered (own): each request of the history that a session knows of is at hand as it was asked, and so
-- is the outcome of each build.
use Rattle.std.specs.Prelude.{◌≡◌, ◌≢◌, ◌+◌, ◌<◌, ◌++◌, ℕ, Bool, true, false, List, [], ◌∷◌, Some, AllPairs, length, map, slice_get, slice_index_or}
use Rattle.std.specs.List.{All, flat_map}
use Rattle.std.specs.declared.alloc.Global.{Global}
use Rattle.std.specs.declared.vec.Vec.{Vec}
use Rattle.dita_doc.specs.History.{Entry}
use Rattle.dita_doc.specs.Request.{Request, Single, Get, Names, Build, Group, HasFewEdits, IsUtf8Request}
use Rattle.dita_doc.specs.Seen.{HasOwnOrigin, request_seen}
use Rattle.dita_doc.specs.declared.request.Request as given
use Rattle.facts.specs.Rows.{Stands, row_data}
use Rattle.row_text.specs.RowWritten.{HasPage}
use Rattle.desk_core.specs.Book.{BookData}
use Rattle.script_text.specs.Script.{Step}
use Rattle.desk_lock.specs.Knows.{session_parts}
use Rattle.desk_lock.specs.Past.{IsMade}
use Rattle.desk_lock.specs.Tokens.{IsPassOf, pass_view}
use Rattle.desk_lock.specs.declared.desk.Desk.{Desk}
use Rattle.desk_lock.specs.declared.view.View.{View}
use Rattle.desk_work.specs.declared.built.Outcome.{Outcome}
use Rattle.desk_work.specs.declared.built.Outcome.TheVariants.{Done, Stopped, TooLarge}
use Rattle.desk_work.specs.declared.built.PageRow.{PageRow}
use Rattle.map_makers.specs.PlanTells.{meaning}
use Rattle.run_spec.specs.Language.{dita}
use Rattle.desk_top.specs.Asked.{Asked, AsksAll, AsksOne, HasNone, IsBefore, all_asked, asked_by}
use Rattle.desk_top.specs.Given.{HaveOneRow, IsGiven, rows_cited}
use Rattle.desk_top.specs.SessionMade.{HasMade}
use Rattle.desk_top.specs.declared.callers.BuiltAt.{BuiltAt}
use Rattle.desk_top.specs.declared.callers.Caller.{Caller}
use Rattle.desk_top.specs.declared.callers.Session.{Session}

-- Requests

-- a request as a desk may be asked it: a document that it stores has the name that it is stored under, a group has few
-- edits, and all of it is UTF-8
pub record MayBeAsked (asked : ℕ × given.Request) : Type 0 where
  pub origin : HasOwnOrigin asked.1
  pub few : HasFewEdits (request_seen asked.1)
  pub utf8 : IsUtf8Request (request_seen asked.1)

abbrev pub is_build : Request → Bool
is_build (Single edit) = false
is_build (Get name) = false
is_build Names = false
is_build (Build root val) = true
is_build (Group edits) = false

-- What builds gave

-- the rows that are cited are of pages or contents pages, and have them
abbrev pub HasPages : Outcome → Type 0
HasPages (Done pages faults) = All (λ (page : PageRow). HasPage (row_data page.row).fact) pages
HasPages (Stopped stop) = Unit {0}
HasPages (TooLarge total) = Unit {0}

abbrev pub HasItsPages : BuiltAt → Type 0
HasItsPages built = HasPages built.outcome

abbrev pub places_of : List BuiltAt → List ℕ
places_of built = map (λ (one : BuiltAt). one.place) built

-- what all sessions built
abbrev pub together : List (Vec BuiltAt Global) → List BuiltAt
together all = flat_map (λ built. built.items) all

-- The history

-- a request stands at this place; if it is a build, its outcome is at hand
pub record IsAnswered (log : List Entry) (built : List ℕ) (place : ℕ) : Type 0 where
  pub entry : Entry
  pub stands : slice_get log place ≡ Some entry
  pub utf8 : IsUtf8Request entry.request
  pub outcome : is_build entry.request ≡ true → Stands built place

-- a build stands at this place
pub record IsOfBuild (log : List Entry) (place : ℕ) : Type 0 where
  pub entry : Entry
  pub stands : slice_get log place ≡ Some entry
  pub is : is_build entry.request ≡ true

-- so far as a session knows, each request was answered, and these are the places of the builds
pub record HasServed (w : View) (built : List ℕ) : Type 0 where
  pub mine : All (IsAnswered w.seen built) w.mine
  pub theirs : All (λ (place : ℕ × ℕ). IsAnswered w.seen built place.0) w.theirs
  pub builds : All (IsOfBuild w.seen) built

-- the same, with what each build gave, by rows that it knows
pub record HasGiven (w : View) (built : List BuiltAt) : Type 0 where
  pub served : HasServed w (places_of built)
  pub given : All (IsGiven w.seen) built
  pub rows : All (Stands w.rows) (rows_cited built)

-- builds of its own stand at these places, each behind the one before
pub record HasBuilt (w : View) (built : List ℕ) : Type 0 where
  pub own : All (λ place. IsMade w.seen place w.session) built
  pub rise : AllPairs IsBefore built

-- each request of a history was answered, and these are the builds, each with what it gave
pub record IsServed (log : List Entry) (built : List BuiltAt) : Type 0 where
  pub answered : (place : ℕ) → place < length log → IsAnswered log (places_of built) place
  pub builds : All (IsOfBuild log) (places_of built)
  pub pages : All HasItsPages built
  pub given : All (IsGiven log) built
  pub one_row : HaveOneRow (rows_cited built)
  pub once : AllPairs (λ (place other : ℕ). place ≢ other) (places_of built)

-- Piles

-- requests with their numbers
abbrev pub Pile : Type 0
Pile = Vec (ℕ × given.Request) Global

-- the first pile is of the requests of session 1, and so on
abbrev pub ArePiles : List Step → List Pile → Type 0
ArePiles steps piles = (place : ℕ) (pile : Pile) → place < length piles
    → all_asked (slice_index_or piles place pile).items ≡ asked_by (place + 1) 1 steps

-- this was put on the pile at home
pub record IsPut (piles : List Pile) (home : ℕ) (asked : ℕ × given.Request) (more : List Pile) : Type 0 where
  pub here : (pile : Pile)
      → (slice_index_or more home pile).items ≡ (slice_index_or piles home pile).items ++ asked ∷ []
  pub others : (place : ℕ) (pile : Pile) → place ≢ home → slice_index_or more place pile ≡ slice_index_or piles place pile

-- Sessions

-- a session at this desk, with its parts; its builds have their pages
pub record IsAtDesk (desk : Desk BookData) (session : Session) : Type 0 where
  pub pass : IsPassOf desk session.pass
  pub parts : (pass_view session.pass).parts ≡ session_parts
  pub pages : All HasItsPages session.built.items

-- what a session knows
abbrev pub known_by : Session → View
known_by session = pass_view session.pass

-- so far as it knows, all that was asked was answered; its builds are those that it asked itself, and made what it published
pub record HasAnswered (session : Session) : Type 0 where
  pub given : HasGiven (known_by session) session.built.items
  pub built : HasBuilt (known_by session) (places_of session.built.items)
  pub made : HasMade meaning dita (known_by session) session.built.items

-- this request was answered too
pub record Answers (before : Session) (one : Asked) (after : Session) : Type 0 where
  pub answered : HasAnswered after
  pub asked : AsksOne (known_by before) one (known_by after)

-- a caller that has still to ask
pub record IsReady (desk : Desk BookData) (caller : Caller) : Type 0 where
  pub at : IsAtDesk desk caller.session
  pub answered : HasAnswered caller.session
  pub none : HasNone (known_by caller.session)
  pub asked : All MayBeAsked caller.asked.items
  pub well : caller.failed ≡ false

-- a caller that has asked all that it had to ask, or found no memory
pub record HasEnded (desk : Desk BookData) (caller : Caller) : Type 0 where
  pub at : IsAtDesk desk caller.session
  pub answered : caller.failed ≡ false → HasAnswered caller.session

-- what it built
abbrev pub built_by : Caller → Vec BuiltAt Global
built_by caller = caller.session.built

abbrev pub IsWell : Caller → Type 0
IsWell caller = caller.failed ≡ false

-- what a caller knows
abbrev pub view_of : Caller → View
view_of caller = known_by caller.session

-- the first caller is of session 1, and so on
abbrev pub AreInOrder : List Caller → Type 0
AreInOrder callers = (place : ℕ) (caller : Caller) → place < length callers
    → (view_of (slice_index_or callers place caller)).session ≡ place + 1

-- a caller that found memory has asked what it had to ask
abbrev pub HasAskedAll : Caller → Caller → Type 0
HasAskedAll before after = IsWell after → AsksAll (view_of before) (all_asked before.asked.items) (view_of after)

abbrev pub HaveAskedAll : List Caller → List Caller → Type 0
HaveAskedAll before after = (place : ℕ) (caller : Caller) → place < length before
    → HasAskedAll (slice_index_or before place caller) (slice_index_or after place caller)
