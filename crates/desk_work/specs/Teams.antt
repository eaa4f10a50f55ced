-- What workers beside each other do (own), over what the pass knew, and what it knows once all hands are joined.
use Rattle.std.specs.Prelude.{◌≡◌, List, ◌++◌, Option, IfSome}
use Rattle.desk_core.specs.Book.{SnapshotData}
use Rattle.desk_core.specs.Steps.{IsSnapshotOf}
use Rattle.facts.specs.Rows.{RowData, Stands}
use Rattle.desk_lock.specs.Knows.{arrived, hand_parts}
use Rattle.desk_lock.specs.Lists.{Each}
use Rattle.desk_lock.specs.Tokens.{IsHandOf, IsPassOf, hand_view, pass_view}
use Rattle.desk_lock.specs.declared.desk.Desk.{Desk}
use Rattle.desk_lock.specs.declared.desk.Hand.{Hand}
use Rattle.desk_lock.specs.declared.desk.Pass.{Pass}
use Rattle.desk_lock.specs.declared.view.View.{View}
use Rattle.desk_work.specs.Attempts.{IsDone}
use Rattle.desk_work.specs.Dealing.{all_of, pile_keys}
use Rattle.desk_work.specs.Work.{Basis, Job, Progress}

-- a pass that may hire workers of a build: it has seen the history up to the snapshot, and knows the plan's row
pub record MayHire {B : Type 0} (desk : Desk B) (snapshot : SnapshotData) (plan : Option RowData) (pass : Pass B)
    : Type 0 where
  pub of : IsPassOf desk pass
  pub saw : IsSnapshotOf (pass_view pass).seen snapshot
  pub knows : IfSome plan (Stands (pass_view pass).rows)

-- behind what it has done so far, the pass has done these piles too
abbrev pub GoesOnWith : Basis → View → View → List (List Job) → Type 0
GoesOnWith basis before after piles = (v : View) (jobs : List Job) → Progress basis v before jobs
    → Progress basis v after (jobs ++ all_of piles)

-- the piles have the same parts, and the pass is on with them
pub record TeamsOn (basis : Basis) (before : View) (piles : List (List Job)) (after : View) (more : List (List Job))
    : Type 0 where
  pub same : pile_keys more ≡ pile_keys piles
  pub goes_on : GoesOnWith basis before after more

pub record TeamFails (basis : Basis) (before : View) (piles : List (List Job)) (after : View) : Type 0 where
  pub more : List (List Job)
  pub teams : TeamsOn basis before piles after more

pub record TeamDoes (basis : Basis) (before : View) (piles : List (List Job)) (after : View) (more : List (List Job))
    : Type 0 where
  pub teams : TeamsOn basis before piles after more
  pub done : Each IsDone (all_of more)

-- Hands

-- a hand that was just made of a pass which knew this
pub record IsHired {B : Type 0} (desk : Desk B) (from : View) (hand : Hand B) : Type 0 where
  pub of : IsHandOf desk hand
  pub new : hand_view hand ≡ arrived from from.session hand_parts

-- a hand that did these parts since then
pub record HasWorked {B : Type 0} (basis : Basis) (desk : Desk B) (from : View) (jobs : List Job) (hand : Hand B) : Type 0
  where
    pub of : IsHandOf desk hand
    pub one : (hand_view hand).parts ≡ hand_parts
    pub progress : Progress basis (arrived from from.session hand_parts) (hand_view hand) jobs
