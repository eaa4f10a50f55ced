-- Connections that were accepted (own): each is begun as the next session, by a pass that the first pass of the desk gives.
use Rattle.std.specs.Prelude.{◌≡◌, ◌<◌, ◌≤◌, ◌+◌, ◌*◌, ℕ, List, [], ◌∷◌, OnErr, OnOk, Result, length, map, vec_capacity, vec_len}
use Rattle.dita_doc.specs.declared.stop.Stop.{Stop}
use Rattle.dita_outside.specs.Cause.{HasCauseOrNoMemory}
use Rattle.dita_outside.specs.Links.{DoorTold, HasMore, LinkTold, Links}
use Rattle.dita_outside.specs.declared.Failed.{Failed}
use Rattle.desk_core.specs.Book.{BookData}
use Rattle.desk_core.specs.declared.limits.Limits.{Limits}
use Rattle.desk_lock.specs.Knows.{all_parts, fresh, session_parts}
use Rattle.desk_lock.specs.Tokens.{IsPassOf, pass_view}
use Rattle.desk_lock.specs.declared.desk.Desk.{Desk}
use Rattle.desk_lock.specs.declared.view.View.{View}
use Rattle.desk_session.specs.Answers.{CleanBuild}
use Rattle.desk_serve.specs.Running.{IsKept, begun_of}
use Rattle.desk_serve.specs.Sessions.{AreStandard, session_view}
use Rattle.desk_serve.specs.declared.accept.Accepted.{Accepted}
use Rattle.desk_serve.specs.declared.session.Running.{Running}

-- the first pass of a desk, which has seen nothing yet and has given away parts alone
pub record IsFirst (v : View) : Type 0 where
  pub standard : AreStandard v.limits
  pub fresh : v ≡ fresh v.limits v.parts

module _ {P M L : Type 0} where
  -- there is room for so many sessions, and none was begun
  pub record MayAccept (connections : ℕ) (desk : Desk BookData) (accepted : Accepted P M L) : Type 0 where
    pub of : IsPassOf desk accepted.pass
    pub first : IsFirst (pass_view accepted.pass)
    pub all : (pass_view accepted.pass).parts ≡ all_parts
    pub most : connections ≤ 1024
    pub none : vec_len accepted.running ≡ 0
    pub room : connections ≤ vec_capacity accepted.running

  -- what the connections told as they came
  abbrev pub links_of : (L → LinkTold) → List (Running P M L) → Links
  links_of told running = map (λ (one : Running P M L). told (begun_of one).link.value) running

  -- the session of this number was begun at the desk
  pub record IsBegunAs (clean : CleanBuild) (told : L → LinkTold) (desk : Desk BookData) (limits : Limits) (session : ℕ)
      (running : Running P M L) : Type 0 where
    pub at : (begun_of running).desk.value ≡ desk
    pub view : pass_view (begun_of running).pass.value ≡ session_view limits session
    pub kept : IsKept clean told running

  -- so were those of this number and those that follow
  abbrev pub AreBegun : CleanBuild → (L → LinkTold) → Desk BookData → Limits → ℕ → List (Running P M L) → Type 0
  AreBegun clean told desk limits session [] = Unit {0}
  AreBegun clean told desk limits session (one ∷ more) =
      IsBegunAs clean told desk limits session one × AreBegun clean told desk limits (session + 1) more

  -- these connections were accepted, and no other, and each is a session
  pub record HasAccepted (clean : CleanBuild) (told : L → LinkTold) (desk : Desk BookData) (old now : DoorTold)
      (accepted : Accepted P M L) : Type 0 where
    pub of : IsPassOf desk accepted.pass
    pub first : IsFirst (pass_view accepted.pass)
    pub parts : (pass_view accepted.pass).parts + length accepted.running.items * session_parts ≡ all_parts
    pub begun : AreBegun clean told desk (pass_view accepted.pass).limits 1 accepted.running.items
    pub came : HasMore old.accepted now.accepted (links_of told accepted.running.items)
    pub none : HasMore old.returned now.returned []

  -- all of so many were, or fewer
  pub record AcceptsAll (clean : CleanBuild) (told : L → LinkTold) (connections : ℕ) (desk : Desk BookData)
      (old now : DoorTold) (accepted : Accepted P M L) (stopped : Result (Unit {0}) (Stop Failed)) : Type 0 where
    pub has : HasAccepted clean told desk old now accepted
    pub all : OnOk stopped (length accepted.running.items ≡ connections)
    pub fewer : OnErr stopped (length accepted.running.items < connections)
    pub cause : HasCauseOrNoMemory old.faults now.faults stopped
