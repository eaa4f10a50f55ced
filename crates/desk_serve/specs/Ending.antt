-- How sessions are taken in that have ended (own), and how their connections are handed back.
use Rattle.std.specs.Prelude.{◌≡◌, ◌+◌, ◌*◌, Bool, false, true, List, [], length}
use Rattle.dita_outside.specs.Links.{DoorTold, HasMore, LinkTold, Links}
use Rattle.desk_lock.specs.Knows.{session_parts}
use Rattle.desk_lock.specs.Lists.{Each}
use Rattle.desk_lock.specs.declared.view.View.{View}
use Rattle.desk_session.specs.Answers.{CleanBuild}
use Rattle.desk_session.specs.declared.end.SessionEnd.{SessionEnd}
use Rattle.desk_session.specs.declared.end.SessionEnd.TheVariants.{Closed, Full, LinkFault, NoMemory, Script}
use Rattle.desk_serve.specs.Accepting.{links_of}
use Rattle.desk_serve.specs.Sessions.{AreServed, IsWell, Served, TakesIn, links_come, links_gone, views}
use Rattle.desk_serve.specs.declared.session.Running.{Running}

-- since some time the door has accepted these connections, and taken none back
pub record AreOut {D : Type 0} (told : D → DoorTold) (now : D) (links : Links) : Type 0 where
  pub first : D
  pub came : HasMore (told first).accepted (told now).accepted links
  pub none : HasMore (told first).returned (told now).returned []

-- these sessions were served, were taken in, and had their connections handed back in order
pub record EndsAll {P M L : Type 0} (clean : CleanBuild) (told : L → LinkTold) (v : View) (old : DoorTold)
    (running : List (Running P M L)) (w : View) (new : DoorTold) (lost : Bool) : Type 0 where
  pub served : List Served
  pub are : AreServed clean v.limits 1 served
  pub came : links_come served ≡ links_of told running
  pub takes : TakesIn v (views served) w
  pub parts : w.parts ≡ v.parts + length running * session_parts
  pub accepted : HasMore old.accepted new.accepted []
  pub returned : HasMore old.returned new.returned (links_gone served)
  pub sure : new.faults ≡ old.faults
  pub well : lost ≡ false → Each IsWell served

-- whether a session that ended so ended out of memory, or one before it did
abbrev pub lost_with : Bool → SessionEnd → Bool
lost_with lost Closed = lost
lost_with lost LinkFault = lost
lost_with lost (Script fault) = lost
lost_with lost (Full full) = lost
lost_with lost NoMemory = true
