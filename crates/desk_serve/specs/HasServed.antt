-- What a session leaves of its pass and its connection (own).
use Rattle.dita_outside.specs.Links.{LinkTold}
use Rattle.desk_core.specs.Book.{BookData}
use Rattle.desk_lock.specs.Tokens.{IsPassOf, pass_view}
use Rattle.desk_lock.specs.declared.desk.Desk.{Desk}
use Rattle.desk_lock.specs.declared.desk.Pass.{Pass}
use Rattle.desk_session.specs.Answers.{CleanBuild}
use Rattle.desk_session.specs.Pass.{ServesPass}
use Rattle.desk_session.specs.declared.end.SessionEnd.{SessionEnd}

-- the pass is still of the desk, and the session was served by it over the connection
pub record HasServed {L : Type 0} (clean : CleanBuild) (told : L → LinkTold) (desk : Desk BookData)
    (pass : Pass BookData) (old : L) (after : Pass BookData) (new : L) (ended : SessionEnd) : Type 0 where
  pub of : IsPassOf desk after
  pub served : ServesPass clean (pass_view pass) (pass_view after) (told old) (told new) ended
