-- Sessions that were begun (own): each by a pass of the desk and over a connection. Whether it runs in a thread or the
-- caller has served it, it was served as it was begun once it has ended.
use Rattle.std.specs.Prelude.{◌≡◌}
use Rattle.dita_outside.specs.Links.{LinkTold}
use Rattle.desk_core.specs.Book.{BookData}
use Rattle.desk_lock.specs.declared.desk.Desk.{Desk}
use Rattle.desk_lock.specs.declared.desk.Pass.{Pass}
use Rattle.desk_session.specs.Answers.{CleanBuild}
pub use Rattle.desk_serve.specs.HasServed.{HasServed}
use Rattle.desk_serve.specs.declared.session.Begun.{Begun}
use Rattle.desk_serve.specs.declared.session.Ended.{Ended}
use Rattle.desk_serve.specs.declared.session.Running.{Running}
use Rattle.desk_serve.specs.declared.session.Running.TheVariants.{Here, There}

module _ {P M L : Type 0} where
  -- what it was begun from
  abbrev pub begun_of : Running P M L → Begun P M L
  begun_of (There handle) = handle.promise
  begun_of (Here begun ended) = begun

  -- it was served from there
  abbrev pub IsServedAs : CleanBuild → (L → LinkTold) → Begun P M L → Ended P L → Type 0
  IsServedAs clean told begun ended = HasServed clean told begun.desk.value begun.pass.value begun.link.value
      ended.pass ended.link ended.end

  -- if the caller has served it, it was served so
  abbrev pub IsKept : CleanBuild → (L → LinkTold) → Running P M L → Type 0
  IsKept clean told (There handle) = Unit {0}
  IsKept clean told (Here begun ended) = IsServedAs clean told begun ended

  pub record IsBegun (clean : CleanBuild) (told : L → LinkTold) (desk : Desk BookData) (pass : Pass BookData) (link : L)
      (running : Running P M L) : Type 0 where
    pub at : (begun_of running).desk.value ≡ desk
    pub by : (begun_of running).pass.value ≡ pass
    pub over : (begun_of running).link.value ≡ link
    pub kept : IsKept clean told running
