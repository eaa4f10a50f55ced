-- How a pass goes on: by no step, by a look, by an entry, by a build; and by one step after another.
use Rattle.std.proofs.Common.{◌≡◌, ◌++◌, ◌∙◌, ℕ, List, [], ◌∷◌, Some, ap, append-nil, append_assoc, refl, subst, sym}
use Rattle.std.specs.List.{slice_get}
use Rattle.dita_doc.specs.Desk.{Begun, Reply, State}
use Rattle.dita_doc.specs.Request.{Build, Request}
use Rattle.desk_language.specs.Language.{Language}
use Rattle.desk_lock.specs.Calls.{Appends, Looks}
use Rattle.desk_lock.specs.Lists.{StartsWith}
use Rattle.desk_lock.specs.Meaning.{Meaning}
use Rattle.desk_lock.specs.declared.view.View.{View}
use Rattle.desk_work.proofs.Lists.{starts_equal, starts_same, starts_then}
use Rattle.desk_work.specs.Build.{BuildOrder, Stood}
use Rattle.desk_work.specs.Work.{Job}
use Rattle.desk_session.proofs.Lists.{at_start}
use Rattle.desk_session.specs.Asking.{GoesOn, StandsBuilt}

pub goes_nowhere : (v : View) → GoesOn v v []
goes_nowhere v = record {
  mine = sym (append-nil v.mine);
  seen = starts_same v.seen;
  known = starts_same v.rows;
  session = refl;
  theirs = refl;
  parts = refl;
  limits = refl;
}

pub goes_looked : (v w : View) → Looks v w → GoesOn v w []
goes_looked v w looks = record {
  mine = ap (λ (u : View). u.mine) looks.knows ∙ sym (append-nil v.mine);
  seen = looks.later;
  known = starts_equal w.rows v.rows (ap (λ (u : View). u.rows) looks.knows);
  session = ap (λ (u : View). u.session) looks.knows;
  theirs = ap (λ (u : View). u.theirs) looks.knows;
  parts = ap (λ (u : View). u.parts) looks.knows;
  limits = ap (λ (u : View). u.limits) looks.knows;
}

pub goes_made : (v w : View) (number place : ℕ) (asked : Request) (answer : Reply)
    → Appends v number asked answer place w → GoesOn v w (place ∷ [])
goes_made v w number place asked answer appends = record {
  mine = ap (λ (u : View). u.mine) appends.knows;
  seen = appends.later;
  known = starts_equal w.rows v.rows (ap (λ (u : View). u.rows) appends.knows);
  session = ap (λ (u : View). u.session) appends.knows;
  theirs = ap (λ (u : View). u.theirs) appends.knows;
  parts = ap (λ (u : View). u.parts) appends.knows;
  limits = ap (λ (u : View). u.limits) appends.knows;
}

pub goes_stood : (means : Meaning) (language : Language) (v : View) (order : BuildOrder) (place : ℕ) (state : State)
    (jobs : List Job) (w : View) → Stood means language v order place state jobs w → GoesOn v w (place ∷ [])
goes_stood means language v order place state jobs w stood =
    let appends = stood.begun.appends in
    let worked = stood.progress.worked in
    record {
      mine = worked.mine ∙ ap (λ (u : View). u.mine) appends.knows;
      seen = starts_then w.seen stood.between.seen v.seen worked.seen appends.later;
      known = subst (StartsWith w.rows) (ap (λ (u : View). u.rows) appends.knows) worked.known;
      session = worked.session ∙ ap (λ (u : View). u.session) appends.knows;
      theirs = worked.theirs ∙ ap (λ (u : View). u.theirs) appends.knows;
      parts = stood.parts;
      limits = worked.limits ∙ ap (λ (u : View). u.limits) appends.knows;
    }

pub goes_then : (u v w : View) (first more : List ℕ) → GoesOn u v first → GoesOn v w more → GoesOn u w (first ++ more)
goes_then u v w first more one two = record {
  mine = two.mine ∙ ap (λ list. list ++ more) one.mine ∙ append_assoc u.mine first more;
  seen = starts_then w.seen v.seen u.seen two.seen one.seen;
  known = starts_then w.rows v.rows u.rows two.known one.known;
  session = two.session ∙ one.session;
  theirs = two.theirs ∙ one.theirs;
  parts = two.parts ∙ one.parts;
  limits = two.limits ∙ one.limits;
}

-- a build that has its place
pub stood_entry : (means : Meaning) (language : Language) (v : View) (order : BuildOrder) (place : ℕ) (state : State)
    (jobs : List Job) (w : View) → Stood means language v order place state jobs w
    → slice_get w.seen place
    ≡ Some (record { session = v.session; number = order.number; request = Build order.root order.val; reply = Begun })
stood_entry means language v order place state jobs w stood = at_start w.seen stood.between.seen place
    (record { session = v.session; number = order.number; request = Build order.root order.val; reply = Begun })
    stood.progress.worked.seen stood.begun.appends.entry

pub stands_built : (means : Meaning) (language : Language) (v : View) (order : BuildOrder) (place : ℕ) (state : State)
    (jobs : List Job) (w : View) → Stood means language v order place state jobs w → StandsBuilt v order w
stands_built means language v order place state jobs w stood = record {
  place = place;
  on = goes_stood means language v order place state jobs w stood;
  behind = stood.begun.appends.behind;
  stands = stood_entry means language v order place state jobs w stood;
}
