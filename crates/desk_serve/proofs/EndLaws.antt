-- Sessions that have ended, one after the other: each is taken in, and its connection is handed back.
use Rattle.std.proofs.Common.{◌≡◌, ◌≢◌, ◌+◌, ◌++◌, ℕ, Bool, false, true≢false, List, [], ◌∷◌, Option, None, length, length-append, refl, sym, ap, ◌∙◌, subst, arith}
use Rattle.std.specs.Iterator.{Yields}
use Rattle.std.specs.Prelude.{vec_len}
use Rattle.std.specs.Vec.Iter.{into_iter_items, into_iter_len, into_iter_steps}
use Rattle.std.specs.declared.vec.IntoIter.{IntoIter}
use Rattle.std.specs.declared.vec.Vec.{Vec}
use Rattle.std.proofs.lemmas.Iterator.Adapters.{YieldsList-from_vec}
use Rattle.std.proofs.lemmas.Iterator.Consumers.{YieldsList-end}
use Rattle.std.proofs.lemmas.List.{length-map, map-append, map-id}
use Rattle.dita_outside.specs.Links.{DoorTold, HasMore, LinkTold}
use Rattle.desk_core.specs.Book.{BookData}
use Rattle.desk_core.specs.declared.limits.Limits.{Limits}
use Rattle.desk_lock.specs.Calls.{Joins}
use Rattle.desk_lock.specs.Tokens.{pass_view}
use Rattle.desk_lock.specs.declared.desk.Desk.{Desk}
use Rattle.desk_lock.specs.declared.view.View.{View}
use Rattle.desk_work.proofs.Lists.{each_append}
use Rattle.desk_session.specs.Answers.{CleanBuild}
use Rattle.desk_session.specs.Pass.{ServesPass}
use Rattle.desk_session.specs.declared.end.SessionEnd.{SessionEnd}
use Rattle.desk_session.specs.declared.end.SessionEnd.TheVariants.{Closed, Full, LinkFault, NoMemory, Script}
use Rattle.desk_serve.specs.Accepting.{IsBegunAs}
use Rattle.desk_serve.specs.Ending.{EndsAll, lost_with}
use Rattle.desk_serve.specs.Running.{IsServedAs, begun_of}
use Rattle.desk_serve.specs.Sessions.{AreServed, IsWell, Served, TakesIn, links_gone, session_view, views}
use Rattle.desk_serve.specs.declared.session.Ended.{Ended}
use Rattle.desk_serve.specs.declared.session.Running.{Running}
use Rattle.desk_serve.proofs.DoorLaws.{more_none, more_then, then_none}
use Rattle.desk_serve.proofs.TakesLaws.{takes_more, takes_none}

served_push : (clean : CleanBuild) (limits : Limits) (from : ℕ) (served : List Served) (one : Served)
    → AreServed clean limits from served
    → ServesPass clean (session_view limits (length served + from)) one.view one.came one.went one.ended
    → AreServed clean limits from (served ++ one ∷ [])
served_push clean limits from [] one are is =
    let here : 0 + from ≡ from = omega arith in
    (subst (λ n. ServesPass clean (session_view limits n) one.view one.came one.went one.ended) here is, tt)
served_push clean limits from (first ∷ served) one are is =
    let next : length (first ∷ served) + from ≡ length served + (from + 1) = omega arith in (
      are.0,
      served_push clean limits (from + 1) served one are.1
          (subst (λ n. ServesPass clean (session_view limits n) one.view one.came one.went one.ended) next is),
    )

module _ {P M L : Type 0} (clean : CleanBuild) (told : L → LinkTold) (desk : Desk BookData) where
  pub ends_none : (v : View) (now : DoorTold) → EndsAll {P = P} {M = M} {L = L} clean told v now [] v now false
  ends_none v now = record {
    served = [];
    are = tt;
    came = refl;
    takes = takes_none v;
    parts = omega arith;
    accepted = more_none now.accepted;
    returned = more_none now.returned;
    sure = refl;
    well = λ same. tt;
  }

  pub as_many : (v : View) (old : DoorTold) (running : List (Running P M L)) (w : View) (now : DoorTold) (lost : Bool)
      (ends : EndsAll clean told v old running w now lost) → length ends.served ≡ length running
  as_many v old running w now lost ends = sym (length-map ends.served (λ (other : Served). other.came)) ∙ ap length
      ends.came
      ∙ length-map running (λ (other : Running P M L). told (begun_of other).link.value)

  module _ (v : View) (old : DoorTold) (running : List (Running P M L)) (w : View) (now : DoorTold) (lost : Bool)
      (ends : EndsAll clean told v old running w now lost) (one : Running P M L) (ended : Ended P L)
      (begun : IsBegunAs clean told desk v.limits (length running + 1) one)
      (is : IsServedAs clean told (begun_of one) ended) where
    abbrev as_served : Served
    as_served = record {
      view = pass_view ended.pass;
      came = told (begun_of one).link.value;
      went = told ended.link;
      ended = ended.end;
    }

    by_number : ServesPass clean (session_view v.limits (length running + 1)) as_served.view as_served.came
        as_served.went
        as_served.ended
    by_number = subst (λ (u : View). ServesPass clean u as_served.view as_served.came as_served.went as_served.ended)
        begun.view is.served

    pub ends_more : (new : View) (next : DoorTold) (gone : Bool) → Joins w (pass_view ended.pass) new
        → HasMore now.accepted next.accepted [] → HasMore now.returned next.returned (told ended.link ∷ [])
        → next.faults ≡ now.faults → (gone ≡ false → (lost ≡ false) × (ended.end ≢ NoMemory))
        → EndsAll clean told v old (running ++ one ∷ []) new next gone
    ends_more new next gone joins accepted returned sure well = record {
      served = ends.served ++ as_served ∷ [];
      are = served_push clean v.limits 1 ends.served as_served ends.are
          (subst (λ n. ServesPass clean (session_view v.limits (n + 1)) as_served.view as_served.came as_served.went
          as_served.ended)
          (sym (as_many v old running w now lost ends)) by_number);
      came = map-append (λ (other : Served). other.came) ends.served (as_served ∷ [])
          ∙ ap (λ links. links ++ as_served.came ∷ []) ends.came
          ∙ sym (map-append (λ (other : Running P M L). told (begun_of other).link.value) running (one ∷ []));
      takes = subst (λ list. TakesIn v list new)
          (sym (map-append (λ (other : Served). other.view) ends.served (as_served ∷ [])))
          (takes_more v w new (views ends.served) as_served.view ends.takes joins);
      parts = omega (
        arith,
        ends.parts,
        ap (λ (u : View). u.parts) joins.knows,
        by_number.parts,
        length-append running (one ∷ []),
      );
      accepted = then_none old.accepted now.accepted next.accepted [] ends.accepted accepted;
      returned = subst (HasMore old.returned next.returned)
          (sym (map-append (λ (other : Served). other.went) ends.served (as_served ∷ [])))
          (more_then old.returned now.returned next.returned (links_gone ends.served) (as_served.went ∷ [])
          ends.returned returned);
      sure = sure ∙ ends.sure;
      well = λ same. each_append IsWell ends.served (as_served ∷ []) (ends.well (well same).0) ((well same).1, tt);
    }

-- none is lost if none was before, and this one is not
pub not_lost : (lost : Bool) (ended : SessionEnd) → lost_with lost ended ≡ false → (lost ≡ false) × (ended ≢ NoMemory)
not_lost lost Closed same = (same, λ is. cc is)
not_lost lost LinkFault same = (same, λ is. cc is)
not_lost lost (Script fault) same = (same, λ is. cc is)
not_lost lost (Full full) same = (same, λ is. cc is)
not_lost lost NoMemory same = absurd (true≢false same)

-- a loop over a vector takes all of its items
pub vec_whole : {X A : Type 0} (v : Vec X A) (s t u : IntoIter X A) (xs : List X) (r : Option X)
    → into_iter_items s ≡ v.items → into_iter_len s ≡ vec_len v → Yields into_iter_steps s xs t → r ≡ None
    → into_iter_steps t r u → xs ≡ v.items
vec_whole {X} {A} v s t u xs r items long yields is steps = sym (map-id xs)
    ∙ (YieldsList-end (YieldsList-from_vec {A = X} {Z = A} {s = s} v.items items (omega (arith, long, v.ok.0))) xs t
    yields r u is steps).0
