-- The sessions of one desk, all of which were taken in before its book was closed: each is one of the history of the
-- book.
use Rattle.std.proofs.Common.{◌≡◌, ◌+◌, ◌++◌, ℕ, zero, suc, List, [], ◌∷◌, Some, Contains, get_or, length, option_map, refl, sym, ap, ◌∙◌, subst, arith, sum_by, flat_map}
use Rattle.std.proofs.lemmas.List.{length-map}
use Rattle.std.specs.List.{slice_get}
use Rattle.std.proofs.lemmas.Option.{none-some, same_Some, slice_get-get_or, slice_get-map}
use Rattle.dita_doc.specs.History.{Entry}
use Rattle.dita_outside.specs.Links.{DoorTold, HasMore}
use Rattle.facts.specs.Rows.{Stands}
use Rattle.run_spec.specs.EndsServe.{ServesEach, ServesThese, SessionRelation}
use Rattle.transcript_text.specs.Transcript.{RowShown}
use Rattle.desk_core.specs.Book.{BookData}
use Rattle.desk_core.specs.declared.limits.Limits.{Limits}
use Rattle.desk_lock.specs.Closes.{Closes}
use Rattle.desk_lock.specs.Knows.{all_parts, known, with_session}
use Rattle.desk_lock.specs.Learns.{KnowsAll}
use Rattle.desk_lock.specs.Lists.{Each, IsReordered, StartsWith}
use Rattle.desk_lock.specs.Meaning.{Meaning}
use Rattle.desk_lock.specs.Past.{placed}
use Rattle.desk_lock.specs.declared.view.View.{View}
use Rattle.desk_work.proofs.Lists.{each_at, starts_then}
use Rattle.desk_session.specs.Answers.{CleanBuild}
use Rattle.desk_session.specs.Ends.{Ends, Room}
use Rattle.desk_session.specs.Pass.{IsAmong, ServesPass, basis_of}
use Rattle.desk_session.specs.Serving.{ServesDesk, basis_at, breaks, places_from, serves, standard_room}
use Rattle.desk_serve.specs.Sessions.{AreServed, AreStandard, IsWell, Served, TakesIn, brought, links_come, links_gone, session_view, views}
use Rattle.desk_serve.proofs.KnownLaws.{IsCut, ends_onward, ends_rise}
use Rattle.desk_serve.proofs.PlacedLaws.{AreNumbered, its_places, its_session}
use Rattle.desk_serve.proofs.RisingLaws.{Rises}
use Rattle.desk_serve.proofs.RowLaws.{is_shown, rows_shown, shown_is, shown_once}

-- so many connections were served, and this is their history
pub record AreThese (relation : SessionRelation) (old new : DoorTold) (many : ℕ) (log : List Entry) : Type 0 where
  pub these : ServesThese relation old new
  pub count : length these.came ≡ many
  pub same : these.history ≡ log

-- Sessions by their numbers

pub serves_by : (relation : SessionRelation) (log : List Entry) (rows : List RowShown) (from : ℕ)
    (served : List Served)
    → ((k : ℕ) (one : Served) → slice_get served k ≡ Some one → relation log rows (k + from) one.came one.went)
    → ServesEach relation log rows from (links_come served) (links_gone served)
serves_by relation log rows from [] each = tt
serves_by relation log rows from (one ∷ served) each =
    let here : 0 + from ≡ from = omega arith in (
      subst (λ n. relation log rows n one.came one.went) here (each 0 one refl),
      serves_by relation log rows (from + 1) served
          (λ k other at. let next : suc k + from ≡ k + (from + 1) = omega arith in
          subst (λ n. relation log rows n other.came other.went) next (each (suc k) other at)),
    )

module _ (clean : CleanBuild) (limits : Limits) where
  numbered : (from : ℕ) (served : List Served) → AreServed clean limits from served → AreNumbered from (views served)
  numbered from [] are = tt
  numbered from (one ∷ served) are = (are.0.session, are.0.theirs, numbered (from + 1) served are.1)

  served_at : (from : ℕ) (served : List Served) (k : ℕ) (one : Served) → AreServed clean limits from served
      → slice_get served k ≡ Some one
      → ServesPass clean (session_view limits (k + from)) one.view one.came one.went one.ended
  served_at from [] k one are at = absurd (none-some one at)
  served_at from (first ∷ served) zero one are at =
      let here : from ≡ 0 + from = omega arith in
      subst (λ (other : Served). ServesPass clean (session_view limits (0 + from)) other.view other.came other.went
      other.ended)
      (same_Some first one at)
      (subst (λ n. ServesPass clean (session_view limits n) first.view first.came first.went first.ended) here are.0)
  served_at from (first ∷ served) (suc k) one are at =
      let next : k + (from + 1) ≡ suc k + from = omega arith in
      subst (λ n. ServesPass clean (session_view limits n) one.view one.came one.went one.ended) next
      (served_at (from + 1) served k one are.1 at)

  -- One desk

  module _ (standard : AreStandard limits) (means : Meaning) (v w : View) (book : BookData) (served : List Served)
      (are : AreServed clean limits 1 served) (takes : TakesIn v (views served) w) (mine : v.mine ≡ [])
      (theirs : v.theirs ≡ []) (closes : Closes means w book) (parts : w.parts ≡ all_parts) where
    abbrev pub log : List Entry
    log = book.store.history

    abbrev pub all : KnowsAll w book
    all = closes.all parts

    abbrev pub shown : List RowShown
    shown = rows_shown all.prints

    known_is : known w ≡ flat_map brought (views served)
    known_is = ap (λ places. with_session w.session places ++ w.theirs) (takes.mine ∙ mine) ∙ takes.theirs
        ∙ ap (λ list. list ++ flat_map brought (views served)) theirs

    weigh : IsReordered (flat_map brought (views served)) (placed 0 log)
    weigh h = ap (sum_by h) (sym known_is) ∙ all.places h

    viewed : (k : ℕ) (one : Served) → slice_get served k ≡ Some one → slice_get (views served) k ≡ Some one.view
    viewed k one at = slice_get-map (λ (other : Served). other.view) served k ∙ ap
        (option_map (λ (other : Served). other.view)) at

    known_row : (k : ℕ) (one : Served) → slice_get served k ≡ Some one → (row : RowShown) → IsCut row
        → IsAmong one.view.rows row → Contains shown row
    known_row k one at row cut among =
        let each = each_at (λ (u : View). Each (Stands w.rows) u.rows) (views served) k one.view takes.rows
        (viewed k one at) in
        let there = each_at (Stands w.rows) one.view.rows among.1.0 among.0 each among.1.1 in
        let printed = each_at (Stands all.prints) w.rows there.0 among.0 all.rows there.1 in
        is_shown all.prints printed.0 among.0 row printed.1 (shown_is among.0 row among.2 cut)

    many_views : length (views served) ≡ length served
    many_views = length-map served (λ (one : Served). one.view)

    many_links : length (links_come served) ≡ length served
    many_links = length-map served (λ (one : Served). one.came)

    room_is : record { entries = limits.entries; bytes = limits.text_bytes } ≡ standard_room
    room_is i = record { entries = standard.entries i; bytes = standard.text i }

    pub at_desk : (k : ℕ) (one : Served) → slice_get served k ≡ Some one
        → ServesDesk clean log shown (k + 1) one.came one.went one.ended
    at_desk k one at =
        let pass = served_at 1 served k one are at in
        let basis = basis_of clean (session_view limits (k + 1)) one.view in
        let rises : Rises 0 one.view.mine = subst (Rises 0) (sym pass.mine)
        (ends_rise basis _ one.ended one.came one.went pass.places pass.ends) in
        let places : pass.places ≡ places_from (k + 1) 0 log =
        sym pass.mine ∙ its_places log (views served) k one.view weigh (numbered 1 served are) (viewed k one at)
        rises in
        record {
          seen = one.view.seen;
          begins = starts_then log w.seen one.view.seen closes.begins
              (each_at (λ (u : View). StartsWith w.seen u.seen) (views served) k one.view takes.seen
              (viewed k one at));
          ends = subst (λ (list : List ℕ). Ends (basis_at clean shown (k + 1) one.view.seen) standard_room one.ended
              one.came one.went list)
              places
              (subst (λ (room : Room). Ends (basis_at clean shown (k + 1) one.view.seen) room one.ended one.came
              one.went pass.places)
              room_is
              (ends_onward basis (Contains shown) (known_row k one at) _ one.ended one.came one.went pass.places
              pass.ends));
        }

    module _ (relation : SessionRelation)
        (each : (k : ℕ) (one : Served) → slice_get served k ≡ Some one
        → ServesDesk clean log shown (k + 1) one.came one.went one.ended → relation log shown (k + 1) one.came
        one.went)
        (old new : DoorTold) (accepted : HasMore old.accepted new.accepted (links_come served))
        (returned : HasMore old.returned new.returned (links_gone served)) where
      these : AreThese relation old new (length served) log
      these = record {
        these = record {
          came = links_come served;
          went = links_gone served;
          accepted = accepted;
          returned = returned;
          history = log;
          rows = shown;
          legal = closes.legal;
          sessions = λ k d within. let is = its_session log (views served) k (get_or log k d) weigh
              (numbered 1 served are)
              (slice_get-get_or log k d within) in
              (is.0, omega (arith, is.1, many_views, many_links));
          different = shown_once all.prints all.left.once;
          served = serves_by relation log shown 1 served (λ k one at. each k one at (at_desk k one at));
        };
        count = many_links;
        same = refl;
      }

    pub these_break : (old new : DoorTold) → HasMore old.accepted new.accepted (links_come served)
        → HasMore old.returned new.returned (links_gone served)
        → AreThese (breaks clean) old new (length served) log
    these_break = these (breaks clean) (λ k one at desk. (one.ended, desk))

    pub these_serve : Each IsWell served → (old new : DoorTold) → HasMore old.accepted new.accepted (links_come served)
        → HasMore old.returned new.returned (links_gone served)
        → AreThese (serves clean) old new (length served) log
    these_serve well = these (serves clean) (λ k one at desk. (one.ended, desk, each_at IsWell served k one well at))
