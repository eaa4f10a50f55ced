-- One request at the desk: what is answered to it is what its entry shows.
use Rattle.std.proofs.Common.{◌≡◌, ◌<◌, ◌∙◌, ℕ, List, [], ◌∷◌, Option, Some, None, Err, All, ap, arith, inl, inr, length, map, refl, subst, sym, ⊎_elim}
use Rattle.std.proofs.lemmas.List.Elements.{All-nil}
use Rattle.std.proofs.lemmas.Option.{slice_get_within}
use Rattle.dita_doc.specs.Bytes.{Bytes}
use Rattle.dita_doc.specs.Desk.{Begun, Reply, State, reply}
use Rattle.dita_doc.specs.History.{Entry, sources}
use Rattle.dita_doc.specs.Request.{Build, Get, Group, Names, Request, Single}
use Rattle.dita_doc.specs.declared.stop.Stop.{Stop}
use Rattle.dita_doc.specs.declared.stop.Stop.TheVariants as stops
use Rattle.dita_outside.specs.Pages.{Pages}
use Rattle.transcript_text.specs.Transcript.{OfBuild, Shown, reply_shown, row_text}
use Rattle.transcript_text.specs.Written.{text_shown}
use Rattle.version_store.specs.declared.full.Full as full_declared
use Rattle.desk_core.specs.Steps.{IsNoBuild}
use Rattle.desk_language.specs.Language.{Language}
use Rattle.desk_lock.specs.Calls.{Appends, IsStopped}
use Rattle.desk_lock.specs.Meaning.{Meaning}
use Rattle.desk_lock.specs.declared.view.View.{View}
use Rattle.desk_work.specs.Build.{BuildOrder, Ends, EndsBuilt}
use Rattle.desk_work.specs.declared.built.BuildStop.{BuildStop}
use Rattle.desk_work.specs.declared.built.BuildStop.TheVariants as build_stops
use Rattle.desk_work.specs.declared.built.Built.{Built}
use Rattle.desk_work.specs.declared.built.PageRow.{PageRow}
use Rattle.desk_session.proofs.AnswerLaws.{entry_reply, sources_later}
use Rattle.desk_session.proofs.GoesLaws.{goes_made, goes_stood, stands_built, stood_entry}
use Rattle.desk_session.proofs.RowLaws.{build_shown}
use Rattle.desk_session.specs.Answers.{CleanBuild, PagesEndWithLine, ShowsReply, entry_of}
use Rattle.desk_session.specs.Asking.{Builds, GivesBuild, HasHtml, HasItsPage, Puts, PutsAlone, PutsAnswer, StandsBuilt, TellsBuilt, TellsReply, pages_of, row_message, row_seen, stop_of, text_of}
use Rattle.desk_session.specs.Pass.{IsAmong, basis_of}
use Rattle.desk_session.specs.declared.answer.Answer.{Answer}

-- A request that is no build

shows_alone : (clean : CleanBuild) (state : State) (request : Request) (answer : Reply) (shown : Shown) → IsNoBuild request
    → reply_shown answer None ≡ Some shown → ShowsReply clean state request answer shown []
shows_alone clean state (Single edit) answer shown none shows = (shows, refl)
shows_alone clean state (Get name) answer shown none shows = (shows, refl)
shows_alone clean state Names answer shown none shows = (shows, refl)
shows_alone clean state (Build root val) answer shown none shows = absurd none
shows_alone clean state (Group edits) answer shown none shows = (shows, refl)

module _ (clean : CleanBuild) (v w : View) (number place : ℕ) (asked : Request) (answer : Reply)
    (appends : Appends v number asked answer place w) where
  made_entry : Entry
  made_entry = record { session = v.session; number = number; request = asked; reply = answer }

  made_is : made_entry ≡ entry_of (basis_of clean v w) number asked place
  unfolding made_entry
  made_is =
      let same : answer ≡ reply (sources w.seen place) place asked =
      entry_reply w.seen place made_entry appends.legal appends.entry in
      λ i. record { session = v.session; number = number; request = asked; reply = same i }

  pub puts_edit : (text : Answer) → IsNoBuild asked → TellsReply place v.session number answer text
      → PutsAnswer clean v number asked text w
  unfolding made_entry
  puts_edit text none tells = record {
    answered = record { place = place; entry = made_entry; shown = tells.shown; rows = [] };
    puts = record {
      on = goes_made v w number place asked answer appends;
      is = record {
        entry_is = made_is;
        stands = appends.entry;
        shows = shows_alone clean (sources w.seen place) asked answer tells.shown none tells.shows;
        known = All-nil (IsAmong w.rows);
      };
      behind = appends.behind;
    };
    messages = λ i. tells.text i ∷ map row_message (tells.pages i);
    have = subst (All HasItsPage) (sym tells.pages) (All-nil HasItsPage);
  }

  pub puts_alone : PutsAlone clean v number asked w
  unfolding made_entry
  puts_alone = record {
    place = place;
    on = goes_made v w number place asked answer appends;
    stands = appends.entry ∙ ap (λ (entry : Entry). Some entry) made_is;
    behind = appends.behind;
  }

pub edit_stop : (clean : CleanBuild) (v w : View) (number : ℕ) (asked : Request) (stop : Stop full_declared.Full)
    → IsStopped v asked stop w → Puts clean v number asked (Err stop) w
edit_stop clean v w number asked (stops.Fault full) is = is
edit_stop clean v w number asked stops.NoMemory is = inl is

-- A build

texts_kept : (pages : List PageRow) → map row_message pages ≡ map row_text (map row_seen pages)
texts_kept [] = refl
texts_kept (page ∷ pages) = ap (λ (rest : List Bytes). row_message page ∷ rest) (texts_kept pages)

pub stands_alone : (clean : CleanBuild) (v : View) (order : BuildOrder) (w : View) → StandsBuilt v order w
    → PutsAlone clean v order.number (Build order.root order.val) w
stands_alone clean v order w stands =
    record { place = stands.place; on = stands.on; stands = stands.stands; behind = stands.behind }

pub build_stop : (means : Meaning) (language : Language) (v w : View) (order : BuildOrder) (stop : Stop full_declared.Full)
    → Builds means language v order (Err stop) w
    → Puts language.clean v order.number (Build order.root order.val) (Err stop) w
build_stop means language v w order (stops.Fault full) is = is
build_stop means language v w order stops.NoMemory is =
    ⊎_elim (λ looks. inl looks) (λ stands. inr (stands_alone language.clean v order w stands)) is

pub gives_built : (means : Meaning) (language : Language) (v : View) (order : BuildOrder) (built : Built) (w : View)
    (old new : Option Pages) → EndsBuilt means language v order built w old new → GivesBuild means language v order built w
gives_built means language v order built w old new ends = ((old, new), ends)

-- out of memory, or by an outlet that failed, it may stand
pub builds_none : (means : Meaning) (language : Language) (v w : View) (order : BuildOrder) (old new : Option Pages)
    (stop : BuildStop) → Ends means language v order (Err stop) w old new
    → Builds means language v order (Err (stop_of stop)) w
builds_none means language v w order old new build_stops.OutletFault is =
    inr (stands_built means language v order is.place is.state is.jobs w is.stood)
builds_none means language v w order old new build_stops.NoMemory is = ⊎_elim
    (λ short. inr (stands_built means language v order short.place short.state short.jobs w short.stood))
    (λ nowhere. inl nowhere.looks) is
builds_none means language v w order old new (build_stops.Full full) is = is.passed

module _ (means : Meaning) (language : Language) (v : View) (order : BuildOrder) (built : Built) (w : View) where
  pub gives_stands : GivesBuild means language v order built w → StandsBuilt v order w
  gives_stands gives = let ends = gives.1 in
      stands_built means language v order built.place ends.state ends.jobs w ends.stood

  pub puts_build : (text : Answer) → PagesEndWithLine language.clean → GivesBuild means language v order built w
      → TellsBuilt built.place v.session order.number built.outcome text
      → PutsAnswer language.clean v order.number (Build order.root order.val) text w
  puts_build text lines gives tells =
      let ends = gives.1 in
      let stood = ends.stood in
      let between = stood.between in
      let here : Entry =
      record { session = v.session; number = order.number; request = Build order.root order.val; reply = Begun } in
      let within : built.place < length between.seen =
      slice_get_within between.seen built.place here stood.begun.appends.entry in
      let state : ends.state ≡ sources w.seen built.place = stood.begun.here
      ∙ sym (sources_later w.seen between.seen built.place stood.progress.worked.seen (omega (arith, within))) in
      let shown = build_shown _ between w stood.progress.rows built.outcome ends.jobs order.root order.val
      (language.page_count ends.state order.root order.val) (language.clean ends.state order.root order.val) ends.outcome
      ends.cited stood.progress.done ends.whole.all (subst (All HasHtml) tells.pages tells.have)
      (lines ends.state order.root order.val) in
      record {
        answered = record {
          place = built.place;
          entry = here;
          shown = OfBuild (text_shown (text_of built.outcome));
          rows = map row_seen (pages_of built.outcome);
        };
        puts = record {
          on = goes_stood means language v order built.place ends.state ends.jobs w stood;
          is = record {
            entry_is = refl;
            stands = stood_entry means language v order built.place ends.state ends.jobs w stood;
            shows = subst (λ (s : State). ShowsReply language.clean s (Build order.root order.val) Begun
                (OfBuild (text_shown (text_of built.outcome))) (map row_seen (pages_of built.outcome))) state shown.0;
            known = shown.1;
          };
          behind = stood.begun.appends.behind;
        };
        messages = λ i. tells.text i ∷ (ap (map row_message) tells.pages ∙ texts_kept (pages_of built.outcome)) i;
        have = subst (All HasItsPage) (sym tells.pages) shown.2;
      }
