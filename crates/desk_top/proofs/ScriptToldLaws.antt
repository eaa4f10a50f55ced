-- The transcript of one history of a script tells the script: its entries are those of the history in order, so each
-- request stands once, over what the entries before it have stored.
use Rattle.std.proofs.Common.{◌≡◌, ◌+◌, ◌<◌, ◌==◌, ℕ, suc, List, [], ◌∷◌, ◌++◌, Option, Some, None, All, AllPairs, cond, count_by, get_or, length, option_map, slice_get, take, refl, sym, ap, ◌∙◌, subst, arith}
use Rattle.std.specs.Option.{option_to_list}
use Rattle.std.proofs.lemmas.List.Elements.{All-cons, All-nil}
use Rattle.std.proofs.lemmas.List.Sums.{sum_by-cons}
use Rattle.std.proofs.lemmas.Option.{none-some, same_Some, slice_get-get_or}
use Rattle.dita_doc.specs.Bytes.{Bytes}
use Rattle.dita_doc.specs.Desk.{State, next}
use Rattle.dita_doc.specs.History.{Entry, IsLegal, replay}
use Rattle.dita_doc.specs.Request.{Build, Get, Group, Names, Request, Single}
use Rattle.run_spec.specs.Cites.{ShowsBuilt}
use Rattle.run_spec.specs.Faithful.{CitesEachRow, HasEntries, HavePlaces, IsInOrder, IsOfSession, ShowsBuild, ShowsBuilds, ShowsReplies, ShowsReply, TakesEachOnce}
use Rattle.run_spec.specs.HistoryTold.{Moment, moment_with, moments_from, next_with, step_of}
use Rattle.run_spec.specs.Language.{dita}
use Rattle.script_text.specs.Script.{Step}
use Rattle.transcript_text.specs.Transcript.{BuildShown, EntryShown, RowShown, Shown, Transcript, entry_with, reply_shown}
use Rattle.version_store.proofs.HistoryLaws.{legal_at}
use Rattle.desk_top.specs.OneHistory.{IsBehind, IsOneHistory, step_in}
use Rattle.desk_top.specs.Told.{AreTold, IsTold, TellsHistory}
use Rattle.desk_top.proofs.PlaceLaws.{all_at, all_by, pair_at}

-- Entries as they are told

shown_as : (place : ℕ) (entry : Entry) (found : Option Shown) (told : EntryShown)
    → option_map (entry_with place entry) found ≡ Some told
    → (shown : Shown) × (found ≡ Some shown) × (entry_with place entry shown ≡ told)
shown_as place entry None told is = absurd (none-some told is)
shown_as place entry (Some shown) told is = (shown, refl, same_Some (entry_with place entry shown) told is)

-- the place, the session and the number are those of the entry, and it shows the entry's reply
pub record Shows (place : ℕ) (entry : Entry) (told : EntryShown) : Type 0 where
  pub at : told.place ≡ place
  pub session : told.session ≡ entry.session
  pub number : told.number ≡ entry.number
  pub built : Option BuildShown
  pub shown : reply_shown entry.reply built ≡ Some told.shown

shows : (log : List Entry) (place : ℕ) (entry : Entry) (told : EntryShown) → IsTold log place told
    → slice_get log place ≡ Some entry → Shows place entry told
shows log place entry told is stands =
    let form = shown_as place is.entry (reply_shown is.entry.reply is.built) told is.shown in
    let same : is.entry ≡ entry = same_Some is.entry entry (sym is.stands ∙ stands) in
    subst (λ (e : Entry). Shows place e told) same (record {
      at = ap (λ (t : EntryShown). t.place) (sym form.2);
      session = ap (λ (t : EntryShown). t.session) (sym form.2);
      number = ap (λ (t : EntryShown). t.number) (sym form.2);
      built = is.built;
      shown = form.1 ∙ ap (λ (t : EntryShown). Some t.shown) form.2;
    })

-- an entry that is told stands in the history, with a request of the script
pub record Stands (steps : List Step) (log : List Entry) (place : ℕ) (told : EntryShown) : Type 0 where
  pub entry : Entry
  pub stands : slice_get log place ≡ Some entry
  pub shows : Shows place entry told
  pub named : step_of steps told.number ≡ Some (step_in entry)

abbrev pub AllStand : List Step → List Entry → List EntryShown → Type 0
AllStand steps log told = (place : ℕ) (shown : EntryShown) → slice_get told place ≡ Some shown
    → Stands steps log place shown

pub all_stand : (steps : List Step) (log : List Entry) (told : List EntryShown) → IsOneHistory steps log
    → AreTold log told → AllStand steps log told
all_stand steps log told one are place shown at =
    let is = are place shown at in
    let told_as = shows log place is.entry shown is is.stands in
    record {
      entry = is.entry;
      stands = is.stands;
      shows = told_as;
      named = ap (step_of steps) told_as.number
          ∙ all_at (λ (entry : Entry). step_of steps entry.number ≡ Some (step_in entry)) log place is.entry one.named
          is.stands;
    }

-- The places

have_places : (place : ℕ) (told : List EntryShown)
    → ((n : ℕ) (shown : EntryShown) → slice_get told n ≡ Some shown → shown.place ≡ place + n) → HavePlaces place told
have_places place [] at = tt
have_places place (first ∷ told) at = (
  at 0 first refl ∙ omega arith,
  have_places (place + 1) told (λ n shown is. at (suc n) shown is ∙ omega arith),
)

-- Each request once

numbers_same : (log : List Entry) (told : List EntryShown) → length told ≡ length log
    → ((n : ℕ) (shown : EntryShown) → slice_get told n ≡ Some shown
    → (entry : Entry) × (slice_get log n ≡ Some entry) × (shown.number ≡ entry.number))
    → (number : ℕ) → count_by (λ (shown : EntryShown). shown.number == number) told
    ≡ count_by (λ (entry : Entry). entry.number == number) log
numbers_same [] [] count same number = refl
numbers_same (entry ∷ log) [] count same number = absurd (omega (arith, count))
numbers_same [] (shown ∷ told) count same number = absurd (omega (arith, count))
numbers_same (entry ∷ log) (shown ∷ told) count same number =
    let first = same 0 shown refl in
    let is : shown.number ≡ entry.number =
    first.2 ∙ ap (λ (e : Entry). e.number) (sym (same_Some entry first.0 first.1)) in
    sum_by-cons (λ (s : EntryShown). cond (s.number == number) 1 0) shown told
    ∙ ap (λ n. cond (n == number) 1 0 + count_by (λ (s : EntryShown). s.number == number) told) is
    ∙ ap (λ n. cond (entry.number == number) 1 0 + n)
    (numbers_same log told (omega (arith, count)) (λ n s at. same (suc n) s at) number)
    ∙ sym (sum_by-cons (λ (e : Entry). cond (e.number == number) 1 0) entry log)

in_order : (steps : List Step) (log : List Entry) (told : List EntryShown) → AllStand steps log told
    → AllPairs IsBehind log → AllPairs IsInOrder told
in_order steps log told stand order i j d before within =
    let first = stand i (get_or told i d) (slice_get-get_or told i d (omega arith)) in
    let second = stand j (get_or told j d) (slice_get-get_or told j d within) in
    λ same. (let less : first.entry.number < second.entry.number =
    pair_at IsBehind log i j first.entry second.entry order before first.stands second.stands
    (sym first.shows.session ∙ same ∙ second.shows.session) in
    omega (arith, less, first.shows.number, second.shows.number))

takes_once : (steps : List Step) (log : List Entry) (told : List EntryShown) → IsOneHistory steps log
    → length told ≡ length log → AllStand steps log told → TakesEachOnce steps told
takes_once steps log told one count stand = record {
  sessions = all_by (IsOfSession steps) told (λ n shown at. (let is = stand n shown at in
      ap (option_map (λ (step : Step). step.session)) is.named ∙ ap Some (sym is.shows.session)));
  once = λ number step is. numbers_same log told count
      (λ n shown at. (let is = stand n shown at in (is.entry, is.stands, is.shows.number))) number
      ∙ one.once number step is;
  order = in_order steps log told stand one.order;
}

-- The moments

-- an entry with its request, over the replay of the history before it
abbrev moment_at : State → ℕ → List Entry → ℕ → Entry → EntryShown → Moment
moment_at state place log n entry shown = record {
  place = place + n;
  state = replay state place (take n log);
  step = step_in entry;
  entry = shown;
}

moments_each : (P : Moment → Type 0) (steps : List Step) (state : State) (place : ℕ) (log : List Entry)
    (told : List EntryShown)
    → ((n : ℕ) (shown : EntryShown) → slice_get told n ≡ Some shown
    → (entry : Entry) × (slice_get log n ≡ Some entry) × (step_of steps shown.number ≡ Some (step_in entry)))
    → ((n : ℕ) (entry : Entry) (shown : EntryShown) → slice_get log n ≡ Some entry → slice_get told n ≡ Some shown
    → P (moment_at state place log n entry shown))
    → All P (moments_from steps state place told)
moments_each P steps state place log [] named each = All-nil P
moments_each P steps state place [] (shown ∷ told) named each =
    let first = named 0 shown refl in absurd (none-some first.0 first.1)
moments_each P steps state place (entry ∷ log) (shown ∷ told) named each =
    let first = named 0 shown refl in
    let is : step_of steps shown.number ≡ Some (step_in entry) =
    first.2 ∙ ap (λ (e : Entry). Some (step_in e)) (sym (same_Some entry first.0 first.1)) in
    let later : State = next state place entry.request in
    let this : P (moment_with state place shown (step_in entry)) =
    subst (λ at. P (moment_with state at shown (step_in entry))) {x = place + 0} (omega arith)
    (each 0 entry shown refl refl) in
    let rest : All P (moments_from steps later (place + 1) told) =
    moments_each P steps later (place + 1) log told (λ n s at. named (suc n) s at)
    (λ n e s stands at. subst (λ m. P (moment_with (replay later (place + 1) (take n log)) m s (step_in e)))
    {x = place + suc n} (omega arith) (each (suc n) e s stands at)) in
    subst (λ found. All P (option_to_list (option_map (moment_with state place shown) found)
    ++ moments_from steps (next_with state place found) (place + 1) told)) (sym is)
    (All-cons P (moment_with state place shown (step_in entry)) (moments_from steps later (place + 1) told) this rest)

-- each shows the desk's reply
reply_at : (log : List Entry) (n : ℕ) (entry : Entry) (shown : EntryShown) → IsLegal log
    → slice_get log n ≡ Some entry → Shows n entry shown → ShowsReply (moment_at [] 0 log n entry shown)
reply_at log n entry shown legal stands told_as = (
  told_as.built,
  ap (λ given. reply_shown given told_as.built) (sym (legal_at [] 0 log n entry legal stands)) ∙ told_as.shown,
)

-- and each build the clean build
build_at : (rows : List RowShown) (moment : Moment) (request : Request)
    → ((root : List ℕ) (val : Option (List ℕ)) → request ≡ Build root val
    → ShowsBuilt rows root val (dita.clean moment.state root val) moment.entry.shown)
    → ShowsBuild dita rows moment request
build_at rows moment (Single edit) is = tt
build_at rows moment (Get name) is = tt
build_at rows moment Names is = tt
build_at rows moment (Build root val) is = is root val refl
build_at rows moment (Group edits) is = tt

-- The whole

-- what a faithful transcript says of its script, but for what it says of the rows that were made
pub record TellsScript (steps : List Step) (text : Bytes) : Type 0 where
  pub transcript : Transcript
  pub entries : HasEntries steps transcript text
  pub requests : TakesEachOnce steps transcript.entries
  pub replies : ShowsReplies steps transcript.entries
  pub builds : ShowsBuilds dita steps transcript
  pub rows : CitesEachRow transcript

pub told_script : (steps : List Step) (log : List Entry) (text : Bytes) → IsOneHistory steps log
    → TellsHistory log text → TellsScript steps text
told_script steps log text one tells =
    let told = tells.transcript.entries in
    let stand = all_stand steps log told one tells.are in
    let named : (n : ℕ) (shown : EntryShown) → slice_get told n ≡ Some shown → (entry : Entry)
    × (slice_get log n ≡ Some entry) × (step_of steps shown.number ≡ Some (step_in entry)) =
    λ n shown at. (let is = stand n shown at in (is.entry, is.stands, is.named)) in
    record {
      transcript = tells.transcript;
      entries = record {
        form = tells.form;
        is = tells.is;
        places = have_places 0 told (λ n shown at. (stand n shown at).shows.at ∙ omega arith);
        count = tells.count ∙ one.count;
      };
      requests = takes_once steps log told one tells.count stand;
      replies = moments_each ShowsReply steps [] 0 log told named
          (λ n entry shown stands at. reply_at log n entry shown one.legal stands
          (shows log n entry shown (tells.are n shown at) stands));
      builds = moments_each (λ (moment : Moment). ShowsBuild dita tells.transcript.rows moment moment.step.request)
          steps [] 0 log told named
          (λ n entry shown stands at. build_at tells.transcript.rows (moment_at [] 0 log n entry shown) entry.request
          (λ root val is. tells.builds n entry shown root val stands at is));
      rows = tells.rows;
    }

-- its transcript is that of the history
pub told_same : (steps : List Step) (log : List Entry) (text : Bytes) (one : IsOneHistory steps log)
    (tells : TellsHistory log text) → (told_script steps log text one tells).transcript ≡ tells.transcript
unfolding told_script
told_same steps log text one tells = refl
