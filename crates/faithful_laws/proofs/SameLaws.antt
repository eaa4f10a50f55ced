-- Two faithful transcripts of one history show the same but for the serials of their rows.
use Rattle.std.proofs.Common.{◌≡◌, ◌+◌, ℕ, false, List, [], ◌∷◌, Option, Some, None, All, drop, length, map, refl, sym, ap, subst, ◌∙◌, arith}
use Rattle.std.specs.List.{AllByRecursion, slice_get}
use Rattle.std.proofs.lemmas.List.{length-map}
use Rattle.std.proofs.lemmas.List.Elements.{All-tail, recursion_from_All}
use Rattle.std.proofs.lemmas.Option.{none-some, same_Some}
use Rattle.build_spec.specs.Built.{BuildOutcome, Page, Done, Stopped, TooLarge}
use Rattle.desk_language.specs.Language.{Language}
use Rattle.dita_doc.specs.Desk.{State, Reply, IsStored, IsRemoved, Bytes, NameList, IsRefused, Conflict, Absent, TooManyNames, Begun, IsGrouped, IsStopped, next, reply}
use Rattle.dita_doc.specs.History.{Entry}
use Rattle.dita_doc.specs.Request.{Request, Single, Get, Names, Build, Group}
use Rattle.script_text.specs.Script.{Step}
use Rattle.transcript_text.specs.Transcript.{BuildShown, BuiltPages, StoppedBy, PagesTooLarge, EntryShown, InRow, OfBuild, PageShown, RowShown, Shown, fault_shown, reply_shown}
use Rattle.transcript_text.specs.Written.{is_begun}
use Rattle.run_spec.specs.Cites.{CitePages, ShowsBuilt}
use Rattle.run_spec.specs.Faithful.{HavePlaces, IsFaithful, IsOfSession, ShowsBuild, ShowsReply}
use Rattle.run_spec.specs.HistoryTold.{Moment, entry_told, history_told, moments_from, moments_of, step_of}
use Rattle.run_spec.specs.Language.{dita}
use Rattle.run_spec.proofs.ShownLaws.{begun_built}
use Rattle.run_spec.proofs.ToldLaws.{HasSession, behind, each_told}
use Rattle.faithful_laws.specs.OneHistory.{DifferInSerials, Steps, entry_alone, page_alone, shown_alone}

-- Pages

abbrev named_alone : Page → PageShown
named_alone page = record { name = page.0; mark = InRow 0 }

pages_alone : (rows : List RowShown) (root : List ℕ) (val : Option (List ℕ)) (index : ℕ) (pages : List Page)
    (told : List PageShown) → CitePages rows root val index pages told → map page_alone told ≡ map named_alone pages
pages_alone rows root val index [] [] cites = refl
pages_alone rows root val index [] (shown ∷ more) cites = absurd cites
pages_alone rows root val index (page ∷ pages) [] cites = absurd cites
pages_alone rows root val index (page ∷ []) (shown ∷ more) cites =
    ap (λ (name : List ℕ). record { name = name; mark = InRow 0 } ∷ map page_alone more) cites.0.named
    ∙ ap (λ (rest : List PageShown). named_alone page ∷ map page_alone rest) cites.1
pages_alone rows root val index (page ∷ following ∷ pages) (shown ∷ more) cites =
    ap (λ (name : List ℕ). record { name = name; mark = InRow 0 } ∷ map page_alone more) cites.0.named
    ∙ ap (λ (rest : List PageShown). named_alone page ∷ rest)
    (pages_alone rows root val (index + 1) (following ∷ pages) more cites.1)

-- a build that is shown, apart from serials
abbrev built_alone : BuildOutcome → Shown
built_alone (Stopped stop) = OfBuild (StoppedBy stop)
built_alone (TooLarge total) = OfBuild (PagesTooLarge total)
built_alone (Done pages faults) = OfBuild (BuiltPages (map named_alone pages) (map fault_shown faults))

build_is : (rows : List RowShown) (root : List ℕ) (val : Option (List ℕ)) (built : BuildOutcome) (shown : Shown)
    → ShowsBuilt rows root val built shown → shown_alone shown ≡ built_alone built
build_is rows root val (Stopped stop) shown shows = ap shown_alone shows
build_is rows root val (TooLarge total) shown shows = ap shown_alone shows
build_is rows root val (Done pages faults) shown shows = ap shown_alone shows.1
    ∙ ap (λ (told : List PageShown). OfBuild (BuiltPages told (map fault_shown faults)))
    (pages_alone rows root val 0 pages shows.0 shows.2)

-- Replies

shows_nothing : (answer : Reply) (built : BuildShown) (shown : Shown) → is_begun answer ≡ false
    → reply_shown answer (Some built) ≡ Some shown → ⊥
shows_nothing (IsStored version) built shown none e = none-some shown e
shows_nothing (IsRemoved version) built shown none e = none-some shown e
shows_nothing (Bytes bytes) built shown none e = none-some shown e
shows_nothing (NameList names) built shown none e = none-some shown e
shows_nothing (IsRefused fault) built shown none e = none-some shown e
shows_nothing (Conflict version) built shown none e = none-some shown e
shows_nothing Absent built shown none e = none-some shown e
shows_nothing (TooManyNames limit) built shown none e = none-some shown e
shows_nothing Begun built shown none e = cc none
shows_nothing (IsGrouped edits) built shown none e = none-some shown e
shows_nothing (IsStopped number refusal) built shown none e = none-some shown e

-- what is no build shows its reply
pub alone_is : (answer : Reply) (built : Option BuildShown) (shown : Shown) → is_begun answer ≡ false
    → reply_shown answer built ≡ Some shown → reply_shown answer None ≡ Some shown
alone_is answer None shown none e = e
alone_is answer (Some built) shown none e = absurd (shows_nothing answer built shown none e)

reply_same : (answer : Reply) (shown other : Shown) → is_begun answer ≡ false
    → ((built : Option BuildShown) × (reply_shown answer built ≡ Some shown))
    → ((built : Option BuildShown) × (reply_shown answer built ≡ Some other)) → shown ≡ other
reply_same answer shown other none is also = same_Some shown other
    (sym (alone_is answer is.0 shown none is.1) ∙ alone_is answer also.0 other none also.1)

-- What is shown of a request over what is stored at a place

abbrev pub Replied : State → ℕ → Request → Shown → Type 0
Replied state place request shown =
    (built : Option BuildShown) × (reply_shown (reply state place request) built ≡ Some shown)

-- the build of a request that is none has nothing to show
abbrev pub Builds : Language → List RowShown → State → Request → Shown → Type 0
Builds language rows state (Single edit) shown = Unit {0}
Builds language rows state (Get name) shown = Unit {0}
Builds language rows state Names shown = Unit {0}
Builds language rows state (Build root val) shown = ShowsBuilt rows root val (language.clean state root val) shown
Builds language rows state (Group edits) shown = Unit {0}

pub builds_is : (language : Language) (rows : List RowShown) (moment : Moment) (request : Request)
    → ShowsBuild language rows moment request → Builds language rows moment.state request moment.entry.shown
builds_is language rows moment (Single edit) shows = tt
builds_is language rows moment (Get name) shows = tt
builds_is language rows moment Names shows = tt
builds_is language rows moment (Build root val) shows = shows
builds_is language rows moment (Group edits) shows = tt

-- it is determined but for serials
same_for : (language : Language) (rows others : List RowShown) (state : State) (place : ℕ) (request : Request)
    (shown other : Shown) → Replied state place request shown → Replied state place request other
    → Builds language rows state request shown → Builds language others state request other
    → shown_alone shown ≡ shown_alone other
same_for language rows others state place (Single edit) shown other replied again builds also = ap shown_alone
    (reply_same (reply state place (Single edit)) shown other (sym (begun_built state place (Single edit)))
    replied again)
same_for language rows others state place (Get name) shown other replied again builds also = ap shown_alone
    (reply_same (reply state place (Get name)) shown other (sym (begun_built state place (Get name))) replied again)
same_for language rows others state place Names shown other replied again builds also =
    ap shown_alone (reply_same (reply state place Names) shown other refl replied again)
same_for language rows others state place (Build root val) shown other replied again builds also =
    build_is rows root val (language.clean state root val) shown builds
    ∙ sym (build_is others root val (language.clean state root val) other also)
same_for language rows others state place (Group edits) shown other replied again builds also = ap shown_alone
    (reply_same (reply state place (Group edits)) shown other (sym (begun_built state place (Group edits)))
    replied again)

-- Two moments at one place, over one state and of one request

same_shown : (language : Language) (rows others : List RowShown) (moment other : Moment)
    → moment.state ≡ other.state → moment.place ≡ other.place → moment.step.request ≡ other.step.request
    → ShowsReply moment → ShowsReply other → ShowsBuild language rows moment moment.step.request
    → ShowsBuild language others other other.step.request
    → shown_alone moment.entry.shown ≡ shown_alone other.entry.shown
same_shown language rows others moment other state place request replied again builds also =
    same_for language rows others moment.state moment.place moment.step.request moment.entry.shown other.entry.shown
    replied
    (subst (λ (x : State × ℕ × Request). Replied x.0 x.1 x.2 other.entry.shown)
    (λ i. (sym state i, sym place i, sym request i)) again)
    (builds_is language rows moment moment.step.request builds)
    (subst (λ (x : State × Request). Builds language others x.0 x.1 other.entry.shown)
    (λ i. (sym state i, sym request i)) (builds_is language others other other.step.request also))

-- Entries

-- each moment shows the desk's reply, and its build if it is one
abbrev pub ShowsBoth : Language → List RowShown → Moment → Type 0
ShowsBoth language rows moment = ShowsReply moment × ShowsBuild language rows moment moment.step.request

abbrev pub AllShow : Language → List RowShown → List Moment → Type 0
AllShow language rows moments = AllByRecursion (ShowsBoth language rows) moments

abbrev told_from : List Step → State → ℕ → List EntryShown → List Entry
told_from steps state place entries = map entry_told (moments_from steps state place entries)

-- what is to be shown of entries from a place on
abbrev AreAlike : Language → List Step → List RowShown → List RowShown → ℕ → List EntryShown → List EntryShown → Type 0
AreAlike language steps rows others place entries more = (state again : State) → state ≡ again
    → AllShow language rows (moments_from steps state place entries)
    → AllShow language others (moments_from steps again place more)
    → told_from steps state place entries ≡ told_from steps again place more
    → map entry_alone entries ≡ map entry_alone more

first_told : (entry other : Entry) (entries others : List Entry) → entry ∷ entries ≡ other ∷ others → entry ≡ other
first_told entry other entries others same = same_Some entry other (ap (λ (list : List Entry). slice_get list 0) same)

rest_told : (entry other : Entry) (entries others : List Entry) → entry ∷ entries ≡ other ∷ others → entries ≡ others
rest_told entry other entries others same = ap (λ (list : List Entry). drop 1 list) same

alike_behind : (language : Language) (steps : List Step) (rows others : List RowShown) (state again : State) (place : ℕ)
    (entry other : EntryShown) (entries more : List EntryShown) (found also : Option Step) → state ≡ again
    → HasSession entry found → HasSession other also → entry.place ≡ place → other.place ≡ place
    → AllShow language rows (behind steps state place entry entries found)
    → AllShow language others (behind steps again place other more also)
    → map entry_told (behind steps state place entry entries found)
    ≡ map entry_told (behind steps again place other more also)
    → AreAlike language steps rows others (place + 1) entries more
    → map entry_alone (entry ∷ entries) ≡ map entry_alone (other ∷ more)
alike_behind language steps rows others state again place entry other entries more None also same of too at there show
    shown told rest = absurd (none-some entry.session of)
alike_behind language steps rows others state again place entry other entries more (Some step) None same of too at there
    show shown told rest = absurd (none-some other.session too)
alike_behind language steps rows others state again place entry other entries more (Some step) (Some next_step) same of
    too at there show shown told rest =
    let one : Moment = record { place = place; state = state; step = step; entry = entry } in
    let two : Moment = record { place = place; state = again; step = next_step; entry = other } in
    let later = next state place step.request in
    let then = next again place next_step.request in
    let first : entry_told one ≡ entry_told two = first_told (entry_told one) (entry_told two)
    (told_from steps later (place + 1) entries) (told_from steps then (place + 1) more) told in
    let request : step.request ≡ next_step.request = ap (λ (e : Entry). e.request) first in
    let shows : shown_alone entry.shown ≡ shown_alone other.shown =
    same_shown language rows others one two same refl request show.0.0 shown.0.0 show.0.1 shown.0.1 in
    let place_same : entry.place ≡ other.place = at ∙ sym there in
    let session_same : entry.session ≡ other.session = ap (λ (e : Entry). e.session) first in
    let number_same : entry.number ≡ other.number = ap (λ (e : Entry). e.number) first in
    let head : entry_alone entry ≡ entry_alone other = λ i. record {
      place = place_same i;
      session = session_same i;
      number = number_same i;
      shown = shows i;
    } in
    let tail : map entry_alone entries ≡ map entry_alone more =
    rest later then (λ i. next (same i) place (request i)) show.1 shown.1
    (rest_told (entry_told one) (entry_told two) (told_from steps later (place + 1) entries)
    (told_from steps then (place + 1) more) told) in
    λ i. head i ∷ tail i

no_fewer : (steps : List Step) (state again : State) (place : ℕ) (entries more : List EntryShown)
    → All (IsOfSession steps) entries → All (IsOfSession steps) more
    → told_from steps state place entries ≡ told_from steps again place more → length entries ≡ length more
no_fewer steps state again place entries more of too told =
    sym (each_told steps entries of state place)
    ∙ sym (length-map (moments_from steps state place entries) entry_told)
    ∙ ap (λ (list : List Entry). length list) told
    ∙ length-map (moments_from steps again place more) entry_told
    ∙ each_told steps more too again place

alike : (language : Language) (steps : List Step) (rows others : List RowShown) (place : ℕ)
    (entries more : List EntryShown) → All (IsOfSession steps) entries → All (IsOfSession steps) more
    → HavePlaces place entries → HavePlaces place more → AreAlike language steps rows others place entries more
alike language steps rows others place [] [] of too at there state again same show shown told = refl
alike language steps rows others place [] (other ∷ more) of too at there state again same show shown told =
    let fewer = no_fewer steps state again place [] (other ∷ more) of too told in absurd (omega arith)
alike language steps rows others place (entry ∷ entries) [] of too at there state again same show shown told =
    let fewer = no_fewer steps state again place (entry ∷ entries) [] of too told in absurd (omega arith)
alike language steps rows others place (entry ∷ entries) (other ∷ more) of too at there state again same show
    shown told =
    alike_behind language steps rows others state again place entry other entries more (step_of steps entry.number)
    (step_of steps other.number) same (of 0 entry (omega arith)) (too 0 other (omega arith)) at.0 there.0 show
    shown told
    (alike language steps rows others (place + 1) entries more (All-tail (IsOfSession steps) entry entries of)
    (All-tail (IsOfSession steps) other more too) at.1 there.1)

-- Transcripts

both_shown : (language : Language) (rows : List RowShown) (moments : List Moment) → AllByRecursion ShowsReply moments
    → AllByRecursion (λ (moment : Moment). ShowsBuild language rows moment moment.step.request) moments
    → AllShow language rows moments
both_shown language rows [] replied builds = tt
both_shown language rows (moment ∷ moments) replied builds =
    ((replied.0, builds.0), both_shown language rows moments replied.1 builds.1)

pub all_show : (steps : List Step) (text : List ℕ) (is : IsFaithful dita steps text)
    → AllShow dita is.transcript.rows (moments_of steps is.transcript.entries)
all_show steps text is =
    let moments : List Moment = moments_of steps is.transcript.entries in
    both_shown dita is.transcript.rows moments (recursion_from_All ShowsReply moments is.replies)
    (recursion_from_All (λ (moment : Moment). ShowsBuild dita is.transcript.rows moment moment.step.request) moments
    is.builds)

pub differ_in_serials : (steps : Steps) (text other : List ℕ) (first : IsFaithful dita steps text)
    (second : IsFaithful dita steps other)
    → history_told steps first.transcript.entries ≡ history_told steps second.transcript.entries
    → DifferInSerials first.transcript.entries second.transcript.entries
differ_in_serials steps text other first second told =
    alike dita steps first.transcript.rows second.transcript.rows 0 first.transcript.entries second.transcript.entries
    first.requests.sessions second.requests.sessions first.entries.places second.entries.places [] [] refl
    (all_show steps text first) (all_show steps other second) told
