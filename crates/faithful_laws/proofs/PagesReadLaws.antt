-- The page lines of a faithful transcript, read with their row lines, are the pages of the clean builds; so they are the
-- same in two transcripts of one history, and what row lines say is the same.
use Rattle.std.proofs.Common.{◌≡◌, ◌≢◌, ◌+◌, ◌==◌, suc, ℕ, Bool, true, false, List, [], ◌∷◌, Option, Some, None, All, AllPairs, Contains, filter_map, flat_map, if◌then◌else◌, map, option_map, refl, sym, ap, subst, ◌∙◌, ⊎_elim, eq-eqb, ne_eqb, arith}
use Rattle.std.specs.List.{AllByRecursion, cons_option}
use Rattle.std.proofs.lemmas.List.Elements.{All-from_recursion, All-tail}
use Rattle.std.proofs.lemmas.Option.{none-some, same_Some}
use Rattle.build_spec.specs.Built.{BuildOutcome, Page, Done, Stopped, TooLarge, built_pages}
use Rattle.dita_doc.specs.Desk.{State, Reply, IsStored, IsRemoved, Bytes, NameList, IsRefused, Conflict, Absent, TooManyNames, Begun, IsGrouped, IsStopped, next, reply}
use Rattle.dita_doc.specs.History.{Entry}
use Rattle.dita_doc.specs.Request.{Request, Single, Get, Names, Build, Group}
use Rattle.script_text.specs.Script.{Step}
use Rattle.transcript_text.specs.Transcript.{BuildShown, BuiltPages, StoppedBy, PagesTooLarge, EntryShown, InOutlet, InRow, IsContents, IsPage, OfBuild, PageMark, PageShown, PartShown, RowShown, Shown, StoredAt, RemovedAt, Refuses, GroupedAs, StoppedAt, Lines, Names as NamesShown, Transcript, reply_shown, refusal_shown}
use Rattle.run_spec.specs.Cites.{CitePages, CitesPage, ShowsBuilt}
use Rattle.run_spec.specs.Faithful.{CitesEachRow, IsFaithful, IsOfSession, serials_cited}
use Rattle.run_spec.specs.HistoryTold.{Moment, cited_by, entry_told, history_told, moments_from, moments_of, serial_in, step_of}
use Rattle.run_spec.specs.Language.{dita}
use Rattle.run_spec.proofs.ShownLaws.{begun_built}
use Rattle.transcript_text.specs.Written.{is_begun}
use Rattle.run_spec.proofs.ToldLaws.{HasSession, behind}
use Rattle.faithful_laws.specs.OneHistory.{Steps}
use Rattle.faithful_laws.specs.PagesRead.{DifferInRows, PageRead, ReadsPages, RowSaid, clean_pages, page_given, page_lines, page_read, pages_given, pages_read, row_of_mark, row_said, said_at, with_row}
use Rattle.faithful_laws.proofs.ElementLaws.{first_of, behind_first, first_or_behind, flat_of_map, from_lists, in_lists, mapped, mapped_from, none_of}
use Rattle.faithful_laws.proofs.OrderLaws.{told_from}
use Rattle.faithful_laws.proofs.SameLaws.{AllShow, Builds, Replied, ShowsBoth, all_show, alone_is, builds_is, differ_in_serials}

-- Row lines

abbrev AreDifferent : List RowShown → Type 0
AreDifferent rows = AllPairs (λ (row other : RowShown). row.serial ≢ other.serial) rows

-- what is found behind a row line of another serial, or of this one
abbrev found_by : Bool → RowShown → Option RowSaid → Option RowSaid
found_by same row rest = if same then Some (row_said row) else rest

behind_other : (first : RowShown) (rows : List RowShown) (row : RowShown) → AreDifferent (first ∷ rows)
    → Contains rows row → first.serial ≢ row.serial
behind_other first rows row differ (k, within, is) =
    subst (λ (one : RowShown). first.serial ≢ one.serial) is (differ 0 (suc k) row (omega arith) (omega arith))

-- each row line is found by its serial
row_found : (rows : List RowShown) (row : RowShown) → AreDifferent rows → Contains rows row
    → said_at rows row.serial ≡ Some (row_said row)
row_found [] row differ is = absurd (none_of row is)
row_found (first ∷ rows) row differ is =
    ⊎_elim (λ same. ap (λ (b : Bool). found_by b first (said_at rows row.serial))
    (eq-eqb first.serial row.serial (ap (λ (one : RowShown). one.serial) same))
    ∙ ap (λ (one : RowShown). Some (row_said one)) same)
    (λ later. ap (λ (b : Bool). found_by b first (said_at rows row.serial))
    (ne_eqb first.serial row.serial (behind_other first rows row differ later))
    ∙ row_found rows row (λ i j d less within. differ (suc i) (suc j) d (omega arith) (omega arith)) later)
    (first_or_behind first rows row is)

-- what is found, a row line says
found_row : (rows : List RowShown) (serial : ℕ) (said : RowSaid) → said_at rows serial ≡ Some said
    → Contains (map row_said rows) said
found_row [] serial said is = absurd (none-some said is)
found_row (first ∷ rows) serial said is = by_test (found_row rows serial said) (first.serial == serial) is
  where
    by_test : (said_at rows serial ≡ Some said → Contains (map row_said rows) said) → (same : Bool)
        → found_by same first (said_at rows serial) ≡ Some said → Contains (map row_said (first ∷ rows)) said
    by_test later true here = subst (λ (one : RowSaid). Contains (map row_said (first ∷ rows)) one)
        (same_Some (row_said first) said here) (first_of (row_said first) (map row_said rows))
    by_test later false here = behind_first (row_said first) (map row_said rows) said (later here)

-- The pages of a build

page_found : (rows : List RowShown) (root : List ℕ) (val : Option (List ℕ)) (part : PartShown) (page : Page)
    (shown : PageShown) → AreDifferent rows → CitesPage rows root val part page shown
    → page_read rows shown ≡ Some (page_given root val part page)
page_found rows root val part page shown differ cites =
    let row : RowShown =
    record { serial = cites.serial; part = part; map = root; val = val; lines = cites.lines } in
    ap (λ (mark : PageMark). option_map (with_row shown.name) (row_of_mark rows mark)) cites.cited
    ∙ ap (option_map (with_row shown.name)) (row_found rows row differ cites.stands)
    ∙ λ i. Some (record {
      name = cites.named i;
      row = record { part = part; map = root; val = val; bytes = cites.bytes i };
    })

pages_found : (rows : List RowShown) (root : List ℕ) (val : Option (List ℕ)) (index : ℕ) (pages : List Page)
    (told : List PageShown) → AreDifferent rows → CitePages rows root val index pages told
    → map (page_read rows) told ≡ map Some (pages_given root val index pages)
pages_found rows root val index [] [] differ cites = refl
pages_found rows root val index [] (shown ∷ more) differ cites = absurd cites
pages_found rows root val index (page ∷ pages) [] differ cites = absurd cites
pages_found rows root val index (page ∷ []) (shown ∷ more) differ cites =
    let head = page_found rows root val IsContents page shown differ cites.0 in
    let tail : map (page_read rows) more ≡ [] = ap (map (page_read rows)) cites.1 in
    λ i. head i ∷ tail i
pages_found rows root val index (page ∷ following ∷ pages) (shown ∷ more) differ cites =
    let head = page_found rows root val (IsPage index) page shown differ cites.0 in
    let tail = pages_found rows root val (index + 1) (following ∷ pages) more differ cites.1 in
    λ i. head i ∷ tail i

-- the page lines of what is shown, with their row lines
abbrev read_of : List RowShown → Shown → List (Option PageRead)
read_of rows shown = map (page_read rows) (page_lines shown)

build_found : (rows : List RowShown) (root : List ℕ) (val : Option (List ℕ)) (built : BuildOutcome) (shown : Shown)
    → AreDifferent rows → ShowsBuilt rows root val built shown
    → read_of rows shown ≡ map Some (pages_given root val 0 (built_pages built))
build_found rows root val (Stopped stop) shown differ shows = ap (read_of rows) shows
build_found rows root val (TooLarge total) shown differ shows = ap (read_of rows) shows
build_found rows root val (Done pages faults) shown differ shows =
    ap (read_of rows) shows.1 ∙ pages_found rows root val 0 pages shows.0 differ shows.2

-- Other replies have no page lines

nothing_read : (rows : List RowShown) (answer : Reply) (shown : Shown) → reply_shown answer None ≡ Some shown
    → read_of rows shown ≡ []
nothing_read rows (IsStored version) shown is = ap (read_of rows) (sym (same_Some (StoredAt version) shown is))
nothing_read rows (IsRemoved version) shown is = ap (read_of rows) (sym (same_Some (RemovedAt version) shown is))
nothing_read rows (Bytes bytes) shown is = ap (read_of rows) (sym (same_Some _ shown is))
nothing_read rows (NameList names) shown is = ap (read_of rows) (sym (same_Some (NamesShown names) shown is))
nothing_read rows (IsRefused fault) shown is = ap (read_of rows) (sym (same_Some _ shown is))
nothing_read rows (Conflict version) shown is = ap (read_of rows) (sym (same_Some _ shown is))
nothing_read rows Absent shown is = ap (read_of rows) (sym (same_Some _ shown is))
nothing_read rows (TooManyNames limit) shown is = ap (read_of rows) (sym (same_Some _ shown is))
nothing_read rows Begun shown is = absurd (none-some shown is)
nothing_read rows (IsGrouped edits) shown is = ap (read_of rows) (sym (same_Some (GroupedAs edits) shown is))
nothing_read rows (IsStopped number refusal) shown is =
    ap (read_of rows) (sym (same_Some (StoppedAt number (refusal_shown refusal)) shown is))

no_build_read : (rows : List RowShown) (answer : Reply) (shown : Shown) → is_begun answer ≡ false
    → ((built : Option BuildShown) × (reply_shown answer built ≡ Some shown)) → read_of rows shown ≡ []
no_build_read rows answer shown none is =
    nothing_read rows answer shown (alone_is answer is.0 shown none is.1)

request_read : (rows : List RowShown) (state : State) (place : ℕ) (request : Request) (shown : Shown)
    → AreDifferent rows → Replied state place request shown → Builds dita rows state request shown
    → read_of rows shown ≡ map Some (clean_pages state request)
request_read rows state place (Single edit) shown differ replied builds =
    no_build_read rows (reply state place (Single edit)) shown (sym (begun_built state place (Single edit))) replied
request_read rows state place (Get name) shown differ replied builds =
    no_build_read rows (reply state place (Get name)) shown (sym (begun_built state place (Get name))) replied
request_read rows state place Names shown differ replied builds =
    no_build_read rows (reply state place Names) shown refl replied
request_read rows state place (Build root val) shown differ replied builds =
    build_found rows root val (dita.clean state root val) shown differ builds
request_read rows state place (Group edits) shown differ replied builds =
    no_build_read rows (reply state place (Group edits)) shown (sym (begun_built state place (Group edits))) replied

-- Entries

moment_read : (rows : List RowShown) (moment : Moment) → AreDifferent rows → ShowsBoth dita rows moment
    → ReadsPages rows moment
moment_read rows moment differ shows =
    request_read rows moment.state moment.place moment.step.request moment.entry.shown differ shows.0
    (builds_is dita rows moment moment.step.request shows.1)

moments_read : (rows : List RowShown) (moments : List Moment) → AreDifferent rows → AllShow dita rows moments
    → AllByRecursion (ReadsPages rows) moments
moments_read rows [] differ shows = tt
moments_read rows (moment ∷ moments) differ shows =
    (moment_read rows moment differ shows.0, moments_read rows moments differ shows.1)

pub reads_pages : (steps : Steps) (text : List ℕ) (is : IsFaithful dita steps text)
    → All (ReadsPages is.transcript.rows) (moments_of steps is.transcript.entries)
reads_pages steps text is =
    let moments : List Moment = moments_of steps is.transcript.entries in
    All-from_recursion (ReadsPages is.transcript.rows) moments
    (moments_read is.transcript.rows moments is.rows.different (all_show steps text is))

-- The history alone makes the pages

-- the pages of the clean builds of a history, from a state and a place on
abbrev pages_told : State → ℕ → List Entry → List (List (Option PageRead))
pages_told state place [] = []
pages_told state place (entry ∷ entries) =
    map Some (clean_pages state entry.request)
    ∷ pages_told (next state place entry.request) (place + 1) entries

abbrev ReadAsTold : List Step → List RowShown → List EntryShown → Type 0
ReadAsTold steps rows entries = (state : State) (place : ℕ) → AllShow dita rows (moments_from steps state place entries)
    → map (pages_read rows) entries ≡ pages_told state place (told_from steps state place entries)

read_behind : (steps : List Step) (rows : List RowShown) (state : State) (place : ℕ) (entry : EntryShown)
    (entries : List EntryShown) (found : Option Step) → AreDifferent rows → HasSession entry found
    → AllShow dita rows (behind steps state place entry entries found) → ReadAsTold steps rows entries
    → map (pages_read rows) (entry ∷ entries)
    ≡ pages_told state place (map entry_told (behind steps state place entry entries found))
read_behind steps rows state place entry entries None differ of shows rest = absurd (none-some entry.session of)
read_behind steps rows state place entry entries (Some step) differ of shows rest =
    let moment : Moment = record { place = place; state = state; step = step; entry = entry } in
    let head : ReadsPages rows moment = moment_read rows moment differ shows.0 in
    let tail = rest (next state place step.request) (place + 1) shows.1 in
    λ i. head i ∷ tail i

read_told : (steps : List Step) (rows : List RowShown) (entries : List EntryShown) → AreDifferent rows
    → All (IsOfSession steps) entries → ReadAsTold steps rows entries
read_told steps rows [] differ of state place shows = refl
read_told steps rows (entry ∷ entries) differ of state place shows =
    read_behind steps rows state place entry entries (step_of steps entry.number) differ
    (of 0 entry (omega arith)) shows
    (read_told steps rows entries differ (All-tail (IsOfSession steps) entry entries of))

all_read : (steps : Steps) (text : List ℕ) (is : IsFaithful dita steps text)
    → map (pages_read is.transcript.rows) is.transcript.entries
    ≡ pages_told [] 0 (history_told steps is.transcript.entries)
all_read steps text is = read_told steps is.transcript.rows is.transcript.entries is.rows.different
    is.requests.sessions [] 0 (all_show steps text is)

same_pages : (steps : Steps) (text other : List ℕ) (first : IsFaithful dita steps text)
    (second : IsFaithful dita steps other)
    → history_told steps first.transcript.entries ≡ history_told steps second.transcript.entries
    → map (pages_read first.transcript.rows) first.transcript.entries
    ≡ map (pages_read second.transcript.rows) second.transcript.entries
same_pages steps text other first second told =
    all_read steps text first ∙ ap (pages_told [] 0) told ∙ sym (all_read steps other second)

-- What row lines say

-- a page line of this serial
pub record HasPageLine (pages : List PageShown) (serial : ℕ) : Type 0 where
  pub page : PageShown
  pub among : Contains pages page
  pub cites : page.mark ≡ InRow serial

page_line_behind : (page : PageShown) (pages : List PageShown) (serial : ℕ) → HasPageLine pages serial
    → HasPageLine (page ∷ pages) serial
page_line_behind page pages serial found = record {
  page = found.page;
  among = behind_first page pages found.page found.among;
  cites = found.cites;
}

abbrev serials_of : List PageShown → List ℕ
serials_of pages = filter_map (λ (page : PageShown). serial_in page.mark) pages

in_pages : (pages : List PageShown) (serial : ℕ) → Contains (serials_of pages) serial → HasPageLine pages serial
in_pages [] serial is = absurd (none_of serial is)
in_pages (page ∷ pages) serial is =
    by_mark (λ there. page_line_behind page pages serial (in_pages pages serial there)) page.mark refl is
  where
    by_mark : (Contains (serials_of pages) serial → HasPageLine (page ∷ pages) serial) → (mark : PageMark)
        → page.mark ≡ mark → Contains (cons_option (serial_in mark) (serials_of pages)) serial
        → HasPageLine (page ∷ pages) serial
    by_mark later (InOutlet bytes) of there = later there
    by_mark later (InRow own) of there =
        ⊎_elim (λ same. record { page = page; among = first_of page pages; cites = of ∙ ap InRow same }) later
        (first_or_behind own (serials_of pages) serial there)

in_build : (built : BuildShown) (serial : ℕ) → Contains (cited_by (OfBuild built)) serial
    → HasPageLine (page_lines (OfBuild built)) serial
in_build (BuiltPages pages faults) serial is = in_pages pages serial is
in_build (StoppedBy stop) serial is = absurd (none_of serial is)
in_build (PagesTooLarge total) serial is = absurd (none_of serial is)

in_shown : (shown : Shown) (serial : ℕ) → Contains (cited_by shown) serial → HasPageLine (page_lines shown) serial
in_shown (StoredAt version) serial is = absurd (none_of serial is)
in_shown (RemovedAt version) serial is = absurd (none_of serial is)
in_shown (Refuses refusal) serial is = absurd (none_of serial is)
in_shown (GroupedAs edits) serial is = absurd (none_of serial is)
in_shown (StoppedAt number refusal) serial is = absurd (none_of serial is)
in_shown (Lines lines) serial is = absurd (none_of serial is)
in_shown (NamesShown names) serial is = absurd (none_of serial is)
in_shown (OfBuild built) serial is = in_build built serial is

-- a page that is read somewhere has this row line
abbrev IsSaidOf : List (Option PageRead) → RowSaid → Type 0
IsSaidOf pages said = (name : List ℕ) × Contains pages (Some (with_row name said))

-- each row line is read with a page
row_read : (transcript : Transcript) (row : RowShown) → CitesEachRow transcript → Contains transcript.rows row
    → IsSaidOf (flat_map (pages_read transcript.rows) transcript.entries) (row_said row)
row_read transcript row cites is =
    let cited : (one : RowShown) → Contains transcript.rows one
    → Contains (serials_cited transcript.entries) one.serial =
    λ one (k, within, same). subst (λ (r : RowShown). Contains (serials_cited transcript.entries) r.serial) same
    (cites.cited k one within) in
    let entry = from_lists (λ (entry : EntryShown). cited_by entry.shown) transcript.entries row.serial
    (cited row is) in
    let found = in_shown entry.one.shown row.serial entry.has in
    let read : page_read transcript.rows found.page ≡ Some (with_row found.page.name (row_said row)) =
    ap (λ (mark : PageMark). option_map (with_row found.page.name) (row_of_mark transcript.rows mark)) found.cites
    ∙ ap (option_map (with_row found.page.name)) (row_found transcript.rows row cites.different is) in (
      found.page.name,
      in_lists (pages_read transcript.rows) transcript.entries entry.one (Some (with_row found.page.name (row_said row)))
          entry.among
          (subst (λ (one : Option PageRead). Contains (pages_read transcript.rows entry.one) one) read
          (mapped (page_read transcript.rows) (page_lines entry.one.shown) found.page found.among)),
    )

-- what is read with a page, a row line says
said_by_mark : (rows : List RowShown) (name : List ℕ) (mark : PageMark) (named : List ℕ) (said : RowSaid)
    → option_map (with_row name) (row_of_mark rows mark) ≡ Some (with_row named said)
    → Contains (map row_said rows) said
said_by_mark rows name (InOutlet bytes) named said is = absurd (none-some (with_row named said) is)
said_by_mark rows name (InRow serial) named said is = by_found (said_at rows serial) refl is
  where
    by_found : (found : Option RowSaid) → said_at rows serial ≡ found
        → option_map (with_row name) found ≡ Some (with_row named said) → Contains (map row_said rows) said
    by_found None at there = absurd (none-some (with_row named said) there)
    by_found (Some row) at there =
        let same : row ≡ said = ap (λ (page : PageRead). page.row)
        (same_Some (with_row name row) (with_row named said) there) in
        found_row rows serial said (at ∙ ap Some same)

read_row : (rows : List RowShown) (entries : List EntryShown) (said : RowSaid)
    → IsSaidOf (flat_map (pages_read rows) entries) said → Contains (map row_said rows) said
read_row rows entries said (name, is) =
    let entry = from_lists (pages_read rows) entries (Some (with_row name said)) is in
    let page = mapped_from (page_read rows) (page_lines entry.one.shown) (Some (with_row name said)) entry.has in
    said_by_mark rows page.one.name page.one.mark name said page.is

rows_said : (one other : Transcript) → CitesEachRow one
    → map (pages_read one.rows) one.entries ≡ map (pages_read other.rows) other.entries → (said : RowSaid)
    → Contains (map row_said one.rows) said → Contains (map row_said other.rows) said
rows_said one other cites same said is =
    let row = mapped_from row_said one.rows said is in
    let flat : flat_map (pages_read one.rows) one.entries ≡ flat_map (pages_read other.rows) other.entries =
    flat_of_map (pages_read one.rows) one.entries
    ∙ ap (flat_map (λ (pages : List (Option PageRead)). pages)) same
    ∙ sym (flat_of_map (pages_read other.rows) other.entries) in
    read_row other.rows other.entries said
    (subst (λ (pages : List (Option PageRead)). IsSaidOf pages said) flat
    (subst (IsSaidOf (flat_map (pages_read one.rows) one.entries)) row.is (row_read one row.one cites row.among)))

-- Two transcripts

pub differ_in_rows : (steps : Steps) (text other : List ℕ) (first : IsFaithful dita steps text)
    (second : IsFaithful dita steps other)
    → history_told steps first.transcript.entries ≡ history_told steps second.transcript.entries
    → DifferInRows first.transcript second.transcript
differ_in_rows steps text other first second told =
    let pages = same_pages steps text other first second told in
    record {
      entries = differ_in_serials steps text other first second told;
      pages = pages;
      rows = λ said. (
        rows_said first.transcript second.transcript first.rows pages said,
        rows_said second.transcript first.transcript second.rows (sym pages) said,
      );
      count = first.counts.entries ∙ sym second.counts.entries;
    }
