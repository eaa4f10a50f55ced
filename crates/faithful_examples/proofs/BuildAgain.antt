-- A map that is built more than once, over a small language in place of the one that is published: a build gives one
-- short contents page, has two parts, and reaches its map alone. Which rows a later build may cite, and which counts
-- the end may have.
use Rattle.std.specs.Prelude.{◌≡◌, ◌≢◌, ◌<◌, ◌+◌, ℕ, zero, suc, Bool, true, false, List, [], ◌∷◌, None, Some, Contains, codes, if◌then◌else◌, sum, slice_get, slice_index, slice_index_or}
use Rattle.std.specs.List.{flat_map}
use Rattle.std.proofs.Common.{refl, ap, sym, subst, ◌∙◌, arith}
use Rattle.std.proofs.lemmas.Option.{none-some, same_Some}
use Rattle.build_spec.specs.Built.{Done, Page}
use Rattle.dita_doc.specs.Desk.{State, next}
use Rattle.dita_doc.specs.Lines.{line}
use Rattle.dita_doc.specs.Request.{Put, Request, Single, Build}
use Rattle.script_text.specs.Script.{Step}
use Rattle.transcript_text.specs.Transcript.{BuildShown, BuiltPages, StoppedBy, PagesTooLarge, EntryShown, InOutlet, InRow, IsContents, PageMark, PageShown, RowShown, Shown, StoredAt, RemovedAt, Refuses, GroupedAs, StoppedAt, Lines, Names, OfBuild, Totals, Transcript}
use Rattle.run_spec.specs.Cites.{CitePages, CitesPage, ShowsBuilt}
use Rattle.run_spec.specs.Faithful.{ChoosesRepeats, CitesAgain, CitesEachRow, CountsRight, Repeats, serials_cited}
use Rattle.run_spec.specs.HistoryTold.{BuildTold, builds_told}
use Rattle.desk_language.specs.Language.{Language}
use Rattle.faithful_examples.proofs.Shown.{lines, all_of, pairs_of}

abbrev small : Language
small = record {
  clean = λ state root val. Done ((codes "index.html", lines ("<p>" ∷ [])) ∷ []) [];
  page_count = λ state root val. Some 0;
  value_bytes = λ state key. 36;
  Reaches = λ state root val name. name ≡ root;
}

abbrev in_m : List ℕ
in_m = codes "m"

abbrev builds_m : ℕ → Step
builds_m session = record { session = session; request = Build in_m None }

-- an entry whose number is its place and 1, of a build that cites a row
abbrev cites : ℕ → ℕ → ℕ → EntryShown
cites session place serial = record {
  place = place;
  session = session;
  number = place + 1;
  shown = OfBuild (BuiltPages (record { name = codes "index.html"; mark = InRow serial } ∷ []) []);
}

abbrev row_of_serial : ℕ → RowShown
row_of_serial serial = record { serial = serial; part = IsContents; map = in_m; val = None; lines = codes "<p>" ∷ [] }

abbrev totals : ℕ → ℕ → ℕ → Totals
totals entries made dropped = record { entries = entries; made = made; dropped = dropped }

-- Two builds over the same sources

abbrev twice : List Step
twice = builds_m 1 ∷ builds_m 1 ∷ []

-- the first cites the row of serial 2, and the second the row of this serial
abbrev then_cites : ℕ → List EntryShown
then_cites serial = cites 1 0 2 ∷ cites 1 1 serial ∷ []

abbrev told : ℕ → List BuildTold
told serial = builds_told twice (then_cites serial)

-- the first is the first
none_before : (builds : List BuildTold) (at : ℕ) → Repeats small builds at 0 → ⊥
none_before builds at repeats = omega (arith, repeats.before)

session_one : (serial : ℕ) (place : ℕ) (other : BuildTold) → slice_get (told serial) place ≡ Some other
    → other.session ≡ 1
session_one serial zero other is = sym (ap (λ (build : BuildTold). build.session) (same_Some _ other is))
session_one serial (suc zero) other is = sym (ap (λ (build : BuildTold). build.session) (same_Some _ other is))
session_one serial (suc (suc place)) other is = absurd (none-some other is)

-- whatever it cites, the second build repeats the first
abbrev second_repeats : (serial : ℕ) → Repeats small (told serial) 0 1
second_repeats serial = record {
  first = record { session = 1; root = in_m; val = None; state = []; cited = 2 ∷ [] };
  second = record { session = 1; root = in_m; val = None; state = []; cited = serial ∷ [] };
  is_first = refl;
  is_second = refl;
  before = omega arith;
  key = record { root = refl; val = refl };
  session = refl;
  alone = λ place other is key. session_one serial place other is;
  next = λ between other above below is key. omega (arith, above, below);
  unchanged = λ name reached. refl;
}

cites_two : (build : BuildTold) (place : ℕ) → slice_get (told 2) place ≡ Some build → build.cited ≡ 2 ∷ []
cites_two build zero is = sym (ap (λ (one : BuildTold). one.cited) (same_Some _ build is))
cites_two build (suc zero) is = sym (ap (λ (one : BuildTold). one.cited) (same_Some _ build is))
cites_two build (suc (suc place)) is = absurd (none-some build is)

-- so it cites the same row again
again : CitesAgain small (totals 2 2 0) (told 2)
again none at later repeats =
    cites_two repeats.second later repeats.is_second ∙ sym (cites_two repeats.first at repeats.is_first)

-- and no row of its own: one part under two serials
not_another : CitesAgain small (totals 2 4 0) (told 3) → ⊥
not_another same = omega (arith, ap sum (same refl 0 1 (second_repeats 3)))

-- its rows and its counts are right: two parts were made, or one of them at least
abbrev transcript : ℕ → List RowShown → Totals → Transcript
transcript serial rows end = record { entries = then_cites serial; rows = rows; totals = end }

some_rows : CitesEachRow (transcript 2 (row_of_serial 2 ∷ []) (totals 2 2 0))
some_rows = record {
  different = pairs_of (λ (first other : RowShown). first.serial ≢ other.serial) (row_of_serial 2 ∷ []) (tt, tt);
  cited = all_of (λ (first : RowShown). Contains (serials_cited (then_cites 2)) first.serial) (row_of_serial 2 ∷ [])
      ((0, omega arith, refl), tt);
}

-- the first build is left out of no count
abbrev parts_if : Bool → ℕ
parts_if chosen = if chosen then 0 else 2

first_counts : (first : Bool) (chosen : ℕ → Bool) (builds : List BuildTold) → chosen 0 ≡ first → (first ≡ true → ⊥)
    → parts_if (chosen 0) ≡ 2
first_counts true chosen builds e none = absurd (none refl)
first_counts false chosen builds e none = ap parts_if e

counts_first : (end : Totals) (chosen : ℕ → Bool) → ChoosesRepeats small end (told 2) chosen → parts_if (chosen 0) ≡ 2
counts_first end chosen chooses = first_counts (chosen 0) chosen (told 2) refl (λ e.
    let repeats = (chooses 0 e).1 in none_before (told 2) repeats.0 repeats.1)

some_counts : CountsRight small twice (transcript 2 (row_of_serial 2 ∷ []) (totals 2 2 0)) (told 2)
some_counts = record {
  entries = refl;
  fewer = omega arith;
  fits = λ fit. refl;
  rows = omega arith;
  most = λ chosen chooses. omega (arith, counts_first (totals 2 2 0) chosen chooses);
}

-- fewer made than there are row lines
too_few : CountsRight small twice (transcript 2 (row_of_serial 2 ∷ []) (totals 2 0 0)) (told 2) → ⊥
too_few counts = omega (arith, counts.rows)

-- more made than the first build has parts: the second has none to make
abbrev second_alone : ℕ → Bool
second_alone zero = false
second_alone (suc zero) = true
second_alone (suc (suc at)) = false

choice : (serial : ℕ) (end : Totals) → end.dropped ≡ 0 → (later : ℕ) → second_alone later ≡ true
    → (end.dropped ≡ 0) × ((at : ℕ) × Repeats small (told serial) at later)
choice serial end none zero e = absurd (cc e)
choice serial end none (suc zero) e = (none, (0, second_repeats serial))
choice serial end none (suc (suc later)) e = absurd (cc e)

too_many : CountsRight small twice (transcript 2 (row_of_serial 2 ∷ []) (totals 2 3 0)) (told 2) → ⊥
too_many counts = omega (arith, counts.most second_alone (choice 2 (totals 2 3 0) refl))

-- an invented count of dropped rows: all parts fit the table
dropped : CountsRight small twice (transcript 3 (row_of_serial 2 ∷ row_of_serial 3 ∷ []) (totals 2 4 1)) (told 3) → ⊥
dropped counts = omega (arith, counts.fits (omega arith))

-- one request is not counted
uncounted : CountsRight small twice (transcript 2 (row_of_serial 2 ∷ []) (totals 1 2 0)) (told 2) → ⊥
uncounted counts = omega (arith, counts.entries)

-- one row line twice; and one that is cited by nobody
same_serial : CitesEachRow (transcript 2 (row_of_serial 2 ∷ row_of_serial 2 ∷ []) (totals 2 2 0)) → ⊥
same_serial rows = rows.different 0 1 (row_of_serial 2) (omega arith) (omega arith) refl

abbrev pub serials : List ℕ
serials = 2 ∷ 2 ∷ []

pub not_three : (place : ℕ) → place < 2 → ◌≡◌ {A = ℕ} (slice_index_or serials place 3) 3 → ⊥
not_three zero low e = omega (arith, e)
not_three (suc zero) low e = omega (arith, e)
not_three (suc (suc place)) low e = omega (arith, low)

uncited : CitesEachRow (transcript 2 (row_of_serial 2 ∷ row_of_serial 3 ∷ []) (totals 2 2 0)) → ⊥
uncited rows =
    let found = rows.cited 1 (row_of_serial 3) (omega arith) in not_three found.0 found.1 found.2

-- A build between that stores the map again: the third build of the map repeats the second, and not the first

abbrev put : Request
put = Single (Put in_m (lines ("(p" ∷ ")p" ∷ [])))

abbrev changed : List Step
changed = builds_m 1 ∷ record { session = 1; request = put } ∷ builds_m 1 ∷ builds_m 1 ∷ []

abbrev last_cites : ℕ → List EntryShown
last_cites serial = cites 1 0 2 ∷ record { place = 1; session = 1; number = 2; shown = StoredAt 2 } ∷ cites 1 2 4
    ∷ cites 1 3 serial ∷ []

abbrev all_told : ℕ → List BuildTold
all_told serial = builds_told changed (last_cites serial)

each_of_one : (serial : ℕ) (place : ℕ) (other : BuildTold) → slice_get (all_told serial) place ≡ Some other
    → other.session ≡ 1
each_of_one serial zero other is = sym (ap (λ (build : BuildTold). build.session) (same_Some _ other is))
each_of_one serial (suc zero) other is = sym (ap (λ (build : BuildTold). build.session) (same_Some _ other is))
each_of_one serial (suc (suc zero)) other is = sym (ap (λ (build : BuildTold). build.session) (same_Some _ other is))
each_of_one serial (suc (suc (suc place))) other is = absurd (none-some other is)

abbrev after : State
after = next [] 1 put

abbrev third_repeats : (serial : ℕ) → Repeats small (all_told serial) 1 2
third_repeats serial = record {
  first = record { session = 1; root = in_m; val = None; state = after; cited = 4 ∷ [] };
  second = record { session = 1; root = in_m; val = None; state = after; cited = serial ∷ [] };
  is_first = refl;
  is_second = refl;
  before = omega arith;
  key = record { root = refl; val = refl };
  session = refl;
  alone = λ place other is key. each_of_one serial place other is;
  next = λ between other above below is key. omega (arith, above, below);
  unchanged = λ name reached. refl;
}

-- so it may not go back to the row of the first
older_row : CitesAgain small (totals 4 4 0) (all_told 2) → ⊥
older_row same = omega (arith, ap sum (same refl 1 2 (third_repeats 2)))

-- The page of a build

-- the one row
only_row : (first other : RowShown) → Contains (first ∷ []) other → first ≡ other
only_row first other (zero, low, e) = e
only_row first other (suc place, low, e) = absurd (omega (arith, low))

abbrev shown : PageMark → List PageShown
shown mark = record { name = codes "index.html"; mark = mark } ∷ []

-- the pages of what is shown
abbrev pages_in_build : BuildShown → List PageShown
pages_in_build (BuiltPages pages faults) = pages
pages_in_build (StoppedBy stop) = []
pages_in_build (PagesTooLarge total) = []

abbrev pages_in : Shown → List PageShown
pages_in (StoredAt version) = []
pages_in (RemovedAt version) = []
pages_in (Refuses refusal) = []
pages_in (GroupedAs edits) = []
pages_in (StoppedAt number refusal) = []
pages_in (Lines lines) = []
pages_in (Names names) = []
pages_in (OfBuild built) = pages_in_build built

abbrev page : Page
page = (codes "index.html", lines ("<p>" ∷ []))

cites_told : (rows : List RowShown) (mark : PageMark)
    → ShowsBuilt rows in_m None (Done (page ∷ []) []) (OfBuild (BuiltPages (shown mark) []))
    → CitesPage rows in_m None IsContents page (record { name = codes "index.html"; mark = mark })
cites_told rows mark shows =
    (subst (λ told. CitePages rows in_m None 0 (page ∷ []) told) (sym (ap pages_in shows.1)) shows.2).0

-- its row has another byte
abbrev other_row : RowShown
other_row = record { serial = 2; part = IsContents; map = in_m; val = None; lines = codes "<q>" ∷ [] }

other_bytes : ShowsBuilt (other_row ∷ []) in_m None (Done (page ∷ []) []) (OfBuild (BuiltPages (shown (InRow 2)) []))
    → ⊥
other_bytes shows =
    let one = cites_told (other_row ∷ []) (InRow 2) shows in
    let same = ap (λ (it : RowShown). flat_map line it.lines) (only_row other_row _ one.stands) ∙ one.bytes in
    omega (arith, ap (λ bytes. slice_index bytes 1) same)

-- it tells how many bytes the page has, and no row
no_row : ShowsBuilt (row_of_serial 2 ∷ []) in_m None (Done (page ∷ []) []) (OfBuild (BuiltPages (shown (InOutlet 4)) [])) → ⊥
no_row shows = cc (cites_told (row_of_serial 2 ∷ []) (InOutlet 4) shows).cited
