-- What is shown of a build cites its rows: each page line cites the row of its page, and a row line has the page's bytes.
use Rattle.std.proofs.Common.{◌≡◌, ◌+◌, ℕ, zero, suc, List, [], ◌∷◌, Option, Some, None, IfSome, All, Contains, ap, ◌∙◌, drop, filter_map, map, option_map, refl, subst, sym}
use Rattle.std.specs.Arc.{arc_value}
use Rattle.std.specs.Option.{option_map_or}
use Rattle.std.specs.declared.alloc.Global.{Global}
use Rattle.std.specs.declared.sync.Arc.{Arc}
use Rattle.std.proofs.lemmas.List.Elements.{All-head, All-tail}
use Rattle.std.proofs.lemmas.Option.{none-some, same_Some}
use Rattle.dita_doc.specs.Desk.{Reply, IsStored, IsRemoved, Bytes, NameList, IsRefused, Conflict, Absent, TooManyNames, Begun, IsGrouped, IsStopped}
use Rattle.dita_doc.specs.History.{Entry}
use Rattle.dita_doc.specs.Lines.{lines_of}
use Rattle.dita_doc.specs.declared.fact.FactKey.{FactKey}
use Rattle.dita_doc.specs.declared.fact.Html.{Html}
use Rattle.dita_doc.specs.declared.fact.Part.{Part}
use Rattle.dita_doc.specs.declared.fact.Part.TheVariants as parts
use Rattle.desk_language.specs.Language.{key_of, pages_from}
use Rattle.facts.specs.Rows.{row_data}
use Rattle.facts.specs.declared.row.Row.{Row}
use Rattle.row_text.specs.RowWritten.{HasPage, bytes_of, part_shown, with_part}
use Rattle.row_text.proofs.RowLaws.{lines_whole}
use Rattle.run_spec.specs.Cites.{CitePages, CitesPage, ShowsBuilt}
use Rattle.run_spec.specs.HistoryTold.{cited_by, serial_in}
use Rattle.transcript_text.specs.Transcript.{BuildShown, EntryShown, IsContents, IsPage, OfBuild, PageShown, PartShown, RowShown, Shown, entry_shown, entry_with, reply_shown}
use Rattle.transcript_text.specs.Written.{page_shown, text_shown}
use Rattle.desk_work.specs.Build.{html_in, outcome_seen, page_seen}
use Rattle.desk_work.specs.declared.built.Outcome.{Outcome}
use Rattle.desk_work.specs.declared.built.Outcome.TheVariants.{Done, Stopped, TooLarge}
use Rattle.desk_work.specs.declared.built.PageRow.{PageRow}
use Rattle.desk_top.specs.Cited.{page_marked, row_in, rows_in, text_of}
use Rattle.desk_top.specs.Given.{AreOfPages}
use Rattle.desk_top.specs.Served.{HasPages}
use Rattle.desk_top.specs.Told.{row_seen}
use Rattle.desk_top.proofs.ElementLaws.{behind_first, first_of, mapped, mapped_from, none_of, same_first}

-- The lines of a page

-- the lines of this row stand among row lines
abbrev pub HasLines : List RowShown → Row → Type 0
HasLines rows row = IfSome (row_seen row) (Contains rows)

abbrev pub HasItsPage : PageRow → Type 0
HasItsPage page = HasPage (row_data page.row).fact

abbrev key_in : PageRow → FactKey
key_in page = (row_data page.row).fact.key

pub bytes_same : (html : Option (Arc Html Global))
    → option_map_or (λ (one : Arc Html Global). (arc_value one).bytes) html [] ≡ html_in html
bytes_same None = refl
bytes_same (Some html) = refl

part_lines : (rows : List RowShown) (row : Row) (found : Option PartShown) (part : PartShown) → found ≡ Some part
    → IfSome (option_map (with_part (row_data row)) found) (Contains rows)
    → Contains rows (with_part (row_data row) part)
part_lines rows row found part same has =
    subst (λ (one : Option PartShown). IfSome (option_map (with_part (row_data row)) one) (Contains rows)) same has

page_cited : (rows : List RowShown) (root : List ℕ) (val : Option (List ℕ)) (part : Part) (shown : PartShown)
    (page : PageRow) → part_shown part ≡ Some shown → key_in page ≡ key_of root val part → HasItsPage page
    → HasLines rows page.row → CitesPage rows root val shown (page_seen page) (page_shown (page_marked page))
page_cited rows root val part shown page of key has lines =
    let fact = (row_data page.row).fact in
    let here = part_lines rows page.row (part_shown fact.key.part) shown
    (ap (λ (k : FactKey). part_shown k.part) key ∙ of) lines in
    record {
      named = refl;
      serial = page.row.serial;
      cited = refl;
      lines = lines_of (bytes_of fact);
      bytes = lines_whole (bytes_of fact) has.ended ∙ bytes_same fact.html;
      stands = subst (λ (k : FactKey). Contains rows (record {
        serial = page.row.serial;
        part = shown;
        map = k.map;
        val = k.val;
        lines = lines_of (bytes_of fact);
      })) key here;
    }

no_pages : (root : List ℕ) (val : Option (List ℕ)) (index count : ℕ) → [] ≡ pages_from root val index count → ⊥
no_pages root val index zero same = cc
no_pages root val index (suc count) same = cc

pages_cited : (rows : List RowShown) (root : List ℕ) (val : Option (List ℕ)) (pages : List PageRow) (index count : ℕ)
    → map key_in pages ≡ pages_from root val index count → All HasItsPage pages
    → ((row : Row) → Contains (map row_in pages) row → HasLines rows row)
    → CitePages rows root val index (map page_seen pages) (map page_shown (map page_marked pages))
pages_cited rows root val [] index count keys have lines = tt
pages_cited rows root val (page ∷ []) index zero keys have lines = (
  page_cited rows root val parts.Contents IsContents page refl (same_first (key_in page) _ [] [] keys)
      (All-head HasItsPage page [] have) (lines page.row (first_of page.row [])),
  refl,
)
pages_cited rows root val (page ∷ []) index (suc count) keys have lines =
    absurd (no_pages root val (index + 1) count (ap (drop 1) keys))
pages_cited rows root val (page ∷ next ∷ pages) index zero keys have lines =
    let rest : key_in next ∷ map key_in pages ≡ [] = ap (drop 1) keys in absurd cc
pages_cited rows root val (page ∷ next ∷ pages) index (suc count) keys have lines = (
  page_cited rows root val (parts.Page index) (IsPage index) page refl
      (same_first (key_in page) _ (map key_in (next ∷ pages)) (pages_from root val (index + 1) count) keys)
      (All-head HasItsPage page (next ∷ pages) have) (lines page.row (first_of page.row (map row_in (next ∷ pages)))),
  pages_cited rows root val (next ∷ pages) (index + 1) count (ap (drop 1) keys)
      (All-tail HasItsPage page (next ∷ pages) have)
      (λ row is. lines row (behind_first page.row (map row_in (next ∷ pages)) row is)),
)

-- Builds

-- what is shown of what a build gave
abbrev pub shown_of : Outcome → Shown
shown_of outcome = OfBuild (text_shown (text_of outcome))

pub outcome_shown : (rows : List RowShown) (root : List ℕ) (val : Option (List ℕ)) (outcome : Outcome)
    → AreOfPages root val outcome → HasPages outcome
    → ((row : Row) → Contains (rows_in outcome) row → HasLines rows row)
    → ShowsBuilt rows root val (outcome_seen outcome) (shown_of outcome)
outcome_shown rows root val (Done pages faults) of have lines = (
  map page_shown (map page_marked pages),
  refl,
  pages_cited rows root val pages 0 of.0 of.1 have lines,
)
outcome_shown rows root val (Stopped stop) of have lines = refl
outcome_shown rows root val (TooLarge total) of have lines = refl

abbrev serial_of : PageRow → ℕ
serial_of page = page.row.serial

pub pages_serials : (pages : List PageRow)
    → filter_map (λ (page : PageShown). serial_in page.mark) (map page_shown (map page_marked pages))
    ≡ map serial_of pages
pages_serials [] = refl
pages_serials (page ∷ pages) = ap (λ (rest : List ℕ). page.row.serial ∷ rest) (pages_serials pages)

pages_cite : (pages : List PageRow) (row : Row) → Contains (map row_in pages) row
    → Contains (map serial_of pages) row.serial
pages_cite pages row is =
    let found = mapped_from row_in pages row is in
    subst (λ (one : Row). Contains (map serial_of pages) one.serial) found.is
    (mapped serial_of pages found.one found.among)

-- the serial of each row that it cites is shown
pub serial_cited : (outcome : Outcome) (row : Row) → Contains (rows_in outcome) row
    → Contains (cited_by (shown_of outcome)) row.serial
serial_cited (Done pages faults) row is =
    subst (λ (all : List ℕ). Contains all row.serial) (sym (pages_serials pages)) (pages_cite pages row is)
serial_cited (Stopped stop) row is = absurd (none_of row is)
serial_cited (TooLarge total) row is = absurd (none_of row is)

-- Entries

-- where something is shown of a build, it is what the build gave
begun_shown : (reply : Reply) (built : BuildShown) (shown : Shown) → reply_shown reply (Some built) ≡ Some shown
    → shown ≡ OfBuild built
begun_shown (IsStored version) built shown is = absurd (none-some shown is)
begun_shown (IsRemoved version) built shown is = absurd (none-some shown is)
begun_shown (Bytes bytes) built shown is = absurd (none-some shown is)
begun_shown (NameList names) built shown is = absurd (none-some shown is)
begun_shown (IsRefused fault) built shown is = absurd (none-some shown is)
begun_shown (Conflict version) built shown is = absurd (none-some shown is)
begun_shown Absent built shown is = absurd (none-some shown is)
begun_shown (TooManyNames limit) built shown is = absurd (none-some shown is)
begun_shown Begun built shown is = sym (same_Some (OfBuild built) shown is)
begun_shown (IsGrouped edits) built shown is = absurd (none-some shown is)
begun_shown (IsStopped number refusal) built shown is = absurd (none-some shown is)

entry_by : (place : ℕ) (entry : Entry) (built : BuildShown) (told : EntryShown) (found : Option Shown)
    → reply_shown entry.reply (Some built) ≡ found → option_map (entry_with place entry) found ≡ Some told
    → told.shown ≡ OfBuild built
entry_by place entry built told None of is = absurd (none-some told is)
entry_by place entry built told (Some shown) of is =
    ap (λ (one : EntryShown). one.shown) (sym (same_Some (entry_with place entry shown) told is))
    ∙ begun_shown entry.reply built shown of

pub build_told : (place : ℕ) (entry : Entry) (built : BuildShown) (told : EntryShown)
    → entry_shown place entry (Some built) ≡ Some told → told.shown ≡ OfBuild built
build_told place entry built told is = entry_by place entry built told (reply_shown entry.reply (Some built)) refl is
