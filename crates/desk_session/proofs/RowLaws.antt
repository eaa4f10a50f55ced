-- What is shown of a build, and the rows whose texts follow it: there is one for each page, in order.
use Rattle.std.proofs.Common.{◌≡◌, ◌+◌, ◌∙◌, ℕ, zero, suc, true, List, [], ◌∷◌, Option, Some, None, IfSome, IsSome, All, ap, arith, drop, get_or, length, map, option_map, refl, subst, sym, true≢false}
use Rattle.std.specs.Arc.{arc_value}
use Rattle.std.specs.List.{flat_map, slice_get}
use Rattle.std.specs.Option.{option_map_or}
use Rattle.std.specs.declared.alloc.Global.{Global}
use Rattle.std.specs.declared.sync.Arc.{Arc}
use Rattle.std.proofs.lemmas.List.{drop-map}
use Rattle.std.proofs.lemmas.List.Elements.{All-cons, All-head, All-nil, All-tail}
use Rattle.std.proofs.lemmas.Option.{same_Some}
use Rattle.build_spec.specs.Built.{BuildOutcome, Page, built_pages}
use Rattle.dita_doc.specs.Lines.{ends_with_line, line, lines_of}
use Rattle.dita_doc.specs.declared.fact.FactKey.{FactKey}
use Rattle.dita_doc.specs.declared.fact.Html.{Html}
use Rattle.dita_doc.specs.declared.fact.Part.{Part}
use Rattle.dita_doc.specs.declared.fact.Part.TheVariants as parts
use Rattle.facts.specs.Rows.{RowData, Stands, row_data}
use Rattle.row_text.specs.RowWritten.{bytes_of, part_shown, row_shown, with_part}
use Rattle.row_text.proofs.RowLaws.{lines_whole}
use Rattle.transcript_text.specs.Transcript.{BuiltPages, IsContents, IsPage, OfBuild, PageShown, PartShown, fault_shown, row_text}
use Rattle.transcript_text.specs.Written.{page_shown, text_shown}
use Rattle.desk_language.specs.Language.{key_of, pages_from, parts_with}
use Rattle.desk_lock.specs.Lists.{Each}
use Rattle.desk_lock.specs.declared.view.View.{View}
use Rattle.desk_work.specs.Build.{NamesCited, html_in, outcome_seen, page_seen}
use Rattle.desk_work.specs.Work.{Basis, Cites, Job}
use Rattle.desk_work.specs.declared.built.Outcome.{Outcome}
use Rattle.desk_work.specs.declared.built.Outcome.TheVariants.{Done, Stopped, TooLarge}
use Rattle.desk_work.specs.declared.built.PageRow.{PageRow}
use Rattle.desk_session.specs.Answers.{KeepPages, KeepsPage, ShowsBuild, page_lines}
use Rattle.desk_session.specs.Asking.{HasHtml, HasItsPage, page_marked, pages_of, part_seen, row_message, row_seen, text_of}
use Rattle.desk_session.specs.Pass.{IsAmong, part_of}

-- One row

pub bytes_same : (html : Option (Arc Html Global))
    → option_map_or (λ (one : Arc Html Global). (arc_value one).bytes) html [] ≡ html_in html
bytes_same None = refl
bytes_same (Some html) = refl

abbrev pub IsShownPart : Part → Type 0
IsShownPart part = IsSome (part_shown part)

-- what is shown of a part that is shown
shown_is : (part : Part) → IsShownPart part → part_shown part ≡ Some (part_seen part)
shown_is parts.Plan some = absurd (true≢false (sym some))
shown_is (parts.Page index) some = refl
shown_is parts.Contents some = refl

part_again : (part : Part) → IsShownPart part → part ≡ part_of (part_seen part)
part_again parts.Plan some = absurd (true≢false (sym some))
part_again (parts.Page index) some = refl
part_again parts.Contents some = refl

-- the text that is written of it
pub message_is : (page : PageRow) (text : List ℕ) → HasItsPage page
    → IfSome (row_shown (row_data page.row)) (λ shown. text ≡ row_text shown) → text ≡ row_message page
message_is page text has written = subst
    (λ (part : Option PartShown). IfSome (option_map (with_part (row_data page.row)) part) (λ shown. text ≡ row_text shown))
    (shown_is (row_data page.row).fact.key.part has.part) written

-- Pages

abbrev pub EndsWithLine : Page → Type 0
EndsWithLine page = ends_with_line page.1 ≡ true

abbrev pub key_in : PageRow → FactKey
key_in page = (row_data page.row).fact.key

of_bytes : (page : PageRow) → bytes_of (row_data page.row).fact ≡ html_in (row_data page.row).fact.html
of_bytes page = bytes_same (row_data page.row).fact.html

pub first_key : {key other : FactKey} {keys others : List FactKey} → key ∷ keys ≡ other ∷ others → key ≡ other
first_key {key} {other} same = same_Some key other (ap (λ all. slice_get all 0) same)

pub no_pages : (root : List ℕ) (val : Option (List ℕ)) (index count : ℕ) → [] ≡ pages_from root val index count → ⊥
no_pages root val index zero same = cc
no_pages root val index (suc count) same = cc

from_none : (pages : List PageRow) → map key_in pages ≡ [] → All (λ (page : PageRow). IsShownPart (key_in page).part) pages
from_none [] none = All-nil (λ (page : PageRow). IsShownPart (key_in page).part)
from_none (page ∷ pages) none = absurd cc

page_kept : (root : List ℕ) (val : Option (List ℕ)) (part : Part) (shown : PartShown) (page : PageRow)
    → part_seen part ≡ shown → key_in page ≡ key_of root val part → EndsWithLine (page_seen page)
    → KeepsPage root val shown (page_seen page) (row_seen page)
page_kept root val part shown page of key ended =
    let bytes = of_bytes page in
    record {
      part_is = ap (λ (k : FactKey). part_seen k.part) key ∙ of;
      map_is = ap (λ (k : FactKey). k.map) key;
      val_is = ap (λ (k : FactKey). k.val) key;
      bytes = ap (λ list. flat_map line (lines_of list)) bytes ∙ lines_whole (html_in (row_data page.row).fact.html) ended;
      lines = ap lines_of bytes;
    }

pages_kept : (root : List ℕ) (val : Option (List ℕ)) (pages : List PageRow) (index count : ℕ)
    → map key_in pages ≡ pages_from root val index count → All EndsWithLine (map page_seen pages)
    → KeepPages root val index (map page_seen pages) (map row_seen pages)
pages_kept root val [] index count keys ended = tt
pages_kept root val (page ∷ []) index zero keys ended = (
  page_kept root val parts.Contents IsContents page refl (first_key keys) (All-head EndsWithLine (page_seen page) [] ended),
  refl,
)
pages_kept root val (page ∷ []) index (suc count) keys ended = absurd (no_pages root val (index + 1) count (ap (drop 1) keys))
pages_kept root val (page ∷ next ∷ pages) index zero keys ended =
    let rest : key_in next ∷ map key_in pages ≡ [] = ap (drop 1) keys in absurd cc
pages_kept root val (page ∷ next ∷ pages) index (suc count) keys ended = (
  page_kept root val (parts.Page index) (IsPage index) page refl (first_key keys)
      (All-head EndsWithLine (page_seen page) (map page_seen (next ∷ pages)) ended),
  pages_kept root val (next ∷ pages) (index + 1) count (ap (drop 1) keys)
      (All-tail EndsWithLine (page_seen page) (map page_seen (next ∷ pages)) ended),
)

lines_kept : (pages : List PageRow)
    → map page_shown (map page_marked pages) ≡ page_lines (map page_seen pages) (map row_seen pages)
lines_kept [] = refl
lines_kept (page ∷ pages) = ap (λ (rest : List PageShown). page_shown (page_marked page) ∷ rest) (lines_kept pages)

-- behind the plan of a build stand its pages and its contents page, or nothing
behind_plan : (root : List ℕ) (val : Option (List ℕ)) (found : Option ℕ) (pages : List PageRow)
    → map key_in pages ≡ drop 1 (parts_with root val found) → All EndsWithLine (map page_seen pages)
    → KeepPages root val 0 (map page_seen pages) (map row_seen pages)
behind_plan root val None [] keys ended = tt
behind_plan root val None (page ∷ pages) keys ended =
    let none : key_in page ∷ map key_in pages ≡ [] = keys in absurd cc
behind_plan root val (Some count) pages keys ended = pages_kept root val pages 0 count keys ended

from_pages : (root : List ℕ) (val : Option (List ℕ)) (index count : ℕ) (pages : List PageRow)
    → map key_in pages ≡ pages_from root val index count → All (λ (page : PageRow). IsShownPart (key_in page).part) pages
from_pages root val index count [] keys = All-nil (λ (page : PageRow). IsShownPart (key_in page).part)
from_pages root val index zero (page ∷ pages) keys = All-cons (λ (one : PageRow). IsShownPart (key_in one).part) page pages
    (subst (λ (k : FactKey). IsShownPart k.part) (sym (first_key keys)) refl)
    (from_none pages (ap (drop 1) keys))
from_pages root val index (suc count) (page ∷ pages) keys =
    All-cons (λ (one : PageRow). IsShownPart (key_in one).part) page pages
    (subst (λ (k : FactKey). IsShownPart k.part) (sym (first_key keys)) refl)
    (from_pages root val (index + 1) count pages (ap (drop 1) keys))

all_shown : (root : List ℕ) (val : Option (List ℕ)) (found : Option ℕ) (pages : List PageRow)
    → map key_in pages ≡ drop 1 (parts_with root val found) → All (λ (page : PageRow). IsShownPart (key_in page).part) pages
all_shown root val None pages keys = from_none pages keys
all_shown root val (Some count) pages keys = from_pages root val 0 count pages keys

-- What stands

some_of : (html : Option (Arc Html Global)) → IsSome html → (one : Arc Html Global) × (html ≡ Some one)
some_of None some = absurd (true≢false (sym some))
some_of (Some one) some = (one, refl)

row_among : (rows : List RowData) (page : PageRow) → Stands rows (row_data page.row) → HasItsPage page
    → IsAmong rows (row_seen page)
row_among rows page stands has =
    let fact = (row_data page.row).fact in
    let html = some_of fact.html has.made in
    let bytes : (arc_value html.0).bytes ≡ flat_map line (lines_of (bytes_of fact)) =
    ap (λ (one : Option (Arc Html Global)). option_map_or (λ (h : Arc Html Global). (arc_value h).bytes) one []) (sym html.1)
    ∙ sym (lines_whole (bytes_of fact) has.ended) in (
      row_data page.row,
      stands,
      record {
        serial = refl;
        key = λ i. record {
          map = fact.key.map;
          val = fact.key.val;
          part = part_again fact.key.part has.part i;
        };
        html = html.0;
        keeps = html.1;
        bytes = bytes;
      },
    )

rows_among : (rows : List RowData) (pages : List PageRow) → All (λ (page : PageRow). Stands rows (row_data page.row)) pages
    → All HasItsPage pages → All (IsAmong rows) (map row_seen pages)
rows_among rows [] stand have = All-nil (IsAmong rows)
rows_among rows (page ∷ pages) stand have = All-cons (IsAmong rows) (row_seen page) (map row_seen pages)
    (row_among rows page (All-head (λ (one : PageRow). Stands rows (row_data one.row)) page pages stand)
    (All-head HasItsPage page pages have))
    (rows_among rows pages (All-tail (λ (one : PageRow). Stands rows (row_data one.row)) page pages stand)
    (All-tail HasItsPage page pages have))

-- the rows have their pages: of a page or the contents page, with HTML, of which the last line is ended
all_have : (pages : List PageRow) → All (λ (page : PageRow). IsShownPart (key_in page).part) pages → All HasHtml pages
    → All EndsWithLine (map page_seen pages) → All HasItsPage pages
all_have [] shown html ended = All-nil HasItsPage
all_have (page ∷ pages) shown html ended = All-cons HasItsPage page pages
    (record {
      part = All-head (λ (one : PageRow). IsShownPart (key_in one).part) page pages shown;
      made = All-head HasHtml page pages html;
      ended = ap ends_with_line (of_bytes page) ∙ All-head EndsWithLine (page_seen page) (map page_seen pages) ended;
    })
    (all_have pages (All-tail (λ (one : PageRow). IsShownPart (key_in one).part) page pages shown)
    (All-tail HasHtml page pages html) (All-tail EndsWithLine (page_seen page) (map page_seen pages) ended))

-- What jobs cite

module _ (basis : Basis) (v w : View) (published : List RowData) where
  abbrev pub IsCited : Job → Type 0
  IsCited job = IfSome job.row (Cites basis v w job.key published)

  abbrev pub names : List PageRow → List (Option RowData)
  names pages = map (λ (page : PageRow). Some (row_data page.row)) pages

  abbrev pub cites_in : List Job → List (Option RowData)
  cites_in jobs = map (λ (job : Job). job.row) jobs

  pub first_cites : (page : PageRow) (pages : List PageRow) (job : Job) (jobs : List Job)
      → names (page ∷ pages) ≡ cites_in (job ∷ jobs) → IsCited job
      → Cites basis v w job.key published (row_data page.row)
  first_cites page pages job jobs same cited =
      subst (λ (row : Option RowData). IfSome row (Cites basis v w job.key published))
      (sym (ap (λ list. get_or list 0 None) same)) cited

  pub keys_named : (pages : List PageRow) (jobs : List Job) → names pages ≡ cites_in jobs → Each IsCited jobs
      → map key_in pages ≡ map (λ (job : Job). job.key) jobs
  keys_named [] [] same cited = refl
  keys_named [] (job ∷ jobs) same cited = absurd (omega (arith, ap length same))
  keys_named (page ∷ pages) [] same cited = absurd (omega (arith, ap length same))
  keys_named (page ∷ pages) (job ∷ jobs) same cited =
      let key = (first_cites page pages job jobs same cited.0).right.key in
      let rest = keys_named pages jobs (ap (drop 1) same) cited.1 in
      λ i. key i ∷ rest i

  pub rows_named : (pages : List PageRow) (jobs : List Job) → names pages ≡ cites_in jobs → Each IsCited jobs
      → All (λ (page : PageRow). Stands w.rows (row_data page.row)) pages
  rows_named [] jobs same cited = All-nil (λ (page : PageRow). Stands w.rows (row_data page.row))
  rows_named (page ∷ pages) [] same cited = absurd (omega (arith, ap length same))
  rows_named (page ∷ pages) (job ∷ jobs) same cited =
      All-cons (λ (one : PageRow). Stands w.rows (row_data one.row)) page pages
      (first_cites page pages job jobs same cited.0).stands (rows_named pages jobs (ap (drop 1) same) cited.1)

  pub cited_behind : (jobs : List Job) → Each IsCited jobs → Each IsCited (drop 1 jobs)
  cited_behind [] cited = tt
  cited_behind (job ∷ jobs) cited = cited.1

  -- the keys of the pages of a build, whose jobs are of its parts
  pages_keyed : (pages : List PageRow) (jobs : List Job) (root : List ℕ) (val : Option (List ℕ)) (found : Option ℕ)
      → names pages ≡ cites_in (drop 1 jobs) → Each IsCited jobs
      → map (λ (job : Job). job.key) jobs ≡ parts_with root val found
      → map key_in pages ≡ drop 1 (parts_with root val found)
  pages_keyed pages jobs root val found same cited all = keys_named pages (drop 1 jobs) same (cited_behind jobs cited)
      ∙ sym (drop-map (λ (job : Job). job.key) 1 jobs) ∙ ap (drop 1) all

  -- what is shown of a build shows what the clean build gives, by rows that are known
  pub build_shown : (outcome : Outcome) (jobs : List Job) (root : List ℕ) (val : Option (List ℕ)) (found : Option ℕ)
      (given : BuildOutcome) → outcome_seen outcome ≡ given → NamesCited outcome jobs → Each IsCited jobs
      → map (λ (job : Job). job.key) jobs ≡ parts_with root val found → All HasHtml (pages_of outcome)
      → All EndsWithLine (built_pages given)
      → ShowsBuild root val given (OfBuild (text_shown (text_of outcome))) (map row_seen (pages_of outcome))
      × All (IsAmong w.rows) (map row_seen (pages_of outcome)) × All HasItsPage (pages_of outcome)
  build_shown (Done pages faults) jobs root val found given is named cited all html ended =
      let keys = pages_keyed pages jobs root val found named cited all in
      let lines = subst (λ (one : BuildOutcome). All EndsWithLine (built_pages one)) (sym is) ended in
      let have = all_have pages (all_shown root val found pages keys) html lines in (
        subst (λ (one : BuildOutcome). ShowsBuild root val one (OfBuild (text_shown (text_of (Done pages faults))))
            (map row_seen pages)) is (
              behind_plan root val found pages keys lines,
              ap (λ (shown : List PageShown). OfBuild (BuiltPages shown (map fault_shown faults))) (lines_kept pages),
            ),
        rows_among w.rows pages (rows_named pages (drop 1 jobs) named (cited_behind jobs cited)) have,
        have,
      )
  build_shown (Stopped stop) jobs root val found given is named cited all html ended = (
    subst (λ (one : BuildOutcome). ShowsBuild root val one (OfBuild (text_shown (text_of (Stopped stop)))) []) is
        (refl, refl),
    All-nil (IsAmong w.rows),
    All-nil HasItsPage,
  )
  build_shown (TooLarge total) jobs root val found given is named cited all html ended = (
    subst (λ (one : BuildOutcome). ShowsBuild root val one (OfBuild (text_shown (text_of (TooLarge total)))) []) is
        (refl, refl),
    All-nil (IsAmong w.rows),
    All-nil HasItsPage,
  )
