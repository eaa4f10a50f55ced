-- What a build gives, row by row: how large it is, its faults, and its pages.
use Rattle.std.specs.Prelude.{IfOk, nat_le, if◌then◌else◌}
use Rattle.std.proofs.Common.{◌≡◌, ℕ, ◌+◌, ◌<◌, ◌≤◌, Bool, true, List, [], ◌∷◌, ◌++◌, Some, Result, Ok, Err, refl, sym, ap, ◌∙◌, add-one, arith, append_assoc, get_or, length, map, take}
use Rattle.std.specs.List.{flat_map, slice_get}
use Rattle.std.proofs.lemmas.Bool.Decides.{nat_tests}
use Rattle.std.proofs.lemmas.Grind.{flat_map-append}
use Rattle.std.proofs.lemmas.List.{append-nil, length-append, length-map, map_push, take_more}
use Rattle.std.proofs.lemmas.List.Sums.{sum_by-append, sum_by-cons}
use Rattle.std.proofs.lemmas.Option.{get_or_from_slice_get, slice_get_within}
use Rattle.build_spec.specs.Built.{Done, TooLarge}
use Rattle.dita_doc.specs.declared.fault.Fault.{Fault}
use Rattle.dita_doc.specs.declared.plan.Plan.{Plan}
use Rattle.dita_doc.specs.declared.stop.NoMemory.{NoMemory}
use Rattle.facts.specs.Rows.{row_data}
use Rattle.facts.specs.declared.fact.Fact.{Fact}
use Rattle.facts.specs.declared.row.Row.{Row}
use Rattle.fault_report.specs.Report.{IsReport, report_of}
use Rattle.fault_report.proofs.ReportLaws.{report_is}
use Rattle.desk_work.specs.Build.{html_in, page_seen}
use Rattle.desk_work.specs.Cited.{facts_of, rows_seen}
use Rattle.desk_work.specs.Outcome.{html_faults, outcome_of, page_names, pages_with, report_of_all, total_limit, total_of}
use Rattle.desk_work.specs.declared.built.PageRow.{PageRow}

facts_more : (rows : List Row) (index : ℕ) (row : Row) → index < length rows → row ≡ get_or rows index row
    → facts_of (take (index + 1) rows) ≡ facts_of (take index rows) ++ (row_data row).fact ∷ []
facts_more rows index row within is = ap facts_of (take_more rows index row within
    ∙ ap (λ (one : Row). take index rows ++ one ∷ []) (sym is))
    ∙ map_push (λ (one : Row). (row_data one).fact) (take index rows) row

pub total_more : (rows : List Row) (index : ℕ) (row : Row) → index < length rows → row ≡ get_or rows index row
    → total_of (facts_of (take (index + 1) rows))
    ≡ total_of (facts_of (take index rows)) + length (html_in (row_data row).fact.html)
total_more rows index row within is =
    ap total_of (facts_more rows index row within is)
    ∙ (let old = facts_of (take index rows) in
    let bytes = λ (fact : Fact). length (html_in fact.html) in
    let both = sum_by-append bytes old ((row_data row).fact ∷ []) in
    let one = sum_by-cons bytes (row_data row).fact [] in omega arith)

abbrev pub faults_in : List Fact → List Fault
faults_in facts = flat_map (λ (fact : Fact). html_faults fact.html) facts

pub faults_more : (first : List Fault) (rows : List Row) (index : ℕ) (row : Row) → index < length rows
    → row ≡ get_or rows index row
    → first ++ faults_in (facts_of (take (index + 1) rows))
    ≡ (first ++ faults_in (facts_of (take index rows))) ++ html_faults (row_data row).fact.html
faults_more first rows index row within is =
    let old = facts_of (take index rows) in
    let new = html_faults (row_data row).fact.html in
    ap (λ (facts : List Fact). first ++ faults_in facts) (facts_more rows index row within is)
    ∙ ap (λ (faults : List Fault). first ++ faults)
    (flat_map-append (λ (fact : Fact). html_faults fact.html) old ((row_data row).fact ∷ [])
    ∙ ap (λ (faults : List Fault). faults_in old ++ faults) (append-nil new))
    ∙ sym (append_assoc first (faults_in old) new)

-- pages with their names and rows are those that the rows' facts give
pub pages_named : (pages : List PageRow)
    → map page_seen pages
    ≡ pages_with (map (λ (page : PageRow). page.name) pages) (facts_of (map (λ (page : PageRow). page.row) pages))
pages_named [] = refl
pages_named (page ∷ pages) = ap (λ list. page_seen page ∷ list) (pages_named pages)

seen_rows : (pages : List PageRow)
    → map (λ (page : PageRow). row_data page.row) pages ≡ rows_seen (map (λ (page : PageRow). page.row) pages)
seen_rows [] = refl
seen_rows (page ∷ pages) = ap (λ list. row_data page.row ∷ list) (seen_rows pages)

pub rows_named : (pages : List PageRow) (rows : List Row) → map (λ (page : PageRow). page.row) pages ≡ rows
    → map (λ (page : PageRow). row_data page.row) pages ≡ rows_seen rows
rows_named pages rows is = seen_rows pages ∙ ap rows_seen is

-- one more page, of the next row
pub names_more : (plan : Plan) (pages more : List PageRow) (index : ℕ) (page : PageRow) → more ≡ pages ++ page ∷ []
    → slice_get (page_names plan) index ≡ Some page.name
    → map (λ (one : PageRow). one.name) pages ≡ take index (page_names plan)
    → map (λ (one : PageRow). one.name) more ≡ take (index + 1) (page_names plan)
names_more plan pages more index page pushed named before =
    ap (map (λ (one : PageRow). one.name)) pushed ∙ map_push (λ (one : PageRow). one.name) pages page
    ∙ ap (λ names. names ++ page.name ∷ []) before
    ∙ ap (λ (name : List ℕ). take index (page_names plan) ++ name ∷ [])
    (sym (get_or_from_slice_get (page_names plan) index page.name page.name named))
    ∙ sym (take_more (page_names plan) index page.name (slice_get_within (page_names plan) index page.name named))

pub rows_more : (pages more : List PageRow) (page : PageRow) (row : Row) (rows left all : List Row)
    → more ≡ pages ++ page ∷ [] → page.row ≡ row → rows ≡ row ∷ left
    → map (λ (one : PageRow). one.row) pages ++ rows ≡ all → map (λ (one : PageRow). one.row) more ++ left ≡ all
rows_more pages more page row rows left all pushed row_is first before =
    let done = map (λ (one : PageRow). one.row) pages in
    ap (λ (list : List PageRow). map (λ (one : PageRow). one.row) list ++ left) pushed
    ∙ ap (λ (list : List Row). list ++ left) (map_push (λ (one : PageRow). one.row) pages page)
    ∙ append_assoc done (page.row ∷ []) left
    ∙ ap (λ (one : Row). done ++ one ∷ left) row_is ∙ ap (λ (list : List Row). done ++ list) (sym first) ∙ before

-- so many rows are left that each index has a name
pub index_named : (pages : List PageRow) (row : Row) (rows left all : List Row) (plan : Plan) → rows ≡ row ∷ left
    → map (λ (one : PageRow). one.row) pages ++ rows ≡ all → length all ≡ length plan.pages + 1
    → length pages ≤ length plan.pages
index_named pages row rows left all plan first before same =
    let done = map (λ (one : PageRow). one.row) pages in
    let whole = sym (length-append done rows) ∙ ap length before in
    let counted = length-map pages (λ (one : PageRow). one.row) in
    let next : length rows ≡ length left + 1 = ap length first ∙ sym (add-one (length left)) in omega arith

-- The outcome

pub reported : (faults all : List Fault) (result : Result (List Fault) NoMemory) → faults ≡ all
    → IfOk result (λ report. IsReport faults report) → IfOk result (λ report. report ≡ report_of all)
reported faults all (Ok report) same is = report_is faults report is ∙ ap report_of same
reported faults all (Err stop) same is = is

at_most : (a b limit : ℕ) → a ≡ b → a ≤ limit → nat_le b limit ≡ true
at_most a b limit same most = grind (arith, nat_tests)

pub done_seen : (plan : Plan) (pages : List PageRow) (faults : List Fault) (rows : List Row) (total : ℕ)
    → total ≡ total_of (facts_of rows) → total ≤ total_limit
    → map (λ (page : PageRow). page.name) pages ≡ page_names plan → map (λ (page : PageRow). page.row) pages ≡ rows
    → faults ≡ report_of_all plan (facts_of rows)
    → Done (map page_seen pages) faults ≡ outcome_of plan (facts_of rows)
done_seen plan pages faults rows total counted small names cited report =
    let facts = facts_of rows in
    let fits : nat_le (total_of facts) total_limit ≡ true = at_most total (total_of facts) total_limit counted small in
    ap (λ list. Done list faults) (pages_named pages
    ∙ ap (λ list. pages_with list (facts_of (map (λ (page : PageRow). page.row) pages))) names
    ∙ ap (λ (list : List Row). pages_with (page_names plan) (facts_of list)) cited)
    ∙ ap (λ (list : List Fault). Done (pages_with (page_names plan) facts) list) report
    ∙ sym (ap (λ (test : Bool). if test then Done (pages_with (page_names plan) facts) (report_of_all plan facts)
    else TooLarge (total_of facts)) fits)
