-- The rows that are cited for the jobs of a build that is done: one for each part, in order.
use Rattle.std.proofs.Common.{◌≡◌, ◌+◌, ℕ, zero, suc, List, [], ◌∷◌, Option, Some, None, IfSome, IsSome, true≢false, drop, get_or, length, map, sum_by, refl, sym, ap, ◌∙◌, arith}
use Rattle.std.specs.List.{slice_get}
use Rattle.std.proofs.lemmas.List.Sums.{sum_by-cons}
use Rattle.std.proofs.lemmas.Option.{none-some, same_Some}
use Rattle.dita_doc.specs.declared.fact.FactKey.{FactKey}
use Rattle.facts.specs.Rows.{RowData, Stands, row_data}
use Rattle.desk_lock.specs.Lists.{Each}
use Rattle.desk_lock.specs.declared.view.View.{View}
use Rattle.desk_work.specs.Build.{NamesCited, outcome_seen}
use Rattle.desk_work.specs.Work.{Basis, Cites, IsCitedBy as IsCitedByJob, Job, cited_weight}
use Rattle.desk_work.specs.declared.built.Outcome.{Outcome}
use Rattle.desk_work.specs.declared.built.Outcome.TheVariants.{Done, Stopped, TooLarge}
use Rattle.desk_work.specs.declared.built.PageRow.{PageRow}
use Rattle.desk_top.specs.Again.{serials_in, serials_shown}
use Rattle.desk_top.specs.Given.{rows_of}
use Rattle.desk_top.specs.Made.{key_in}

abbrev put : Option RowData → List RowData → List RowData
put None rows = rows
put (Some row) rows = row ∷ rows

abbrev pub cited_for : List Job → List RowData
cited_for [] = []
cited_for (job ∷ jobs) = put job.row (cited_for jobs)

abbrev pub IsDoneJob : Job → Type 0
IsDoneJob job = IsSome job.row

-- What builds name

named_rows : (pages : List PageRow) (jobs : List Job)
    → map (λ (page : PageRow). Some (row_data page.row)) pages ≡ map (λ (job : Job). job.row) jobs
    → map (λ (page : PageRow). row_data page.row) pages ≡ cited_for jobs
named_rows [] [] same = refl
named_rows [] (job ∷ jobs) same = absurd (omega (arith, ap length same))
named_rows (page ∷ pages) [] same = absurd (omega (arith, ap length same))
named_rows (page ∷ pages) (job ∷ jobs) same =
    let row : Some (row_data page.row) ≡ job.row = ap (λ list. get_or list 0 None) same in
    let rest = named_rows pages jobs (ap (drop 1) same) in
    ap (λ rows. row_data page.row ∷ rows) rest ∙ ap (λ found. put found (cited_for jobs)) row

put_behind : (found : Option RowData) (rows : List RowData) → IsSome found → rows ≡ drop 1 (put found rows)
put_behind None rows some = absurd (true≢false (sym some))
put_behind (Some row) rows some = refl

behind_first : (jobs : List Job) → Each IsDoneJob jobs → cited_for (drop 1 jobs) ≡ drop 1 (cited_for jobs)
behind_first [] done = refl
behind_first (job ∷ jobs) done = put_behind job.row (cited_for jobs) done.0

pub shown_rows : (outcome : Outcome) (jobs : List Job) → NamesCited outcome jobs → Each IsDoneJob jobs
    → serials_in (rows_of outcome) ≡ serials_shown (outcome_seen outcome) (cited_for jobs)
shown_rows (Done pages faults) jobs named done =
    ap serials_in (named_rows pages (drop 1 jobs) named ∙ behind_first jobs done)
shown_rows (Stopped stop) jobs named done = refl
shown_rows (TooLarge total) jobs named done = refl

-- Rows of jobs

module _ (basis : Basis) (v w : View) (rows : List RowData) where
  abbrev pub IsCitedFor : Job → Type 0
  IsCitedFor job = IfSome job.row (Cites basis v w job.key rows)

  keys_by : (part : FactKey) (found : Option RowData) (rest : List RowData) (keys : List FactKey) → IsSome found
      → IfSome found (Cites basis v w part rows) → map key_in rest ≡ keys → map key_in (put found rest) ≡ part ∷ keys
  keys_by part None rest keys some cites same = absurd (true≢false (sym some))
  keys_by part (Some row) rest keys some cites same =
      let here = cites.right.key in λ i. here i ∷ same i

  pub keys_cited : (jobs : List Job) → Each IsDoneJob jobs → Each IsCitedFor jobs
      → map key_in (cited_for jobs) ≡ map (λ (job : Job). job.key) jobs
  keys_cited [] done cites = refl
  keys_cited (job ∷ jobs) done cites =
      keys_by job.key job.row (cited_for jobs) (map (λ (j : Job). j.key) jobs) done.0 cites.0
      (keys_cited jobs done.1 cites.1)

  each_by : (P : RowData → Type 0) (part : FactKey) (found : Option RowData) (rest : List RowData)
      → ((row : RowData) → Cites basis v w part rows row → P row) → IfSome found (Cites basis v w part rows) → Each P rest
      → Each P (put found rest)
  each_by P part None rest onward cites each = each
  each_by P part (Some row) rest onward cites each = (onward row cites, each)

  pub each_cited : (P : RowData → Type 0) → ((part : FactKey) (row : RowData) → Cites basis v w part rows row → P row)
      → (jobs : List Job) → Each IsCitedFor jobs → Each P (cited_for jobs)
  each_cited P onward [] cites = tt
  each_cited P onward (job ∷ jobs) cites = each_by P job.key job.row (cited_for jobs) (onward job.key) cites.0
      (each_cited P onward jobs cites.1)

weigh_by : (weight : RowData → ℕ) (found : Option RowData) (rest : List RowData)
    → sum_by weight (put found rest) ≡ cited_weight weight found + sum_by weight rest
weigh_by weight None rest = omega arith
weigh_by weight (Some row) rest = sum_by-cons weight row rest

pub cited_weigh : (weight : RowData → ℕ) (jobs : List Job)
    → sum_by weight (cited_for jobs) ≡ sum_by (λ (job : Job). cited_weight weight job.row) jobs
cited_weigh weight [] = refl
cited_weigh weight (job ∷ jobs) = omega (
  arith,
  weigh_by weight job.row (cited_for jobs),
  cited_weigh weight jobs,
  sum_by-cons (λ (j : Job). cited_weight weight j.row) job jobs,
)

put_first : (found : Option RowData) (rest : List RowData) (row : RowData) → found ≡ Some row → Stands (put found rest) row
put_first None rest row is = absurd (none-some row is)
put_first (Some other) rest row is = (0, is)

put_later : (found : Option RowData) (rest : List RowData) (row : RowData) → Stands rest row → Stands (put found rest) row
put_later None rest row stands = stands
put_later (Some other) rest row stands = (suc stands.0, stands.1)

cited_at : (jobs : List Job) (k : ℕ) (job : Job) (row : RowData) → slice_get jobs k ≡ Some job → job.row ≡ Some row
    → Stands (cited_for jobs) row
cited_at [] k job row at is = absurd (none-some job at)
cited_at (first ∷ jobs) zero job row at is =
    put_first first.row (cited_for jobs) row (ap (λ (j : Job). j.row) (same_Some first job at) ∙ is)
cited_at (first ∷ jobs) (suc k) job row at is =
    put_later first.row (cited_for jobs) row (cited_at jobs k job row at is)

pub cited_stands : (jobs : List Job) (row : RowData) → IsCitedByJob jobs row → Stands (cited_for jobs) row
cited_stands jobs row by = cited_at jobs by.1.0 by.0 row by.1.1 by.2
