-- What a build gives is what the clean build gives over what is stored at its place, by rows that its session knows; and
-- so it stays. Of all rows that are known at the end there is one of each serial.
use Rattle.std.proofs.Common.{◌≡◌, ◌≤◌, ◌++◌, ℕ, Bool, true, false, true≢false, List, [], ◌∷◌, Option, Some, None, Result, Ok, Err, IfSome, All, length, map, take, drop, get_or, refl, sym, ap, ◌∙◌, subst, arith, append-nil}
use Rattle.std.specs.List.{slice_get}
use Rattle.std.proofs.lemmas.List.{drop-map, take-append-le}
use Rattle.std.proofs.lemmas.List.Concat.{flat_map-append}
use Rattle.std.proofs.lemmas.List.Elements.{All-cons, All-nil, All-weaker}
use Rattle.std.proofs.lemmas.Option.{same_Some, slice_get_within}
use Rattle.build_spec.specs.Built.{BuildOutcome, Page}
use Rattle.build_spec.specs.Built as clean_spec
use Rattle.dita_doc.specs.Desk.{Begun, State}
use Rattle.dita_doc.specs.History.{Entry, replay, sources}
use Rattle.dita_doc.specs.Request.{Build}
use Rattle.dita_doc.specs.declared.plan.Plan.{Plan}
use Rattle.dita_doc.specs.declared.plan.PlanStop.{PlanStop}
use Rattle.dita_outside.specs.Pages.{Pages}
use Rattle.facts.specs.Rows.{RowData, Stands, row_data}
use Rattle.map_spec.specs.PlanOf.{limits, plan_of}
use Rattle.part_spec.specs.Parts.{build_by, clean_build, rooms, total_limit}
use Rattle.reader_spec.specs.World.{World, world_of}
use Rattle.run_spec.specs.Language.{dita}
use Rattle.run_spec.specs.ValueBytes.{pages_in}
use Rattle.desk_core.specs.Book.{BookData}
use Rattle.desk_language.specs.Language.{parts_with}
use Rattle.desk_lock.specs.Learns.{KnowsAll}
use Rattle.desk_lock.specs.Lists.{Each, StartsWith}
use Rattle.desk_lock.specs.Meaning.{Meaning}
use Rattle.desk_lock.specs.declared.view.View.{View}
use Rattle.desk_work.specs.Build.{BuildOrder, EndsBuilt, NamesCited, outcome_seen}
use Rattle.desk_work.specs.Work.{Basis, Cites, Job}
use Rattle.desk_work.specs.declared.built.Built.{Built}
use Rattle.desk_work.specs.declared.built.Outcome.{Outcome}
use Rattle.desk_work.specs.declared.built.Outcome.TheVariants.{Done, Stopped, TooLarge}
use Rattle.desk_work.specs.declared.built.PageRow.{PageRow}
use Rattle.desk_work.proofs.Lists.{each_at, stands_starts}
use Rattle.desk_top.specs.Given.{AreOfPages, HaveOneRow, IsGiven, rows_cited, rows_of}
use Rattle.desk_top.specs.declared.callers.BuiltAt.{BuiltAt}
use Rattle.desk_top.proofs.AskedLaws.{at_start}
use Rattle.desk_top.proofs.PlaceLaws.{all_at}

-- Longer histories

pub sources_later : (log first : List Entry) (place : ℕ) → StartsWith log first → place ≤ length first
    → sources log place ≡ sources first place
sources_later log first place starts within = ap (λ list. replay [] 0 (take place list)) starts.1
    ∙ ap (replay [] 0) (take-append-le place first starts.0 within)

pub given_later : (log first : List Entry) (built : BuiltAt) → StartsWith log first → IsGiven first built → IsGiven log built
given_later log first built starts given =
    let within = slice_get_within first built.place given.entry given.stands in
    record {
      entry = given.entry;
      stands = at_start log first built.place given.entry starts given.stands;
      root = given.root;
      val = given.val;
      is = given.is;
      outcome = given.outcome ∙ ap (λ state. dita.clean state given.root given.val)
          (sym (sources_later log first built.place starts (omega (arith, within))));
      rows = given.rows;
    }

pub all_given_later : (log first : List Entry) (built : List BuiltAt) → StartsWith log first → All (IsGiven first) built
    → All (IsGiven log) built
all_given_later log first built starts all = All-weaker (IsGiven first) (IsGiven log)
    (λ one given. given_later log first one starts given) built all

pub rows_later : (known first : List RowData) (rows : List RowData) → StartsWith known first → All (Stands first) rows
    → All (Stands known) rows
rows_later known first rows starts all = All-weaker (Stands first) (Stands known)
    (λ row stands. stands_starts known first row starts stands) rows all

-- A build that gives pages has a plan

abbrev is_done : BuildOutcome → Bool
is_done (clean_spec.Done pages faults) = true
is_done (clean_spec.Stopped stop) = false
is_done (clean_spec.TooLarge total) = false

by_plan : (world : World) (val : Option (List ℕ)) (found : Result Plan PlanStop)
    → is_done (build_by rooms total_limit world val found) ≡ true → (count : ℕ) × (pages_in found ≡ Some count)
by_plan world val (Ok plan) done = (length plan.pages, refl)
by_plan world val (Err stop) done = absurd (true≢false (sym done))

done_has_plan : (state : State) (root : List ℕ) (val : Option (List ℕ)) → is_done (dita.clean state root val) ≡ true
    → (count : ℕ) × (dita.page_count state root val ≡ Some count)
unfolding clean_build
done_has_plan state root val done = by_plan (world_of state) val (plan_of limits (world_of state) root val) done

-- The rows that are cited for the parts of a build

module _ (basis : Basis) (v w : View) (published : List RowData) where
  abbrev IsCited : Job → Type 0
  IsCited job = IfSome job.row (Cites basis v w job.key published)

  abbrev names : List PageRow → List (Option RowData)
  names pages = map (λ (page : PageRow). Some (row_data page.row)) pages

  abbrev cites_in : List Job → List (Option RowData)
  cites_in jobs = map (λ (job : Job). job.row) jobs

  first_cites : (page : PageRow) (pages : List PageRow) (job : Job) (jobs : List Job) → names (page ∷ pages) ≡ cites_in (job ∷ jobs)
      → IsCited job → Cites basis v w job.key published (row_data page.row)
  first_cites page pages job jobs same cited =
      subst (λ (row : Option RowData). IfSome row (Cites basis v w job.key published))
      (sym (ap (λ list. get_or list 0 None) same)) cited

  keys_named : (pages : List PageRow) (jobs : List Job) → names pages ≡ cites_in jobs → Each IsCited jobs
      → map (λ (page : PageRow). (row_data page.row).fact.key) pages ≡ map (λ (job : Job). job.key) jobs
  keys_named [] [] same cited = refl
  keys_named [] (job ∷ jobs) same cited = absurd (omega (arith, ap length same))
  keys_named (page ∷ pages) [] same cited = absurd (omega (arith, ap length same))
  keys_named (page ∷ pages) (job ∷ jobs) same cited =
      let key = (first_cites page pages job jobs same cited.0).right.key in
      let rest = keys_named pages jobs (ap (drop 1) same) cited.1 in
      λ i. key i ∷ rest i

  rows_named : (pages : List PageRow) (jobs : List Job) → names pages ≡ cites_in jobs → Each IsCited jobs
      → All (Stands w.rows) (map (λ (page : PageRow). row_data page.row) pages)
  rows_named [] jobs same cited = All-nil (Stands w.rows)
  rows_named (page ∷ pages) [] same cited = absurd (omega (arith, ap length same))
  rows_named (page ∷ pages) (job ∷ jobs) same cited = All-cons (Stands w.rows) (row_data page.row)
      (map (λ (one : PageRow). row_data one.row) pages) (first_cites page pages job jobs same cited.0).stands
      (rows_named pages jobs (ap (drop 1) same) cited.1)

  cited_behind : (jobs : List Job) → Each IsCited jobs → Each IsCited (drop 1 jobs)
  cited_behind [] cited = tt
  cited_behind (job ∷ jobs) cited = cited.1

  pages_of : (outcome : Outcome) (jobs : List Job) (root : List ℕ) (val : Option (List ℕ)) (found : Option ℕ)
      → NamesCited outcome jobs → Each IsCited jobs → map (λ (job : Job). job.key) jobs ≡ parts_with root val found
      → (is_done (outcome_seen outcome) ≡ true → (count : ℕ) × (found ≡ Some count)) → AreOfPages root val outcome
  pages_of (Done pages faults) jobs root val found cites cited all planned =
      let plan = planned refl in (
        plan.0,
        keys_named pages (drop 1 jobs) cites (cited_behind jobs cited)
            ∙ sym (drop-map (λ (job : Job). job.key) 1 jobs) ∙ ap (drop 1) all
            ∙ ap (λ count. drop 1 (parts_with root val count)) plan.1,
      )
  pages_of (Stopped stop) jobs root val found cites cited all planned = tt
  pages_of (TooLarge total) jobs root val found cites cited all planned = tt

  rows_stand : (outcome : Outcome) (jobs : List Job) → NamesCited outcome jobs → Each IsCited jobs
      → All (Stands w.rows) (rows_of outcome)
  rows_stand (Done pages faults) jobs cites cited =
      rows_named pages (drop 1 jobs) cites (cited_behind jobs cited)
  rows_stand (Stopped stop) jobs cites cited = All-nil (Stands w.rows)
  rows_stand (TooLarge total) jobs cites cited = All-nil (Stands w.rows)

-- A build

abbrev pub at_place : Built → BuiltAt
at_place built = record { place = built.place; outcome = built.outcome }

-- what is put down behind others
pub pushed_as : (built more : List BuiltAt) (one other : Built) → one ≡ other → more ≡ built ++ at_place other ∷ []
    → more ≡ built ++ at_place one ∷ []
pushed_as built more one other same pushed = pushed ∙ ap (λ (it : Built). built ++ at_place it ∷ []) (sym same)

pub build_given : (means : Meaning) (v : View) (order : BuildOrder) (built : Built) (w : View) (old new : Option Pages)
    → EndsBuilt means dita v order built w old new → IsGiven w.seen (at_place built)
build_given means v order built w old new ends =
    let begins = ends.stood.begun in
    let progress = ends.stood.progress in
    let between = ends.stood.between in
    let here : Entry =
    record { session = v.session; number = order.number; request = Build order.root order.val; reply = Begun } in
    let within = slice_get_within between.seen built.place here begins.appends.entry in
    record {
      entry = here;
      stands = at_start w.seen between.seen built.place here progress.worked.seen begins.appends.entry;
      root = order.root;
      val = order.val;
      is = refl;
      outcome = ends.outcome ∙ ap (λ state. dita.clean state order.root order.val)
          (begins.here ∙ sym (sources_later w.seen between.seen built.place progress.worked.seen (omega (arith, within))));
      rows = pages_of _ between w progress.rows built.outcome ends.jobs order.root order.val
          (dita.page_count ends.state order.root order.val) ends.cited progress.done ends.whole.all
          (λ done. done_has_plan ends.state order.root order.val (ap is_done (sym ends.outcome) ∙ done));
    }

pub build_cites : (means : Meaning) (v : View) (order : BuildOrder) (built : Built) (w : View) (old new : Option Pages)
    → EndsBuilt means dita v order built w old new → All (Stands w.rows) (rows_of built.outcome)
build_cites means v order built w old new ends =
    rows_stand _ ends.stood.between w ends.stood.progress.rows built.outcome ends.jobs ends.cited ends.stood.progress.done

-- What builds cite

pub cited_push : (built : List BuiltAt) (one : BuiltAt) → rows_cited (built ++ one ∷ []) ≡ rows_cited built ++ rows_of one.outcome
cited_push built one = flat_map-append (λ (other : BuiltAt). rows_of other.outcome) built (one ∷ [])
    ∙ ap (λ list. rows_cited built ++ list) (append-nil (rows_of one.outcome))

pub cited_both : (built more : List BuiltAt) → rows_cited (built ++ more) ≡ rows_cited built ++ rows_cited more
cited_both built more = flat_map-append (λ (other : BuiltAt). rows_of other.outcome) built more

pub one_row : (v : View) (book : BookData) (rows : List RowData) → KnowsAll v book → All (Stands v.rows) rows
    → HaveOneRow rows
one_row v book rows knows all row other first second same =
    let print : (one : RowData) → Stands rows one → Stands knows.prints one =
    λ one stands. (let known = all_stand one stands in each_at (Stands knows.prints) v.rows known.0 one knows.rows known.1) in
    let here = print row first in
    let there = print other second in
    let one_place = knows.left.once here.0 there.0 row other here.1 there.1 same in
    same_Some row other (sym here.1 ∙ ap (slice_get knows.prints) one_place ∙ there.1)
  where
    all_stand : (one : RowData) → Stands rows one → Stands v.rows one
    all_stand one stands = all_at (Stands v.rows) rows stands.0 one all stands.1
