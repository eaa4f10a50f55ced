-- What is built, by the row of the plan and the rows of the other parts, and how far the workers came if memory ran out.
use Rattle.std.proofs.Common.{◌≡◌, ℕ, zero, suc, ◌+◌, List, [], ◌∷◌, Option, Some, None, Result, Ok, Err, IfOk, IfSome, OnErr, refl, sym, ap, ap₂, ◌∙◌, subst, arith, length, map}
use Rattle.std.specs.Arc.{arc_value}
use Rattle.std.proofs.lemmas.Simd.{map-map}
use Rattle.dita_doc.specs.Desk.{State}
use Rattle.dita_doc.specs.declared.fact.FactKey.{FactKey}
use Rattle.dita_doc.specs.declared.fact.Part.{Part}
use Rattle.dita_doc.specs.declared.fact.Part.TheVariants as parts
use Rattle.dita_doc.specs.declared.plan.Plan.{Plan}
use Rattle.dita_doc.specs.declared.plan.PlanStop.{PlanStop}
use Rattle.dita_doc.specs.declared.stop.NoMemory.{NoMemory}
use Rattle.facts.specs.Rows.{RowData, Stands, plan_in, row_data}
use Rattle.facts.specs.declared.fact.Fact.{Fact}
use Rattle.facts.specs.declared.row.Row.{Row}
use Rattle.desk_core.specs.Steps.{IsSnapshotOf}
use Rattle.desk_lock.specs.Lists.{Each, StartsWith}
use Rattle.desk_lock.specs.Meaning.{IsRightRow}
use Rattle.desk_lock.specs.Tokens.{IsPassOf, pass_view}
use Rattle.desk_lock.specs.declared.desk.Desk.{Desk}
use Rattle.desk_lock.specs.declared.desk.Pass.{Pass}
use Rattle.desk_lock.specs.declared.view.View.{View}
use Rattle.desk_language.specs.Language.{key_of, pages_from, parts_of, parts_with}
use Rattle.desk_work.specs.Attempts.{IsDone, keys_of}
use Rattle.desk_work.specs.Build.{NamesCited, outcome_seen}
use Rattle.desk_work.specs.Cited.{NamesRows, facts_of, rows_seen}
use Rattle.desk_work.specs.Outcome.{ArePartsOfPlan, IsRight, IsRightPlan, PartsTell, PlanTells, outcome_of}
use Rattle.desk_work.specs.Rounds.{Builds, ComesSoFar, GetsRows, HasPlan, KeepsPlan, PutsTogether, TriesParts, parts_behind}
use Rattle.desk_work.specs.Makers.{HasPart}
use Rattle.desk_work.specs.Sites.{IsPartOf}
use Rattle.desk_work.specs.Teams.{MayHire}
use Rattle.desk_work.specs.Work.{Basis, Cites, Job, Progress}
use Rattle.desk_work.specs.declared.built.Outcome.{Outcome}
use Rattle.desk_work.specs.declared.built.Outcome.TheVariants.{Done, Stopped, TooLarge}
use Rattle.desk_work.specs.declared.built.PageRow.{PageRow}
use Rattle.desk_work.proofs.Lists.{starts_equal, starts_then}
use Rattle.desk_work.proofs.ProgressLaws.{progress_start}
use Rattle.desk_work.proofs.RoundLaws.{length_pages}
use Rattle.desk_work.proofs.StepLaws.{snapshot_stays}

-- Keys

-- the root is the key of a plan
root_is : (root : FactKey) → root.part ≡ parts.Plan → key_of root.map root.val parts.Plan ≡ root
root_is root planned = ap (λ (part : Part). record root { part = part }) (sym planned)

plan_first : (root : List ℕ) (val : Option (List ℕ)) (pages : Option ℕ)
    → StartsWith (parts_with root val pages) (key_of root val parts.Plan ∷ [])
plan_first root val None = ([], refl)
plan_first root val (Some pages) = (pages_from root val 0 pages, refl)

-- Rows that are cited

-- these rows are of these parts, right and known
pub record AreRightRows (basis : Basis) (w : View) (keys : List FactKey) (rows : List RowData) : Type 0 where
  pub keys_are : map (λ (row : RowData). row.fact.key) rows ≡ keys
  pub right : Each (λ (row : RowData). IsRight basis.means basis.snapshot.state row.fact) rows
  pub stand : Each (Stands w.rows) rows

-- the row of the plan was got
pub record GotPlan (basis : Basis) (root : FactKey) (before after : View) (row : RowData) : Type 0 where
  pub progress : Progress basis before after (record { key = root; row = Some row } ∷ [])
  pub right : IsRightRow basis.means row root basis.snapshot.state
  pub stands : Stands after.rows row

module _ (basis : Basis) where
  pub rows_right : (v w : View) (published : List RowData) (jobs : List Job) (rows : List RowData)
      → map (λ (job : Job). job.row) jobs ≡ map (λ (row : RowData). Some row) rows
      → Each (λ (job : Job). IfSome job.row (Cites basis v w job.key published)) jobs
      → AreRightRows basis w (keys_of jobs) rows
  rows_right v w published [] [] are cited = record { keys_are = refl; right = tt; stand = tt }
  rows_right v w published [] (row ∷ rows) are cited = absurd cc
  rows_right v w published (job ∷ jobs) [] are cited = absurd cc
  rows_right v w published (job ∷ jobs) (row ∷ rows) are cited =
      let here : job.row ≡ Some row = cc in
      let rest : map (λ (one : Job). one.row) jobs ≡ map (λ (one : RowData). Some one) rows = cc in
      let cites : Cites basis v w job.key published row =
      subst (λ (one : Option RowData). IfSome one (Cites basis v w job.key published)) here cited.0 in
      let r = rows_right v w published jobs rows rest cited.1 in
      record {
        keys_are = ap (λ (key : FactKey). key ∷ map (λ (one : RowData). one.fact.key) rows) cites.right.key
            ∙ ap (λ (keys : List FactKey). job.key ∷ keys) r.keys_are;
        right = (record { sound = cites.right.sound; agrees = cites.right.agrees }, r.right);
        stand = (cites.stands, r.stand);
      }

  rows_done : (jobs : List Job) (rows : List RowData)
      → map (λ (job : Job). job.row) jobs ≡ map (λ (row : RowData). Some row) rows → Each IsDone jobs
  rows_done [] rows are = tt
  rows_done (job ∷ jobs) [] are = absurd cc
  rows_done (job ∷ jobs) (row ∷ rows) are =
      let here : Some row ≡ job.row = cc in
      let rest : map (λ (one : Job). one.row) jobs ≡ map (λ (one : RowData). Some one) rows = cc in
      (subst (λ (one : Option RowData). IsDone (record { key = job.key; row = one })) here refl, rows_done jobs rows rest)

  -- The plan

  single : (jobs : List Job) (root : FactKey) (row : RowData) → keys_of jobs ≡ root ∷ []
      → map (λ (job : Job). job.row) jobs ≡ Some row ∷ [] → jobs ≡ record { key = root; row = Some row } ∷ []
  single [] root row keys rows = absurd cc
  single (job ∷ []) root row keys rows =
      let key : job.key ≡ root = cc in let has : job.row ≡ Some row = cc in
      ap₂ (λ (k : FactKey) (r : Option RowData). record { key = k; row = r } ∷ []) key has
  single (job ∷ other ∷ jobs) root row keys rows = absurd cc

  pub got_plan : (u w : View) (root : FactKey) (row : RowData) → GetsRows basis u (root ∷ []) w (row ∷ [])
      → GotPlan basis root u w row
  got_plan u w root row gets =
      let progress : Progress basis u w (record { key = root; row = Some row } ∷ []) =
      subst (λ (jobs : List Job). Progress basis u w jobs) (single gets.jobs root row gets.keys_are gets.rows_are)
      (gets.goes_on u [] (progress_start basis u [] tt)) in
      record { progress = progress; right = progress.done.0.right; stands = progress.done.0.stands }

  -- with the plan's row the pass may hire the workers of the other parts
  pub may_hire_on : {B : Type 0} (desk : Desk B) (old new : Pass B) (root : FactKey) (row : RowData) → IsPassOf desk new
      → IsSnapshotOf (pass_view old).seen basis.snapshot → GotPlan basis root (pass_view old) (pass_view new) row
      → MayHire desk basis.snapshot (Some row) new
  may_hire_on desk old new root row of saw got = record {
    of = of;
    saw = snapshot_stays (pass_view new).seen (pass_view old).seen basis.snapshot got.progress.worked.seen saw;
    knows = got.stands;
  }

  -- What the language tells

  abbrev pub PlanLaw : Type 0
  PlanLaw = (state : State) (fact : Fact) → IsRightPlan basis.means state fact
      → PlanTells basis.language state fact.key (arc_value fact.plan).value

  abbrev pub PartsLaw : Type 0
  PartsLaw = (state : State) (fact : Fact) (plan : Plan) (facts : List Fact) → IsRightPlan basis.means state fact
      → (arc_value fact.plan).value ≡ Ok plan → ArePartsOfPlan basis.means state fact.key plan facts
      → PartsTell basis.language state fact.key plan facts

  right_plan : (root : FactKey) (row : RowData) → IsRightRow basis.means row root basis.snapshot.state
      → root.part ≡ parts.Plan → IsRightPlan basis.means basis.snapshot.state row.fact
  right_plan root row right planned = record {
    right = record { sound = right.sound; agrees = right.agrees };
    of = ap (λ (key : FactKey). key.part) right.key ∙ planned;
  }

  pub plan_told : PlanLaw → (root : FactKey) (row : RowData) (answer : Result Plan PlanStop)
      → IsRightRow basis.means row root basis.snapshot.state → root.part ≡ parts.Plan → (plan_in row).value ≡ answer
      → PlanTells basis.language basis.snapshot.state root answer
  plan_told law root row answer right planned is =
      subst (λ (one : Result Plan PlanStop). PlanTells basis.language basis.snapshot.state root one) is
      (subst (λ (key : FactKey). PlanTells basis.language basis.snapshot.state key (plan_in row).value) right.key
      (law basis.snapshot.state row.fact (right_plan root row right planned)))

  -- What is built

  pub builds_stopped : (u w : View) (root : FactKey) (row : RowData) (stop : PlanStop) → root.part ≡ parts.Plan
      → GotPlan basis root u w row → PlanTells basis.language basis.snapshot.state root (Err stop)
      → Builds basis root u w (Stopped stop)
  builds_stopped u w root row stop planned got told = record {
    jobs = record { key = root; row = Some row } ∷ [];
    progress = got.progress;
    all = ap (λ (key : FactKey). key ∷ []) (sym (root_is root planned))
        ∙ ap (λ (pages : Option ℕ). parts_with root.map root.val pages) (sym told.0);
    done = (refl, tt);
    outcome_is = sym told.1;
    cited = tt;
  }

  names_cited : (outcome : Outcome) (rows : List RowData) (jobs : List Job) (first : Job) → NamesRows outcome rows
      → map (λ (job : Job). job.row) jobs ≡ map (λ (row : RowData). Some row) rows → NamesCited outcome (first ∷ jobs)
  names_cited (Done pages faults) rows jobs first names are =
      sym (map-map (λ (row : RowData). Some row) (λ (page : PageRow). row_data page.row) pages)
      ∙ ap (λ (list : List RowData). map (λ (row : RowData). Some row) list) names ∙ sym are
  names_cited (Stopped stop) rows jobs first names are = tt
  names_cited (TooLarge total) rows jobs first names are = tt

  -- the parts of a build with a plan
  all_parts : (root : FactKey) (plan : Plan) (keys : List FactKey) → root.part ≡ parts.Plan
      → PlanTells basis.language basis.snapshot.state root (Ok plan) → keys ≡ parts_behind root plan
      → root ∷ keys ≡ parts_of basis.language basis.snapshot.state root.map root.val
  all_parts root plan keys planned told are =
      ap₂ (λ (key : FactKey) (rest : List FactKey). key ∷ rest) (sym (root_is root planned)) are
      ∙ ap (λ (pages : Option ℕ). parts_with root.map root.val pages) (sym told)

  -- the rows of the parts behind the plan, once the pass is on with them
  right_behind : (u v w : View) (root : FactKey) (row : RowData) (plan : Plan) (rows : List RowData)
      → GotPlan basis root u v row → (gets : GetsRows basis v (parts_behind root plan) w rows)
      → AreRightRows basis w (parts_behind root plan) rows
  right_behind u v w root row plan rows got gets =
      let progress : Progress basis u w (record { key = root; row = Some row } ∷ gets.jobs) =
      gets.goes_on u (record { key = root; row = Some row } ∷ []) got.progress in
      subst (λ (keys : List FactKey). AreRightRows basis w keys rows) gets.keys_are
      (rows_right u w progress.rows gets.jobs rows gets.rows_are progress.done.1)

  facts_right : (rows : List RowData)
      → Each (λ (row : RowData). IsRight basis.means basis.snapshot.state row.fact) rows
      → Each (IsRight basis.means basis.snapshot.state) (map (λ (row : RowData). row.fact) rows)
  facts_right [] right = tt
  facts_right (row ∷ rows) right = (right.0, facts_right rows right.1)

  are_parts : (w : View) (root : FactKey) (plan : Plan) (rows : List RowData)
      → AreRightRows basis w (parts_behind root plan) rows
      → ArePartsOfPlan basis.means basis.snapshot.state root plan (map (λ (row : RowData). row.fact) rows)
  are_parts w root plan rows right = record {
    keys = map-map (λ (fact : Fact). fact.key) (λ (row : RowData). row.fact) rows ∙ right.keys_are;
    right = facts_right rows right.right;
  }

  parts_told : PartsLaw → (root : FactKey) (row : RowData) (plan : Plan) (facts : List Fact)
      → IsRightRow basis.means row root basis.snapshot.state → root.part ≡ parts.Plan → (plan_in row).value ≡ Ok plan
      → ArePartsOfPlan basis.means basis.snapshot.state root plan facts
      → PartsTell basis.language basis.snapshot.state root plan facts
  parts_told law root row plan facts right planned is are =
      subst (λ (key : FactKey). PartsTell basis.language basis.snapshot.state key plan facts) right.key
      (law basis.snapshot.state row.fact plan facts (right_plan root row right planned) is
      (subst (λ (key : FactKey). ArePartsOfPlan basis.means basis.snapshot.state key plan facts) (sym right.key) are))

  pub builds_whole : PlanLaw → PartsLaw → (u v w : View) (root : FactKey) (row : RowData) (plan : Plan)
      (outcome : Outcome) → root.part ≡ parts.Plan → GotPlan basis root u v row → (plan_in row).value ≡ Ok plan
      → PutsTogether basis root plan v w outcome → Builds basis root u w outcome
  builds_whole plan_law parts_law u v w root row plan outcome planned got is together =
      let told = plan_told plan_law root row (Ok plan) got.right planned is in
      let right = right_behind u v w root row plan together.rows got together.gets in
      record {
        jobs = record { key = root; row = Some row } ∷ together.gets.jobs;
        progress = together.gets.goes_on u (record { key = root; row = Some row } ∷ []) got.progress;
        all = all_parts root plan (keys_of together.gets.jobs) planned told together.gets.keys_are;
        done = (refl, rows_done together.gets.jobs together.rows together.gets.rows_are);
        outcome_is = together.outcome_is
            ∙ sym (parts_told parts_law root row plan (map (λ (one : RowData). one.fact) together.rows) got.right planned
            is (are_parts w root plan together.rows right));
        cited = names_cited outcome together.rows together.gets.jobs (record { key = root; row = Some row })
            together.names together.gets.rows_are;
      }

  -- How far the workers came

  pub none_so_far : (u : View) (root : FactKey) → ComesSoFar basis root u u
  none_so_far u root = record {
    jobs = [];
    progress = progress_start basis u [] tt;
    keys = (parts_of basis.language basis.snapshot.state root.map root.val, refl);
  }

  pub plan_so_far : (u w : View) (root : FactKey) → root.part ≡ parts.Plan → TriesParts basis u (root ∷ []) w
      → ComesSoFar basis root u w
  plan_so_far u w root planned tries =
      let all = parts_of basis.language basis.snapshot.state root.map root.val in
      record {
        jobs = tries.jobs;
        progress = tries.goes_on u [] (progress_start basis u [] tt);
        keys = starts_then all (root ∷ []) (keys_of tries.jobs)
            (subst (λ (key : FactKey). StartsWith all (key ∷ [])) (root_is root planned)
            (plan_first root.map root.val (basis.language.page_count basis.snapshot.state root.map root.val)))
            tries.keys_are;
      }

  pub parts_so_far : (u v w : View) (root : FactKey) (row : RowData) (plan : Plan) → root.part ≡ parts.Plan
      → GotPlan basis root u v row → PlanTells basis.language basis.snapshot.state root (Ok plan)
      → TriesParts basis v (parts_behind root plan) w → ComesSoFar basis root u w
  parts_so_far u v w root row plan planned got told tries = record {
    jobs = record { key = root; row = Some row } ∷ tries.jobs;
    progress = tries.goes_on u (record { key = root; row = Some row } ∷ []) got.progress;
    keys = (
      tries.keys_are.0,
      sym (all_parts root plan (parts_behind root plan) planned told refl)
          ∙ ap (λ (keys : List FactKey). root ∷ keys) tries.keys_are.1,
    );
  }

-- The parts behind the plan

module _ (root : FactKey) (plan : Plan) where
  part_is : (row : RowData) (part : Part) → KeepsPlan root plan row → HasPart (Ok plan) part
      → IsPartOf root (Some row) (key_of root.map root.val part)
  part_is row part keeps has = record {
    build_is = refl;
    by = (
      sym (ap (λ (key : FactKey). record key { part = part }) keeps.of),
      subst (λ (value : Result Plan PlanStop). HasPart value part) (sym keeps.value) has,
    );
  }

  pages_are_of : (row : RowData) → KeepsPlan root plan row → (index more : ℕ) → index + more ≡ length plan.pages
      → Each (IsPartOf root (Some row)) (pages_from root.map root.val index more)
  pages_are_of row keeps index zero all = (part_is row parts.Contents keeps tt, tt)
  pages_are_of row keeps index (suc more) all = (
    part_is row (parts.Page index) keeps (omega arith),
    pages_are_of row keeps (index + 1) more (omega arith),
  )

  -- the plan of this row makes them
  pub parts_are_of : (row : Option RowData) → HasPlan root plan row → Each (IsPartOf root row) (parts_behind root plan)
  parts_are_of None has = absurd has
  parts_are_of (Some row) has = pages_are_of row has 0 (length plan.pages) (omega arith)

-- What comes of the rows

same_length : (jobs : List Job) (rows : List Row)
    → map (λ (job : Job). job.row) jobs ≡ map (λ (row : RowData). Some row) (rows_seen rows)
    → length rows ≡ length (keys_of jobs)
same_length [] [] are = refl
same_length [] (row ∷ rows) are = absurd cc
same_length (job ∷ jobs) [] are = absurd cc
same_length (job ∷ jobs) (row ∷ rows) are =
    let rest : map (λ (one : Job). one.row) jobs ≡ map (λ (one : RowData). Some one) (rows_seen rows) = cc in
    let r = same_length jobs rows rest in omega arith

pub behind_count : (root : FactKey) (plan : Plan) (keys : List FactKey) → keys ≡ parts_behind root plan
    → length keys ≡ length plan.pages + 1
behind_count root plan keys are =
    ap (λ (list : List FactKey). length list) are ∙ length_pages root.map root.val 0 (length plan.pages)

module _ (basis : Basis) (before after : View) where
  pub gets_tries : (keys : List FactKey) (rows : List RowData) → GetsRows basis before keys after rows
      → TriesParts basis before keys after
  gets_tries keys rows gets = record {
    jobs = gets.jobs;
    keys_are = starts_equal keys (keys_of gets.jobs) (sym gets.keys_are);
    goes_on = gets.goes_on;
  }

  pub gets_count : (root : FactKey) (plan : Plan) (rows : List Row)
      → GetsRows basis before (parts_behind root plan) after (rows_seen rows) → length rows ≡ length plan.pages + 1
  gets_count root plan rows gets =
      same_length gets.jobs rows gets.rows_are ∙ behind_count root plan (keys_of gets.jobs) gets.keys_are

  pub puts_together : (root : FactKey) (plan : Plan) (rows : List Row) (result : Result Outcome NoMemory)
      → GetsRows basis before (parts_behind root plan) after (rows_seen rows)
      → IfOk result (λ (outcome : Outcome). outcome_seen outcome ≡ outcome_of plan (facts_of rows))
      → IfOk result (λ (outcome : Outcome). NamesRows outcome (rows_seen rows))
      → IfOk result (PutsTogether basis root plan before after)
  puts_together root plan rows (Ok outcome) gets is names = record {
    rows = rows_seen rows;
    gets = gets;
    outcome_is = is ∙ ap (λ (facts : List Fact). outcome_of plan facts)
        (sym (map-map (λ (row : RowData). row.fact) row_data rows));
    names = names;
  }
  puts_together root plan rows (Err stop) gets is names = is

-- By the answer

pub err_onward : {A E P Q : Type 0} (result : Result A E) → (P → Q) → OnErr result P → OnErr result Q
err_onward (Ok answer) onward holds = tt
err_onward (Err stop) onward holds = onward holds

module _ (basis : Basis) (u v w : View) (root : FactKey) (row : RowData) (plan : Plan) where
  pub builds_if : (result : Result Outcome NoMemory) → PlanLaw basis → PartsLaw basis → root.part ≡ parts.Plan
      → GotPlan basis root u v row → (plan_in row).value ≡ Ok plan
      → IfOk result (PutsTogether basis root plan v w) → IfOk result (Builds basis root u w)
  builds_if (Ok outcome) plan_law parts_law planned got is together =
      builds_whole basis plan_law parts_law u v w root row plan outcome planned got is together
  builds_if (Err stop) plan_law parts_law planned got is together = together

  pub so_far_if : (result : Result Outcome NoMemory) → PlanLaw basis → root.part ≡ parts.Plan
      → GotPlan basis root u v row → (plan_in row).value ≡ Ok plan
      → OnErr result (TriesParts basis v (parts_behind root plan) w) → OnErr result (ComesSoFar basis root u w)
  so_far_if result plan_law planned got is tries = err_onward result
      (parts_so_far basis u v w root row plan planned got (plan_told basis plan_law root row (Ok plan) got.right planned is))
      tries
