-- Workers that were hired: what is so of them before they work, and what the pass did once all are joined.
use Rattle.std.proofs.Common.{◌≡◌, ℕ, ◌+◌, ◌-◌, ◌<◌, List, [], ◌∷◌, ◌++◌, Option, None, Result, Ok, Err, Bool, true, false, true≢false, refl, sym, ap, ◌∙◌, subst, get_or, length, map, arith}
use Rattle.std.specs.Prelude.{All, IfOk, OnErr}
use Rattle.std.specs.declared.alloc.Global.{Global}
use Rattle.std.specs.declared.vec.Vec.{Vec}
use Rattle.std.proofs.lemmas.List.{append-nil, length-map, length_push, map-append}
use Rattle.std.proofs.lemmas.List.Elements.{All-push}
use Rattle.desk_core.specs.Book.{SnapshotData}
use Rattle.desk_core.specs.declared.book.Book.{Book}
use Rattle.dita_doc.specs.declared.fact.FactKey.{FactKey}
use Rattle.dita_doc.specs.declared.stop.NoMemory.{NoMemory}
use Rattle.facts.specs.Rows.{RowData}
use Rattle.desk_lock.specs.Calls.{Joins}
use Rattle.desk_lock.specs.Knows.{arrived, hand_parts, parted}
use Rattle.desk_lock.specs.Lists.{Each}
use Rattle.desk_lock.specs.Tokens.{IsHandOf, hand_view}
use Rattle.desk_lock.specs.declared.desk.Desk.{Desk}
use Rattle.desk_lock.specs.declared.desk.Hand.{Hand}
use Rattle.desk_lock.specs.declared.view.View.{View}
use Rattle.desk_work.specs.Attempts.{IsDone, WorksOn, jobs_seen, keys_of}
use Rattle.desk_work.specs.Dealing.{AreNew, all_of, pile_keys, piles_seen}
use Rattle.desk_work.specs.Sites.{IsAtWork}
use Rattle.desk_work.specs.Teams.{GoesOnWith, HasWorked, IsHired, TeamDoes, TeamFails, TeamsOn}
use Rattle.desk_work.specs.Work.{Basis, Job, Progress}
use Rattle.desk_work.specs.declared.work.Job.{Job as WorkerJob}
use Rattle.desk_work.specs.declared.work.Worker.{Worker}
use Rattle.desk_work.proofs.Lists.{each_append}
use Rattle.desk_work.proofs.ProgressLaws.{progress_new}
use Rattle.desk_work.proofs.TeamLaws.{all_push, hired_works, parted_then, progress_parted, team_joins}
use Rattle.desk_work.proofs.TeamLists.{each_all, each_mapped, maps_same}

-- Nothing was done with these piles, which are new

module _ (basis : Basis) where
  pub none_goes_on : (v : View) → GoesOnWith basis v v []
  none_goes_on v u jobs before = subst (λ (list : List Job). Progress basis u v list) (sym (append-nil jobs)) before

  all_new : (piles : List (List Job)) → Each AreNew piles → AreNew (all_of piles)
  all_new [] new = tt
  all_new (pile ∷ piles) new =
      each_append (λ (job : Job). job.row ≡ None) pile (all_of piles) new.0 (all_new piles new.1)

  new_goes_on : (v : View) (piles : List (List Job)) → Each AreNew piles → GoesOnWith basis v v piles
  new_goes_on v piles new u jobs before = progress_new basis u v jobs (all_of piles) before (all_new piles new)

  pub rests_fails : {X : Type 0} (result : Result X NoMemory) (v w : View) (piles : List (List Job))
      → Each AreNew piles → w ≡ v → OnErr result (TeamFails basis v piles w)
  rests_fails (Ok x) v w piles new same = tt
  rests_fails (Err stop) v w piles new same = record {
    more = piles;
    teams = record {
      same = refl;
      goes_on = subst (λ (x : View). GoesOnWith basis v x piles) (sym same) (new_goes_on v piles new);
    };
  }

  -- what the pass did, though it had given parts away before
  pub parted_goes_on : (v u w : View) (n : ℕ) (piles : List (List Job)) → u ≡ parted v n → GoesOnWith basis u w piles
      → GoesOnWith basis v w piles
  parted_goes_on v u w n piles is goes from jobs before = goes from jobs
      (subst (λ (x : View). Progress basis from x jobs) (sym is) (progress_parted basis from v n jobs before))

-- Each worker

pub parted_none : (v : View) → v ≡ parted v 0
parted_none v = ap (λ (parts : ℕ). record v { parts = parts }) (none_less v.parts)
  where
    none_less : (n : ℕ) → n ≡ n - 0
    none_less n = omega arith

-- it has a part to give for each that is left
pub may_give : (v u : View) (n size : ℕ) → u ≡ parted v n → n < size → size < v.parts → hand_parts < u.parts
may_give v u n size is within enough =
    let left : u.parts ≡ v.parts - n = ap (λ (x : View). x.parts) is in omega (arith, left, within, enough)

-- what the pass knows, and the hand, once one more was made
pub parted_next : {X : Type 0} (v u w : View) (taken : List X) (x : X) → u ≡ parted v (length taken)
    → w ≡ parted u hand_parts → w ≡ parted v (length (taken ++ x ∷ []))
parted_next v u w taken x so_far gave = gave ∙ ap (λ (one : View). parted one hand_parts) so_far
    ∙ parted_then v (length taken) hand_parts ∙ ap (λ (k : ℕ). parted v k) (sym (length_push taken x))

pub hired_next : {B : Type 0} (desk : Desk B) (v u : View) (n : ℕ) (hand : Hand B) → u ≡ parted v n
    → IsHandOf desk hand → hand_view hand ≡ arrived u u.session hand_parts → IsHired desk v hand
hired_next desk v u n hand so_far of got = record {
  of = of;
  new = got ∙ ap (λ (one : View). arrived one one.session hand_parts) so_far;
}

module _ (basis : Basis) {B : Type 0} (desk : Desk B) where
  -- the same of what the pass knew once it had given parts away
  pub parted_worked : (v u : View) (n : ℕ) (jobs : List Job) (hand : Hand B) → u ≡ parted v n
      → HasWorked basis desk v jobs hand → HasWorked basis desk u jobs hand
  parted_worked v u n jobs hand is worked = subst (λ (x : View). HasWorked basis desk x jobs hand) (sym is)
      (record { of = worked.of; one = worked.one; progress = worked.progress })

-- All workers

abbrev pub pile_of : {P : Type 0} → Worker P → Vec WorkerJob Global
pile_of worker = worker.jobs

abbrev pub jobs_of : {P : Type 0} → Worker P → List Job
jobs_of worker = jobs_seen worker.jobs.items

abbrev pub piles_of : {P : Type 0} → List (Worker P) → List (List Job)
piles_of workers = map (λ worker. jobs_of worker) workers

module _ {P : Type 0} where
  seen_piles : (workers : List (Worker P)) → piles_of workers ≡ piles_seen (map pile_of workers)
  seen_piles [] = refl
  seen_piles (worker ∷ workers) = ap (λ (list : List (List Job)). jobs_of worker ∷ list) (seen_piles workers)

  keys_piles : (workers : List (Worker P)) → pile_keys (piles_seen (map pile_of workers))
      ≡ map (λ (worker : Worker P). keys_of (jobs_of worker)) workers
  keys_piles [] = refl
  keys_piles (worker ∷ workers) =
      ap (λ (list : List (List FactKey)). keys_of (jobs_of worker) ∷ list) (keys_piles workers)

  -- what is so of each pile is so of the parts of each worker
  pub pile_of_each : (Fact : List Job → Type 0) (workers : List (Worker P)) (piles : List (Vec WorkerJob Global))
      → map pile_of workers ≡ piles → Each Fact (piles_seen piles)
      → All (λ (worker : Worker P). Fact (jobs_of worker)) workers
  pile_of_each Fact workers piles same each = each_all (λ (worker : Worker P). Fact (jobs_of worker)) workers
      (each_mapped pile_of (λ (one : Vec WorkerJob Global). Fact (jobs_seen one.items)) workers
      (subst (λ (list : List (Vec WorkerJob Global)).
      Each (λ (one : Vec WorkerJob Global). Fact (jobs_seen one.items)) list) (sym same)
      (each_mapped (λ (one : Vec WorkerJob Global). jobs_seen one.items) Fact piles each)))

  -- The next worker

  pub all_next : (Fact : Worker P → Type 0) (workers more : List (Worker P)) (worker : Worker P)
      → more ≡ workers ++ worker ∷ [] → All Fact workers → Fact worker → All Fact more
  all_next Fact workers more worker is so_far here =
      subst (λ (list : List (Worker P)). All Fact list) (sym is) (All-push Fact workers worker so_far here)

  pub piles_next : (workers more : List (Worker P)) (worker : Worker P) (piles : List (Vec WorkerJob Global))
      → more ≡ workers ++ worker ∷ [] → map pile_of workers ≡ piles → map pile_of more ≡ piles ++ worker.jobs ∷ []
  piles_next workers more worker piles is so_far =
      ap (λ (list : List (Worker P)). map pile_of list) is ∙ map-append pile_of workers (worker ∷ [])
      ∙ ap (λ (list : List (Vec WorkerJob Global)). list ++ worker.jobs ∷ []) so_far

  pub as_many : (workers : List (Worker P)) (piles : List (Vec WorkerJob Global)) → map pile_of workers ≡ piles
      → length workers ≡ length piles
  as_many workers piles same = sym (length-map workers pile_of) ∙ ap length same

  piles_push : (workers : List (Worker P)) (worker : Worker P)
      → piles_of (workers ++ worker ∷ []) ≡ piles_of workers ++ jobs_of worker ∷ []
  piles_push workers worker = map-append (λ (one : Worker P). jobs_of one) workers (worker ∷ [])

  pub done_next : (workers : List (Worker P)) (worker : Worker P) → Each IsDone (all_of (piles_of workers))
      → Each IsDone (jobs_of worker) → Each IsDone (all_of (piles_of (workers ++ worker ∷ [])))
  done_next workers worker before here = subst (λ (list : List Job). Each IsDone list)
      (sym (ap all_of (piles_push workers worker) ∙ all_push (piles_of workers) (jobs_of worker)))
      (each_append IsDone (all_of (piles_of workers)) (jobs_of worker) before here)

  -- of a team of which one failed nothing is asked
  pub done_failed : (workers : List (Worker P)) (worker : Worker P) (failed : Bool) → failed ≡ true → failed ≡ false
      → Each IsDone (all_of (piles_of (workers ++ worker ∷ [])))
  done_failed workers worker failed one none = absurd (true≢false (sym one ∙ none))

  pub parts_next : (v u w : View) (workers : List (Worker P)) (worker : Worker P)
      → u.parts ≡ v.parts + length workers → (hand_view worker.hand).parts ≡ hand_parts
      → Joins u (hand_view worker.hand) w → w.parts ≡ v.parts + length (workers ++ worker ∷ [])
  parts_next v u w workers worker so_far here joins =
      let longer : length (workers ++ worker ∷ []) ≡ length workers + 1 = length_push workers worker in
      let one : (hand_view worker.hand).parts ≡ 1 = here in
      let both : w.parts ≡ u.parts + (hand_view worker.hand).parts = ap (λ (x : View). x.parts) joins.knows in
      omega (arith, longer, one, both, so_far)

  pub put_next : (workers : List (Worker P)) (worker : Worker P) (piles more : List (Vec WorkerJob Global))
      → piles ≡ map pile_of workers → more ≡ piles ++ worker.jobs ∷ [] → more ≡ map pile_of (workers ++ worker ∷ [])
  put_next workers worker piles more so_far put =
      put ∙ ap (λ (list : List (Vec WorkerJob Global)). list ++ worker.jobs ∷ []) so_far
      ∙ sym (map-append pile_of workers (worker ∷ []))

  pub goes_next : (basis : Basis) (desk : Desk (Book P)) (v u w : View) (workers : List (Worker P)) (worker : Worker P)
      → GoesOnWith basis v u (piles_of workers) → HasWorked basis desk v (jobs_of worker) worker.hand
      → Joins u (hand_view worker.hand) w → GoesOnWith basis v w (piles_of (workers ++ worker ∷ []))
  goes_next basis desk v u w workers worker so_far worked joins =
      subst (λ (list : List (List Job)). GoesOnWith basis v w list) (sym (piles_push workers worker))
      (team_joins basis desk v u w worker.hand (piles_of workers) (jobs_of worker) so_far worked joins)

  pub all_done : (workers : List (Worker P)) (piles : List (Vec WorkerJob Global)) → piles ≡ map pile_of workers
      → Each IsDone (all_of (piles_of workers)) → Each IsDone (all_of (piles_seen piles))
  all_done workers piles put done =
      subst (λ (list : List (Vec WorkerJob Global)). Each IsDone (all_of (piles_seen list))) (sym put)
      (subst (λ (list : List (List Job)). Each IsDone (all_of list)) (seen_piles workers) done)

  -- The whole team

  -- each worker went on from what it had to what it has
  abbrev pub EachWorksOn : Basis → List (Worker P) → List (Worker P) → Type 0
  EachWorksOn basis old new = (i : ℕ) (d : Worker P) → i < length old
      → WorksOn basis (hand_view (get_or old i d).hand) (jobs_of (get_or old i d))
      (hand_view (get_or new i d).hand) (jobs_of (get_or new i d))

  pub works_back : (basis : Basis) (lent old new back : List (Worker P)) → lent ≡ old → back ≡ new
      → EachWorksOn basis lent new → EachWorksOn basis old back
  works_back basis lent old new back was is works =
      subst (λ (list : List (Worker P)). EachWorksOn basis list back) was
      (subst (λ (list : List (Worker P)). EachWorksOn basis lent list) (sym is) works)

  abbrev AllHired : Desk (Book P) → View → List (Worker P) → Type 0
  AllHired desk v workers = All (λ (worker : Worker P). IsHired desk v worker.hand) workers

  abbrev AllNew : List (Worker P) → Type 0
  AllNew workers = All (λ (worker : Worker P). AreNew (jobs_of worker)) workers

  abbrev AllWorked : Basis → Desk (Book P) → View → List (Worker P) → Type 0
  AllWorked basis desk v workers = All (λ (worker : Worker P). HasWorked basis desk v (jobs_of worker) worker.hand) workers

  -- each worker that was hired for new parts has worked at them
  pub all_worked : (basis : Basis) (desk : Desk (Book P)) (snapshot : SnapshotData) (plan : Option RowData)
      (v u : View) (n : ℕ) (lent old new back : List (Worker P)) → lent ≡ old → back ≡ new → length new ≡ length lent
      → u ≡ parted v n → AllHired desk v old → AllNew old
      → ((i : ℕ) (d : Worker P) → i < length lent → IsAtWork desk snapshot plan (get_or new i d).hand)
      → EachWorksOn basis lent new → AllWorked basis desk u back
  all_worked basis desk snapshot plan v u n lent old new back was back_is long is hired fresh at works =
      subst (λ (list : List (Worker P)). AllWorked basis desk u list) (sym back_is) (λ i d within.
      let inside : i < length lent = omega (arith, long) in
      let before : Worker P = get_or lent i d in
      let after : Worker P = get_or new i d in
      parted_worked basis desk v u n (jobs_of after) after.hand is
      (hired_works basis desk v snapshot plan before.hand after.hand (jobs_of before) (jobs_of after)
      (subst (λ (list : List (Worker P)). AllHired desk v list) (sym was) hired i d inside)
      (subst (λ (list : List (Worker P)). AllNew list) (sym was) fresh i d inside)
      (works i d inside) (at i d inside)))

-- The pass is on with what all workers did

module _ {P : Type 0} (basis : Basis) (v u w : View) (n : ℕ) (old new : List (Worker P))
    (piles : List (Vec WorkerJob Global)) (is : u ≡ parted v n) (same : map pile_of old ≡ piles)
    (long : length new ≡ length old) (works : EachWorksOn basis old new) (goes : GoesOnWith basis u w (piles_of new))
  where
    teams_on : TeamsOn basis v (piles_seen piles) w (piles_seen (map pile_of new))
    teams_on = record {
      same = keys_piles new
          ∙ maps_same (λ (worker : Worker P). keys_of (jobs_of worker)) old new long
          (λ i d within. (works i d within).same)
          ∙ sym (keys_piles old) ∙ ap (λ (list : List (Vec WorkerJob Global)). pile_keys (piles_seen list)) same;
      goes_on = parted_goes_on basis v u w n (piles_seen (map pile_of new)) is
          (subst (λ (list : List (List Job)). GoesOnWith basis u w list) (seen_piles new) goes);
    }

    pub team_does : (result : Result (Vec (Vec WorkerJob Global) Global) NoMemory)
        → IfOk result (λ left. left.items ≡ map pile_of new)
        → IfOk result (λ left. Each IsDone (all_of (piles_seen left.items)))
        → IfOk result (λ left. TeamDoes basis v (piles_seen piles) w (piles_seen left.items))
    team_does (Ok left) put done = record {
      teams = subst (λ (list : List (Vec WorkerJob Global)). TeamsOn basis v (piles_seen piles) w (piles_seen list))
          (sym put) teams_on;
      done = done;
    }
    team_does (Err stop) put done = tt

    pub team_fails : (result : Result (Vec (Vec WorkerJob Global) Global) NoMemory)
        → OnErr result (TeamFails basis v (piles_seen piles) w)
    team_fails (Ok left) = tt
    team_fails (Err stop) = record { more = piles_seen (map pile_of new); teams = teams_on }
