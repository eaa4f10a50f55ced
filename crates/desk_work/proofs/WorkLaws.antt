-- How a worker goes on from part to part: its parts stay the same, and the pass is on with them.
use Rattle.std.proofs.Common.{◌≡◌, ℕ, zero, suc, ◌+◌, ◌<◌, ◌≤◌, true, List, [], ◌∷◌, Option, Some, None, is_some, refl, sym, ap, ◌∙◌, subst, get_or, length, set, take}
use Rattle.std.specs.List.{slice_get}
use Rattle.std.specs.Option.{option_map}
use Rattle.std.proofs.lemmas.List.{map-append, map-set, take_all, take_more}
use Rattle.std.proofs.lemmas.Option.{none-some, same_Some, slice_get-map}
use Rattle.dita_doc.specs.declared.fact.FactKey.{FactKey}
use Rattle.facts.specs.Rows.{RowData, row_data}
use Rattle.facts.specs.declared.row.Row.{Row}
use Rattle.desk_lock.specs.Lists.{Each}
use Rattle.desk_lock.specs.declared.view.View.{View}
use Rattle.desk_work.specs.Attempts.{GoesOnAt, IsDone, WorksOn, job_seen, jobs_seen, keys_of}
use Rattle.desk_work.specs.Sites.{ArePartsOf, IsPartOf}
use Rattle.desk_work.specs.Work.{Basis, Job, Progress}
use Rattle.desk_work.specs.declared.work.Job.{Job as WorkerJob}
use Rattle.desk_work.proofs.Lists.{each_append}

-- What is so of keys

pub each_key : (P : FactKey → Type 0) (jobs : List Job) → Each (λ (job : Job). P job.key) jobs → Each P (keys_of jobs)
each_key P [] each = tt
each_key P (job ∷ jobs) each = (each.0, each_key P jobs each.1)

pub key_each : (P : FactKey → Type 0) (jobs : List Job) → Each P (keys_of jobs) → Each (λ (job : Job). P job.key) jobs
key_each P [] each = tt
key_each P (job ∷ jobs) each = (each.0, key_each P jobs each.1)

pub parts_stay : (root : FactKey) (plan : Option RowData) (jobs more : List Job) → ArePartsOf root plan jobs
    → keys_of more ≡ keys_of jobs → ArePartsOf root plan more
parts_stay root plan jobs more parts same = key_each (IsPartOf root plan) more
    (subst (λ (keys : List FactKey). Each (IsPartOf root plan) keys) (sym same)
    (each_key (IsPartOf root plan) jobs parts))

pub part_at : (root : FactKey) (plan : Option RowData) (jobs : List WorkerJob) (k : ℕ) (job : WorkerJob)
    → ArePartsOf root plan (jobs_seen jobs) → slice_get jobs k ≡ Some job → IsPartOf root plan job.key
part_at root plan [] k job parts at = absurd (none-some job at)
part_at root plan (one ∷ jobs) zero job parts at =
    subst (λ (other : WorkerJob). IsPartOf root plan other.key) (same_Some one job at) parts.0
part_at root plan (one ∷ jobs) (suc k) job parts at = part_at root plan jobs k job parts.1 at

keys_set : (jobs : List WorkerJob) (k : ℕ) (old new : WorkerJob) → slice_get jobs k ≡ Some old → new.key ≡ old.key
    → keys_of (jobs_seen (set jobs k new)) ≡ keys_of (jobs_seen jobs)
keys_set [] k old new at same = refl
keys_set (job ∷ jobs) zero old new at same =
    ap (λ (key : FactKey). key ∷ keys_of (jobs_seen jobs))
    (same ∙ sym (ap (λ (one : WorkerJob). one.key) (same_Some job old at)))
keys_set (job ∷ jobs) (suc k) old new at same =
    ap (λ (keys : List FactKey). job.key ∷ keys) (keys_set jobs k old new at same)

-- Parts that are done

pub done_more : (jobs : List WorkerJob) (i : ℕ) (job : WorkerJob) → i < length jobs → job ≡ get_or jobs i job
    → is_some job.row ≡ true → Each IsDone (jobs_seen (take i jobs)) → Each IsDone (jobs_seen (take (i + 1) jobs))
done_more jobs i job within is there each =
    subst (λ (list : List WorkerJob). Each IsDone (jobs_seen list)) (sym (take_more jobs i job within))
    (subst (λ (list : List Job). Each IsDone list) (sym (map-append job_seen (take i jobs) (get_or jobs i job ∷ [])))
    (each_append IsDone (jobs_seen (take i jobs)) (job_seen (get_or jobs i job) ∷ []) each
    (subst (λ (one : WorkerJob). IsDone (job_seen one)) is (row_seen job.row there), tt)))
  where
    row_seen : (row : Option Row) → is_some row ≡ true → is_some (option_map row_data row) ≡ true
    row_seen None some = some
    row_seen (Some row) some = refl

pub done_all : (jobs : List WorkerJob) (i : ℕ) → length jobs ≤ i → Each IsDone (jobs_seen (take i jobs))
    → Each IsDone (jobs_seen jobs)
done_all jobs i over each =
    subst (λ (list : List WorkerJob). Each IsDone (jobs_seen list)) (take_all i jobs over) each

seen_at : (jobs : List WorkerJob) (k : ℕ) (job : WorkerJob) → slice_get jobs k ≡ Some job
    → slice_get (jobs_seen jobs) k ≡ Some (job_seen job)
seen_at jobs k job at = slice_get-map job_seen jobs k ∙ ap (option_map job_seen) at

module _ (basis : Basis) where
  pub works_none : (v : View) (jobs : List Job) → WorksOn basis v jobs v jobs
  works_none v jobs = record { same = refl; goes_on = λ u before. before }

  pub works_then : (u v w : View) (xs ys zs : List Job) → WorksOn basis u xs v ys → WorksOn basis v ys w zs
      → WorksOn basis u xs w zs
  works_then u v w xs ys zs first then = record {
    same = then.same ∙ first.same;
    goes_on = λ from before. then.goes_on from (first.goes_on from before);
  }

  pub works_at : (v w : View) (jobs : List WorkerJob) (k : ℕ) (old new : WorkerJob) → slice_get jobs k ≡ Some old
      → new.key ≡ old.key → GoesOnAt basis v (job_seen old) w (job_seen new)
      → WorksOn basis v (jobs_seen jobs) w (jobs_seen (set jobs k new))
  works_at v w jobs k old new at same goes_on = record {
    same = keys_set jobs k old new at same;
    goes_on = λ from before. subst (λ (list : List Job). Progress basis from w list)
        (sym (map-set job_seen jobs k new)) (goes_on (jobs_seen jobs) k (seen_at jobs k old at) from before);
  }
