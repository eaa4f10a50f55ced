-- How a build ends that has its place and found no memory for its pages.
use Rattle.std.proofs.Common.{◌≡◌, ℕ, List, Option, sym, ap, ◌∙◌, subst}
use Rattle.build_spec.specs.Built as clean_spec
use Rattle.dita_doc.specs.declared.fact.Part.TheVariants as parts
use Rattle.dita_outside.specs.Pages.{Pages, TakesPagesFront}
use Rattle.desk_core.specs.Book.{SnapshotData}
use Rattle.desk_lock.specs.Calls.{Begins}
use Rattle.desk_lock.specs.Lists.{StartsWith}
use Rattle.desk_lock.specs.Meaning.{Meaning}
use Rattle.desk_lock.specs.declared.view.View.{View}
use Rattle.desk_language.specs.Language.{Language, key_of, parts_of}
use Rattle.desk_work.specs.Attempts.{keys_of}
use Rattle.desk_work.specs.Build.{EndsShort, Stood, order_of, outcome_seen}
use Rattle.desk_work.specs.Rounds.{Builds}
use Rattle.desk_work.specs.Work.{Basis, Job, Progress}
use Rattle.desk_work.specs.declared.built.Outcome.{Outcome}
use Rattle.desk_work.proofs.Lists.{starts_equal}

module _ (means : Meaning) (language : Language) (v u w : View) (asked : ℕ) (root : List ℕ) (val : Option (List ℕ))
    (place : ℕ) (snapshot : SnapshotData)
    (begins : Begins v asked root val place snapshot u) (kept : w.parts ≡ u.parts) where
  abbrev TheBasis : Basis
  TheBasis = record { means = means; language = language; snapshot = snapshot }

  stood : (jobs : List Job) → Progress TheBasis u w jobs
      → StartsWith (parts_of language snapshot.state root val) (keys_of jobs)
      → Stood means language v (order_of asked root val) place snapshot.state jobs w
  stood jobs progress keys = record {
    stamp = snapshot.stamp;
    between = u;
    begun = begins;
    progress = progress;
    keys = keys;
    parts = kept ∙ ap (λ (x : View). x.parts) begins.appends.knows;
  }

  -- the pages that were built are those of the clean build, and the outlet took the first of them
  pub ends_unfinished : (outcome : Outcome) (old new : Option Pages)
      → Builds TheBasis (key_of root val parts.Plan) u w outcome
      → TakesPagesFront old new (clean_spec.built_pages (outcome_seen outcome))
      → EndsShort means language v (order_of asked root val) w old new
  ends_unfinished outcome old new builds took = record {
    place = place;
    state = snapshot.state;
    jobs = builds.jobs;
    stood = stood builds.jobs builds.progress
        (starts_equal (parts_of language snapshot.state root val) (keys_of builds.jobs) (sym builds.all));
    took = subst (TakesPagesFront old new)
        (ap (λ (one : clean_spec.BuildOutcome). clean_spec.built_pages one) builds.outcome_is) took;
  }
