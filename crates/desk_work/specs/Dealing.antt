-- How parts are dealt to workers and put in order again (own). Parts are put on piles from the last one on, so the first
-- of all is on top of its pile, and once it is taken the next is on top of its own.
use Rattle.std.specs.Prelude.{◌≡◌, ℕ, List, [], ◌∷◌, ◌++◌, Some, None, map, set, slice_get}
use Rattle.std.specs.List.{flat_map}
use Rattle.std.specs.declared.alloc.Global.{Global}
use Rattle.std.specs.declared.vec.Vec.{Vec}
use Rattle.dita_doc.specs.declared.fact.FactKey.{FactKey}
use Rattle.facts.specs.Rows.{Stands}
use Rattle.desk_lock.specs.Lists.{Each, IsReordered}
use Rattle.desk_work.specs.Work.{Job}
use Rattle.desk_work.specs.Attempts.{jobs_seen, keys_of}
use Rattle.desk_work.specs.declared.work.Job.{Job as WorkerJob}

-- the same items in some order
pub record SameItems {X : Type 0} (xs ys : List X) : Type 0 where
  pub weigh : IsReordered xs ys
  pub there : (x : X) → Stands xs x → Stands ys x
  pub back : (x : X) → Stands ys x → Stands xs x

-- piles as workers have them
abbrev pub piles_seen : List (Vec WorkerJob Global) → List (List Job)
piles_seen piles = map (λ (pile : Vec WorkerJob Global). jobs_seen pile.items) piles

-- the parts of all piles
abbrev pub all_of : List (List Job) → List Job
all_of piles = flat_map (λ (pile : List Job). pile) piles

abbrev pub pile_keys : List (List Job) → List (List FactKey)
pile_keys piles = map keys_of piles

-- taken in order, each from the top of the pile that is its home, the parts are these, and none is left
abbrev pub AreDealt : List ℕ → List FactKey → List (List FactKey) → Type 0
AreDealt [] [] piles = Each (λ (pile : List FactKey). pile ≡ []) piles
AreDealt [] (key ∷ keys) piles = ⊥
AreDealt (home ∷ homes) [] piles = ⊥
AreDealt (home ∷ homes) (key ∷ keys) piles = (pile : List FactKey)
    × (slice_get piles home ≡ Some (pile ++ key ∷ [])) × AreDealt homes keys (set piles home pile)

-- no part has a row yet
abbrev pub AreNew : List Job → Type 0
AreNew jobs = Each (λ (job : Job). job.row ≡ None) jobs

-- a part is put on top of a pile
pub record IsPut (piles : List (List Job)) (home : ℕ) (key : FactKey) (more : List (List Job)) : Type 0 where
  pub pile : List Job
  pub stood : slice_get piles home ≡ Some pile
  pub put : more ≡ set piles home (pile ++ record { key = key; row = None } ∷ [])

-- a part is taken from the top of a pile
pub record IsTaken (piles : List (List Job)) (home : ℕ) (job : Job) (fewer : List (List Job)) : Type 0 where
  pub pile : List Job
  pub stood : slice_get piles home ≡ Some (pile ++ job ∷ [])
  pub left : fewer ≡ set piles home pile
