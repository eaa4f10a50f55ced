-- Parts that are taken from piles in order: the parts are those that were dealt, and none is lost.
use Rattle.std.proofs.Common.{◌≡◌, ℕ, zero, suc, List, [], ◌∷◌, ◌++◌, Some, refl, sym, ap, ◌∙◌, subst, append_assoc, drop, length, map, set, take}
use Rattle.std.specs.List.{slice_get}
use Rattle.std.proofs.Math.Seq.{take-append_seam}
use Rattle.std.proofs.lemmas.List.{append-nil, map_push, same_from_push}
use Rattle.std.proofs.lemmas.Option.{none-some, same_Some}
use Rattle.dita_doc.specs.declared.fact.FactKey.{FactKey}
use Rattle.desk_lock.specs.Lists.{Each}
use Rattle.desk_work.specs.Attempts.{job_seen, jobs_seen, keys_of}
use Rattle.desk_work.specs.Dealing.{AreDealt, IsTaken, SameItems, all_of, pile_keys, piles_seen}
use Rattle.desk_work.specs.Work.{Job}
use Rattle.desk_work.specs.declared.work.Job.{Job as WorkerJob}
use Rattle.desk_work.proofs.DealLaws.{keys_at, keys_push, keys_set, same_all, same_moved, same_then}
use Rattle.desk_work.proofs.PileLaws.{Pile, pile_has_top}

-- One part

-- the part on top of the pile of the first home is the first part
record FirstTaken (homes : List ℕ) (keys : List FactKey) (job : Job) (fewer : List (List Job)) : Type 0 where
  rest : List FactKey
  first : keys ≡ job.key ∷ rest
  dealt : AreDealt homes rest (pile_keys fewer)

first_taken : (homes : List ℕ) (keys : List FactKey) (home : ℕ) (job : Job) (piles fewer : List (List Job))
    → AreDealt (home ∷ homes) keys (pile_keys piles) → IsTaken piles home job fewer → FirstTaken homes keys job fewer
first_taken homes [] home job piles fewer dealt taken = absurd dealt
first_taken homes (key ∷ keys) home job piles fewer dealt taken =
    let there : slice_get (pile_keys piles) home ≡ Some (keys_of taken.pile ++ job.key ∷ []) =
    keys_at piles home (taken.pile ++ job ∷ []) taken.stood ∙ ap Some (keys_push taken.pile job) in
    let same = same_from_push dealt.0 (keys_of taken.pile) key job.key
    (same_Some (dealt.0 ++ key ∷ []) (keys_of taken.pile ++ job.key ∷ []) (sym dealt.1 ∙ there)) in
    record {
      rest = keys;
      first = ap (λ (one : FactKey). one ∷ keys) same.1;
      dealt = subst (λ (ps : List (List FactKey)). AreDealt homes keys ps)
          (ap (λ (pile : List FactKey). set (pile_keys piles) home pile) same.0
          ∙ sym (ap pile_keys taken.left ∙ keys_set piles home taken.pile)) dealt.2;
    }

same_taken : (piles : List (List Job)) (home : ℕ) (pile : List Job) (job : Job) (front : List Job)
    → slice_get piles home ≡ Some (pile ++ job ∷ [])
    → SameItems (front ++ all_of piles) ((front ++ job ∷ []) ++ all_of (set piles home pile))
same_taken [] home pile job front at = absurd (none-some (pile ++ job ∷ []) at)
same_taken (one ∷ piles) zero pile job front at =
    subst (λ (list : List Job). SameItems list ((front ++ job ∷ []) ++ (pile ++ all_of piles)))
    (append_assoc front (pile ++ job ∷ []) (all_of piles)
    ∙ ap (λ (list : List Job). front ++ (list ++ all_of piles)) (sym (same_Some one (pile ++ job ∷ []) at)))
    (same_moved front pile (all_of piles) job)
same_taken (one ∷ piles) (suc home) pile job front at =
    let rest = all_of (set piles home pile) in
    let later = same_taken piles home pile job (front ++ one) at in
    let moved = same_moved front one rest job in
    subst (λ (list : List Job). SameItems list ((front ++ job ∷ []) ++ (one ++ rest)))
    (append_assoc front one (all_of piles))
    (same_then ((front ++ one) ++ all_of piles) (((front ++ one) ++ job ∷ []) ++ rest)
    ((front ++ job ∷ []) ++ (one ++ rest)) later
    (subst (λ (list : List Job). SameItems (list ++ rest) ((front ++ job ∷ []) ++ (one ++ rest)))
    (sym (append_assoc front one (job ∷ []))) moved))

-- All parts

-- these parts were taken, and those with these homes are left
pub record AreTaken (homes left : List ℕ) (before : List (List Job)) (jobs : List Job) (piles : List (List Job)) : Type 0
  where
    pub dealt : (keys : List FactKey) → AreDealt homes keys (pile_keys before)
        → (rest : List FactKey) × (keys ≡ keys_of jobs ++ rest) × AreDealt left rest (pile_keys piles)
    pub same : SameItems (all_of before) (jobs ++ all_of piles)

pub none_taken : (homes : List ℕ) (before : List (List Job)) → AreTaken homes homes before [] before
none_taken homes before = record {
  dealt = λ keys dealt. (keys, refl, dealt);
  same = same_all (all_of before);
}

pub taken_more : (homes more left : List ℕ) (home : ℕ) (before : List (List Job)) (jobs : List Job) (job : Job)
    (piles fewer : List (List Job)) → more ≡ home ∷ left → AreTaken homes more before jobs piles
    → IsTaken piles home job fewer → AreTaken homes left before (jobs ++ job ∷ []) fewer
taken_more homes more left home before jobs job piles fewer first taken one = record {
  dealt = λ keys dealt.
      let old = taken.dealt keys dealt in
      let here = first_taken left old.0 home job piles fewer
      (subst (λ (list : List ℕ). AreDealt list old.0 (pile_keys piles)) first old.2) one in (
        here.rest,
        old.1 ∙ ap (λ (list : List FactKey). keys_of jobs ++ list) here.first
            ∙ sym (append_assoc (keys_of jobs) (job.key ∷ []) here.rest)
            ∙ ap (λ (list : List FactKey). list ++ here.rest) (sym (keys_push jobs job)),
        here.dealt,
      );
  same = same_then (all_of before) (jobs ++ all_of piles) ((jobs ++ job ∷ []) ++ all_of fewer) taken.same
      (subst (λ (ps : List (List Job)). SameItems (jobs ++ all_of piles) ((jobs ++ job ∷ []) ++ all_of ps))
      (sym one.left) (same_taken piles home one.pile job jobs one.stood));
}

-- the part that is taken next is there
top_there : (homes : List ℕ) (home : ℕ) (piles : List Pile) (keys : List FactKey)
    → AreDealt (home ∷ homes) keys (pile_keys (piles_seen piles))
    → (pile : List WorkerJob) × (top : WorkerJob)
    × (slice_get (map (λ (one : Pile). one.items) piles) home ≡ Some (pile ++ top ∷ []))
top_there homes home piles [] here = absurd here
top_there homes home piles (key ∷ keys) here = pile_has_top piles home here.0 key here.1

pub next_has_top : (homes more left : List ℕ) (home : ℕ) (before : List (List Job)) (jobs : List Job)
    (piles slice : List Pile) (keys : List FactKey) → more ≡ home ∷ left → slice ≡ piles
    → AreTaken homes more before jobs (piles_seen piles) → AreDealt homes keys (pile_keys before)
    → (pile : List WorkerJob) × (top : WorkerJob)
    × (slice_get (map (λ (one : Pile). one.items) slice) home ≡ Some (pile ++ top ∷ []))
next_has_top homes more left home before jobs piles slice keys first same taken dealt =
    let old = taken.dealt keys dealt in
    top_there left home slice old.0
    (subst (λ (list : List Pile). AreDealt (home ∷ left) old.0 (pile_keys (piles_seen list))) (sym same)
    (subst (λ (list : List ℕ). AreDealt list old.0 (pile_keys (piles_seen piles))) first old.2))

-- a part that is taken from a slice of the piles, which holds so many
pub taken_next : (homes more left : List ℕ) (home : ℕ) (before : List (List Job)) (jobs pushed : List WorkerJob)
    (job : WorkerJob) (piles slice fewer : List Pile) (count : ℕ) → more ≡ home ∷ left → slice ≡ piles
    → count ≡ length fewer → pushed ≡ jobs ++ job ∷ []
    → AreTaken homes more before (jobs_seen jobs) (piles_seen piles)
    → IsTaken (piles_seen slice) home (job_seen job) (piles_seen fewer)
    → AreTaken homes left before (jobs_seen pushed) (piles_seen (take count (fewer ++ drop (length fewer) piles)))
taken_next homes more left home before jobs pushed job piles slice fewer count first same counted pushed_is taken one =
    let back : take count (fewer ++ drop (length fewer) piles) ≡ fewer =
    ap (λ (n : ℕ). take n (fewer ++ drop (length fewer) piles)) counted
    ∙ take-append_seam fewer (drop (length fewer) piles) in
    subst (λ (list : List Pile). AreTaken homes left before (jobs_seen pushed) (piles_seen list)) (sym back)
    (subst (λ (list : List Job). AreTaken homes left before list (piles_seen fewer))
    (sym (ap jobs_seen pushed_is ∙ map_push job_seen jobs job))
    (taken_more homes more left home before (jobs_seen jobs) (job_seen job) (piles_seen piles) (piles_seen fewer) first
    taken
    (subst (λ (list : List Pile). IsTaken (piles_seen list) home (job_seen job) (piles_seen fewer)) same one)))

-- The end

no_parts : (rest : List FactKey) (piles : List (List FactKey)) → AreDealt [] rest piles
    → (rest ≡ []) × Each (λ (pile : List FactKey). pile ≡ []) piles
no_parts [] piles dealt = (refl, dealt)
no_parts (key ∷ rest) piles dealt = absurd dealt

no_job : (pile : List Job) → keys_of pile ≡ [] → pile ≡ []
no_job [] e = refl
no_job (job ∷ pile) e = absurd (cc)

none_left : (piles : List (List Job)) → Each (λ (pile : List FactKey). pile ≡ []) (pile_keys piles) → all_of piles ≡ []
none_left [] empty = refl
none_left (pile ∷ piles) empty =
    ap (λ (list : List Job). list ++ all_of piles) (no_job pile empty.0) ∙ none_left piles empty.1

pub all_taken_keys : (homes left : List ℕ) (before : List (List Job)) (jobs : List Job) (piles : List (List Job))
    → left ≡ [] → AreTaken homes left before jobs piles → (keys : List FactKey)
    → AreDealt homes keys (pile_keys before) → keys_of jobs ≡ keys
all_taken_keys homes left before jobs piles none taken keys dealt =
    let end = taken.dealt keys dealt in
    let nothing = no_parts end.0 (pile_keys piles)
    (subst (λ (list : List ℕ). AreDealt list end.0 (pile_keys piles)) none end.2) in
    sym (end.1 ∙ ap (λ (list : List FactKey). keys_of jobs ++ list) nothing.0 ∙ append-nil (keys_of jobs))

pub all_taken : (homes left : List ℕ) (before : List (List Job)) (jobs : List Job) (piles : List (List Job))
    (keys : List FactKey) → left ≡ [] → AreTaken homes left before jobs piles → AreDealt homes keys (pile_keys before)
    → SameItems (all_of before) jobs
all_taken homes left before jobs piles keys none taken dealt =
    let end = taken.dealt keys dealt in
    let nothing = no_parts end.0 (pile_keys piles)
    (subst (λ (list : List ℕ). AreDealt list end.0 (pile_keys piles)) none end.2) in
    subst (λ (list : List Job). SameItems (all_of before) list)
    (ap (λ (list : List Job). jobs ++ list) (none_left piles nothing.1) ∙ append-nil jobs) taken.same
