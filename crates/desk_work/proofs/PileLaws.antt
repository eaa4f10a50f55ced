-- Piles of parts as workers have them: what a push and a pop do to them, and parts that are put on them from the last one
-- on.
use Rattle.std.proofs.Common.{◌≡◌, ℕ, zero, suc, ◌+◌, ◌<◌, List, [], ◌∷◌, ◌++◌, Some, None, refl, sym, ap, ◌∙◌, subst, add-one, append_assoc, arith, drop, drop-cons, get_or, length, map, set}
use Rattle.std.specs.List.{slice_get}
use Rattle.std.specs.Option.{option_map}
use Rattle.std.specs.declared.alloc.Global.{Global}
use Rattle.std.specs.declared.vec.Vec.{Vec}
use Rattle.std.proofs.Math.Seq.{drop-length}
use Rattle.std.proofs.lemmas.List.{append-nil, length-append, length-map, length_push, map-set, map_push}
use Rattle.std.proofs.lemmas.Option.{none-some, same_Some, slice_get-map, slice_get-get_or, slice_get_within}
use Rattle.dita_doc.specs.declared.fact.FactKey.{FactKey}
use Rattle.desk_lock.specs.Lists.{Each}
use Rattle.desk_work.specs.Attempts.{job_seen, jobs_seen, keys_of}
use Rattle.desk_work.specs.Dealing.{AreDealt, AreNew, IsPut, IsTaken, pile_keys, piles_seen}
use Rattle.desk_work.specs.Work.{Job}
use Rattle.desk_work.specs.declared.work.Job.{Job as WorkerJob}
use Rattle.desk_work.proofs.DealLaws.{dealt_put, new_put}
use Rattle.desk_work.proofs.Lists.{each_append, each_onward}

abbrev pub Pile : Type 0
Pile = Vec WorkerJob Global

-- A pile that changes

pile_at : (piles : List Pile) (home : ℕ) (one : Pile) → home < length piles
    → slice_get (piles_seen piles) home ≡ Some (jobs_seen (get_or piles home one).items)
pile_at piles home one within = slice_get-map (λ (pile : Pile). jobs_seen pile.items) piles home
    ∙ ap (option_map (λ (pile : Pile). jobs_seen pile.items)) (slice_get-get_or piles home one within)

pile_set : (piles : List Pile) (home : ℕ) (pile : Pile)
    → piles_seen (set piles home pile) ≡ set (piles_seen piles) home (jobs_seen pile.items)
pile_set piles home pile = map-set (λ (one : Pile). jobs_seen one.items) piles home pile

pub pile_put : (piles : List Pile) (home : ℕ) (one new : Pile) (key : FactKey) → home < length piles
    → new.items ≡ (get_or piles home one).items ++ record { key = key; row = None } ∷ []
    → IsPut (piles_seen piles) home key (piles_seen (set piles home new))
pile_put piles home one new key within items = record {
  pile = jobs_seen (get_or piles home one).items;
  stood = pile_at piles home one within;
  put = pile_set piles home new ∙ ap (λ (jobs : List Job). set (piles_seen piles) home jobs)
      (ap jobs_seen items ∙ map_push job_seen (get_or piles home one).items (record { key = key; row = None }));
}

pub pile_taken : (piles : List Pile) (home : ℕ) (one new : Pile) (job : WorkerJob) → home < length piles
    → (get_or piles home one).items ≡ new.items ++ job ∷ []
    → IsTaken (piles_seen piles) home (job_seen job) (piles_seen (set piles home new))
pile_taken piles home one new job within items = record {
  pile = jobs_seen new.items;
  stood = pile_at piles home one within ∙ ap Some (ap jobs_seen items ∙ map_push job_seen new.items job);
  left = pile_set piles home new;
}

-- Piles without a part

pub empty_more : (piles more : List Pile) (pile : Pile) → pile.items ≡ [] → more ≡ piles ++ pile ∷ []
    → Each (λ (jobs : List Job). jobs ≡ []) (piles_seen piles) → Each (λ (jobs : List Job). jobs ≡ []) (piles_seen more)
empty_more piles more pile none pushed empty =
    subst (λ (seen : List (List Job)). Each (λ (jobs : List Job). jobs ≡ []) seen)
    (sym (ap piles_seen pushed ∙ map_push (λ (one : Pile). jobs_seen one.items) piles pile))
    (each_append (λ (jobs : List Job). jobs ≡ []) (piles_seen piles) (jobs_seen pile.items ∷ []) empty
    (ap jobs_seen none, tt))

-- A pile with a part on top

pub top_within : (piles : List Pile) (home : ℕ) (items : List WorkerJob)
    → slice_get (map (λ (one : Pile). one.items) piles) home ≡ Some items → home < length piles
top_within piles home items at =
    let within = slice_get_within (map (λ (one : Pile). one.items) piles) home items at in
    let long = length-map piles (λ (one : Pile). one.items) in omega arith

no_end : {X : Type 0} (xs : List X) (x : X) → [] ≡ xs ++ x ∷ [] → ⊥
no_end [] x e = cc
no_end (y ∷ xs) x e = cc

pub record HasTop (items : List WorkerJob) : Type 0 where
  pub pile : List WorkerJob
  pub top : WorkerJob
  pub is : items ≡ pile ++ top ∷ []

top_of : (job : WorkerJob) (jobs : List WorkerJob) → HasTop (job ∷ jobs)
top_of job [] = record { pile = []; top = job; is = refl }
top_of job (next ∷ jobs) =
    let rest = top_of next jobs in
    record { pile = job ∷ rest.pile; top = rest.top; is = ap (λ (list : List WorkerJob). job ∷ list) rest.is }

top_by : (items : List WorkerJob) (keys : List FactKey) (key : FactKey)
    → keys_of (jobs_seen items) ≡ keys ++ key ∷ [] → HasTop items
top_by [] keys key e = absurd (no_end keys key e)
top_by (job ∷ jobs) keys key e = top_of job jobs

-- so that it can be taken
pub pile_has_top : (piles : List Pile) (home : ℕ) (keys : List FactKey) (key : FactKey)
    → slice_get (pile_keys (piles_seen piles)) home ≡ Some (keys ++ key ∷ [])
    → (pile : List WorkerJob) × (top : WorkerJob)
    × (slice_get (map (λ (one : Pile). one.items) piles) home ≡ Some (pile ++ top ∷ []))
pile_has_top [] home keys key at = absurd (none-some (keys ++ key ∷ []) at)
pile_has_top (one ∷ piles) zero keys key at =
    let topped = top_by one.items keys key (same_Some (keys_of (jobs_seen one.items)) (keys ++ key ∷ []) at) in
    (topped.pile, topped.top, ap Some topped.is)
pile_has_top (one ∷ piles) (suc home) keys key at = pile_has_top piles home keys key at

-- Parts that are put on piles, the last one first

-- the parts that are left are the first of all; the others are dealt
pub record ArePutFrom (homes : List ℕ) (all left : List FactKey) (piles : List (List Job)) : Type 0 where
  pub keys : List FactKey
  pub split : left ++ keys ≡ all
  pub dealt : AreDealt (drop (length left) homes) keys (pile_keys piles)
  pub new : Each AreNew piles

no_keys : (piles : List (List Job)) → Each (λ (pile : List Job). pile ≡ []) piles
    → Each (λ (pile : List FactKey). pile ≡ []) (pile_keys piles)
no_keys [] empty = tt
no_keys (pile ∷ piles) empty = (ap keys_of empty.0, no_keys piles empty.1)

pub none_put : (homes : List ℕ) (all : List FactKey) (piles : List (List Job)) → length homes ≡ length all
    → Each (λ (pile : List Job). pile ≡ []) piles → ArePutFrom homes all all piles
none_put homes all piles same empty = record {
  keys = [];
  split = append-nil all;
  dealt = subst (λ (list : List ℕ). AreDealt list [] (pile_keys piles))
      (sym (ap (λ (n : ℕ). drop n homes) (sym same) ∙ drop-length homes)) (no_keys piles empty);
  new = each_onward (λ (pile : List Job). pile ≡ []) AreNew piles
      (λ (pile : List Job) (is : pile ≡ []). subst AreNew (sym is) tt) empty;
}

pub put_more : (homes : List ℕ) (all left more : List FactKey) (home : ℕ) (key : FactKey)
    (piles after : List (List Job)) → length homes ≡ length all → more ≡ left ++ key ∷ []
    → home ≡ get_or homes (length left) 0 → ArePutFrom homes all more piles → IsPut piles home key after
    → ArePutFrom homes all left after
put_more homes all left more home key piles after same split home_is before put =
    let long : length left + 1 ≡ length more = sym (ap length split ∙ length_push left key) in
    let parts : length more + length before.keys ≡ length all = sym (length-append more before.keys) ∙ ap length before.split in
    let within : length left < length homes = omega arith in
    let homes_are : drop (length left) homes ≡ home ∷ drop (length more) homes =
    drop-cons homes (length left) 0 within
    ∙ ap (λ (h : ℕ). h ∷ drop (suc (length left)) homes) (sym home_is)
    ∙ ap (λ (n : ℕ). home ∷ drop n homes) (sym (add-one (length left)) ∙ long) in
    record {
      keys = key ∷ before.keys;
      split = sym (append_assoc left (key ∷ []) before.keys) ∙ ap (λ (list : List FactKey). list ++ before.keys) (sym split)
          ∙ before.split;
      dealt = subst (λ (list : List ℕ). AreDealt list (key ∷ before.keys) (pile_keys after)) (sym homes_are)
          (dealt_put (drop (length more) homes) before.keys piles after home key before.dealt put);
      new = new_put piles after home key before.new put;
    }

pub all_put : (homes : List ℕ) (all left : List FactKey) (piles : List (List Job)) → left ≡ []
    → ArePutFrom homes all left piles → AreDealt homes all (pile_keys piles)
all_put homes all left piles none put =
    let done = subst (λ (list : List FactKey). ArePutFrom homes all list piles) none put in
    subst (λ (keys : List FactKey). AreDealt homes keys (pile_keys piles)) done.split done.dealt
