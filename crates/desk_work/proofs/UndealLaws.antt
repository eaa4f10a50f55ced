-- Parts that were dealt are put in order again: what was dealt tells an order of all parts, whatever came of each.
use Rattle.std.proofs.Common.{◌≡◌, ℕ, zero, suc, List, [], ◌∷◌, ◌++◌, Some, refl, sym, ap, ◌∙◌, subst, ⊎_elim, arith, map, set, set-set, append_assoc}
use Rattle.std.specs.List.{slice_get}
use Rattle.std.proofs.lemmas.List.{map-set}
use Rattle.std.proofs.lemmas.List.Sums.{sum_by-append}
use Rattle.std.proofs.lemmas.Option.{none-some, same_Some}
use Rattle.dita_doc.specs.declared.fact.FactKey.{FactKey}
use Rattle.desk_lock.specs.Lists.{Each}
use Rattle.desk_work.specs.Attempts.{keys_of}
use Rattle.desk_work.specs.Dealing.{AreDealt, SameItems, all_of, pile_keys}
use Rattle.desk_work.specs.Work.{Job}
use Rattle.desk_work.proofs.DealLaws.{same_all, same_moved, same_then}
use Rattle.desk_work.proofs.Lists.{each_append, each_at, each_set, set_stands, stands_either, stands_left, stands_right}
use Rattle.desk_work.proofs.ProgressLaws.{set_same}

-- The same items in some order

pub same_equal : {X : Type 0} (xs ys : List X) → xs ≡ ys → SameItems xs ys
same_equal {X} xs ys same = subst (λ (list : List X). SameItems xs list) same (same_all xs)

pub same_behind : {X : Type 0} (first xs ys : List X) → SameItems xs ys → SameItems (first ++ xs) (first ++ ys)
same_behind {X} first xs ys same = record {
  weigh = λ weight.
      let a = sum_by-append weight first xs in
      let b = sum_by-append weight first ys in
      let c = same.weigh weight in
      omega arith;
  there = λ x stands. ⊎_elim
      (λ here. stands_left first ys x here)
      (λ here. stands_right first ys x (same.there x here))
      (stands_either first xs stands.0 x stands.1);
  back = λ x stands. ⊎_elim
      (λ here. stands_left first xs x here)
      (λ here. stands_right first xs x (same.back x here))
      (stands_either first ys stands.0 x stands.1);
}

-- the item on top of a list among others goes to the front of all
pub same_top : (piles : List (List Job)) (home : ℕ) (low : List Job) (top : Job)
    → slice_get piles home ≡ Some (low ++ top ∷ []) → SameItems (all_of piles) (top ∷ all_of (set piles home low))
same_top [] home low top at = absurd (none-some (low ++ top ∷ []) at)
same_top (pile ∷ piles) zero low top at =
    subst (λ (one : List Job). SameItems (one ++ all_of piles) (top ∷ (low ++ all_of piles)))
    (sym (same_Some pile (low ++ top ∷ []) at)) (same_moved [] low (all_of piles) top)
same_top (pile ∷ piles) (suc home) low top at =
    let rest = all_of (set piles home low) in
    same_then (pile ++ all_of piles) (pile ++ top ∷ rest) (top ∷ (pile ++ rest))
    (same_behind pile (all_of piles) (top ∷ rest) (same_top piles home low top at))
    (subst (λ (list : List Job). SameItems list (top ∷ (pile ++ rest))) (append_assoc pile (top ∷ []) rest)
    (same_moved [] pile rest top))

-- What was dealt

some_mapped : {X Y : Type 0} (f : X → Y) (xs : List X) (k : ℕ) (y : Y) → slice_get (map f xs) k ≡ Some y
    → (x : X) × (slice_get xs k ≡ Some x) × (f x ≡ y)
some_mapped f [] k y e = absurd (none-some y e)
some_mapped f (x ∷ xs) zero y e = (x, refl, same_Some (f x) y e)
some_mapped f (x ∷ xs) (suc k) y e = some_mapped f xs k y e

record HasTop (jobs : List Job) (keys : List FactKey) (key : FactKey) : Type 0 where
  low : List Job
  top : Job
  is : jobs ≡ low ++ top ∷ []
  keys_are : keys_of low ≡ keys
  key_is : top.key ≡ key

has_top : (jobs : List Job) (keys : List FactKey) (key : FactKey) → keys_of jobs ≡ keys ++ key ∷ [] → HasTop jobs keys key
has_top [] [] key e = absurd cc
has_top [] (one ∷ keys) key e = absurd cc
has_top (job ∷ []) [] key e = record { low = []; top = job; is = refl; keys_are = refl; key_is = cc }
has_top (job ∷ other ∷ jobs) [] key e = absurd cc
has_top (job ∷ jobs) (one ∷ keys) key e =
    let rest : keys_of jobs ≡ keys ++ key ∷ [] = cc in
    let here : job.key ≡ one = cc in
    let r = has_top jobs keys key rest in
    record {
      low = job ∷ r.low;
      top = r.top;
      is = ap (λ (list : List Job). job ∷ list) r.is;
      keys_are = ap (λ (k : FactKey). k ∷ keys_of r.low) here ∙ ap (λ (ks : List FactKey). one ∷ ks) r.keys_are;
      key_is = r.key_is;
    }

none_all : (piles : List (List Job)) → Each (λ (pile : List FactKey). pile ≡ []) (pile_keys piles) → all_of piles ≡ []
none_all [] none = refl
none_all ([] ∷ piles) none = none_all piles none.1
none_all ((job ∷ pile) ∷ piles) none = let e : job.key ∷ keys_of pile ≡ [] = none.0 in absurd cc

-- the parts of all piles in the order in which they were before they were dealt
pub record InOrder (keys : List FactKey) (piles : List (List Job)) : Type 0 where
  pub jobs : List Job
  pub keys_are : keys_of jobs ≡ keys
  pub same : SameItems (all_of piles) jobs

pub undealt : (homes : List ℕ) (keys : List FactKey) (piles : List (List Job)) → AreDealt homes keys (pile_keys piles)
    → InOrder keys piles
undealt [] [] piles dealt = record { jobs = []; keys_are = refl; same = same_equal (all_of piles) [] (none_all piles dealt) }
undealt [] (key ∷ keys) piles dealt = absurd dealt
undealt (home ∷ homes) [] piles dealt = absurd dealt
undealt (home ∷ homes) (key ∷ keys) piles dealt =
    let there = some_mapped keys_of piles home (dealt.0 ++ key ∷ []) dealt.1 in
    let top = has_top there.0 dealt.0 key there.2 in
    let at : slice_get piles home ≡ Some (top.low ++ top.top ∷ []) =
    there.1 ∙ ap (λ (pile : List Job). Some pile) top.is in
    let left : set (pile_keys piles) home dealt.0 ≡ pile_keys (set piles home top.low) =
    ap (λ (ks : List FactKey). set (pile_keys piles) home ks) (sym top.keys_are)
    ∙ sym (map-set keys_of piles home top.low) in
    let rest = undealt homes keys (set piles home top.low)
    (subst (λ (ps : List (List FactKey)). AreDealt homes keys ps) left dealt.2) in
    record {
      jobs = top.top ∷ rest.jobs;
      keys_are = ap (λ (k : FactKey). k ∷ keys_of rest.jobs) top.key_is
          ∙ ap (λ (ks : List FactKey). key ∷ ks) rest.keys_are;
      same = same_then (all_of piles) (top.top ∷ all_of (set piles home top.low)) (top.top ∷ rest.jobs)
          (same_top piles home top.low top.top at)
          (same_behind (top.top ∷ []) (all_of (set piles home top.low)) rest.jobs rest.same);
    }

-- what is so of each part is so of each on the piles
pub dealt_each : (P : FactKey → Type 0) (homes : List ℕ) (keys : List FactKey) (piles : List (List FactKey))
    → AreDealt homes keys piles → Each P keys → Each (λ (pile : List FactKey). Each P pile) piles
dealt_each P [] [] piles dealt each = empty_each piles dealt
  where
    empty_each : (ps : List (List FactKey)) → Each (λ (pile : List FactKey). pile ≡ []) ps
        → Each (λ (pile : List FactKey). Each P pile) ps
    empty_each [] none = tt
    empty_each (pile ∷ ps) none = (subst (λ (one : List FactKey). Each P one) (sym none.0) tt, empty_each ps none.1)
dealt_each P [] (key ∷ keys) piles dealt each = absurd dealt
dealt_each P (home ∷ homes) [] piles dealt each = absurd dealt
dealt_each P (home ∷ homes) (key ∷ keys) piles dealt each =
    let PileP : List FactKey → Type 0 = λ (pile : List FactKey). Each P pile in
    let low = dealt.0 in
    let fewer = set piles home low in
    let rest = dealt_each P homes keys fewer dealt.2 each.1 in
    let below : Each P low = each_at PileP fewer home low rest (set_stands piles home (low ++ key ∷ []) low dealt.1) in
    let back : set fewer home (low ++ key ∷ []) ≡ piles =
    set-set piles home low (low ++ key ∷ []) ∙ set_same piles home (low ++ key ∷ []) dealt.1 in
    subst (λ (ps : List (List FactKey)). Each PileP ps) back
    (each_set PileP fewer home (low ++ key ∷ []) rest (each_append P low (key ∷ []) below (each.0, tt)))
