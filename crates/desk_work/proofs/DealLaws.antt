-- Parts are dealt, the last of all first, and taken again, the first of all first.
use Rattle.std.proofs.Common.{◌≡◌, ℕ, List, [], ◌∷◌, ◌++◌, Some, None, refl, sym, ap, ◌∙◌, subst, ⊎_elim, arith, set, set-set, sum_by}
use Rattle.std.specs.List.{slice_get}
use Rattle.std.specs.Option.{option_map}
use Rattle.std.proofs.lemmas.List.{map-append, map-set}
use Rattle.std.proofs.lemmas.List.Sums.{sum_by-append}
use Rattle.std.proofs.lemmas.Option.{slice_get-map}
use Rattle.dita_doc.specs.declared.fact.FactKey.{FactKey}
use Rattle.facts.specs.Rows.{Stands}
use Rattle.desk_lock.specs.Lists.{Each}
use Rattle.desk_work.specs.Attempts.{keys_of}
use Rattle.desk_work.specs.Dealing.{AreDealt, AreNew, IsPut, SameItems, pile_keys}
use Rattle.desk_work.specs.Work.{Job}
use Rattle.desk_work.proofs.Lists.{each_append, each_at, each_set, set_stands, stands_either, stands_left, stands_right}
use Rattle.desk_work.proofs.ProgressLaws.{set_same}

-- Dealing

pub keys_at : (piles : List (List Job)) (home : ℕ) (pile : List Job) → slice_get piles home ≡ Some pile
    → slice_get (pile_keys piles) home ≡ Some (keys_of pile)
keys_at piles home pile at = slice_get-map keys_of piles home ∙ ap (option_map keys_of) at

pub keys_set : (piles : List (List Job)) (home : ℕ) (pile : List Job)
    → pile_keys (set piles home pile) ≡ set (pile_keys piles) home (keys_of pile)
keys_set piles home pile = map-set keys_of piles home pile

pub keys_push : (pile : List Job) (job : Job) → keys_of (pile ++ job ∷ []) ≡ keys_of pile ++ job.key ∷ []
keys_push pile job = map-append (λ (one : Job). one.key) pile (job ∷ [])

pub dealt_put : (homes : List ℕ) (keys : List FactKey) (piles more : List (List Job)) (home : ℕ) (key : FactKey)
    → AreDealt homes keys (pile_keys piles) → IsPut piles home key more
    → AreDealt (home ∷ homes) (key ∷ keys) (pile_keys more)
dealt_put homes keys piles more home key dealt put =
    let job : Job = record { key = key; row = None } in
    let topped : pile_keys more ≡ set (pile_keys piles) home (keys_of put.pile ++ key ∷ []) =
    ap pile_keys put.put ∙ keys_set piles home (put.pile ++ job ∷ [])
    ∙ ap (λ (ks : List FactKey). set (pile_keys piles) home ks) (keys_push put.pile job) in
    let stood = keys_at piles home put.pile put.stood in (
      keys_of put.pile,
      ap (λ (ps : List (List FactKey)). slice_get ps home) topped
          ∙ set_stands (pile_keys piles) home (keys_of put.pile) (keys_of put.pile ++ key ∷ []) stood,
      subst (λ (ps : List (List FactKey)). AreDealt homes keys ps)
          (sym (ap (λ (ps : List (List FactKey)). set ps home (keys_of put.pile)) topped
          ∙ set-set (pile_keys piles) home (keys_of put.pile ++ key ∷ []) (keys_of put.pile)
          ∙ set_same (pile_keys piles) home (keys_of put.pile) stood)) dealt,
    )

pub new_put : (piles more : List (List Job)) (home : ℕ) (key : FactKey) → Each AreNew piles → IsPut piles home key more
    → Each AreNew more
new_put piles more home key new put = subst (λ (ps : List (List Job)). Each AreNew ps) (sym put.put)
    (each_set AreNew piles home (put.pile ++ record { key = key; row = None } ∷ []) new
    (each_append (λ (job : Job). job.row ≡ None) put.pile (record { key = key; row = None } ∷ [])
    (each_at AreNew piles home put.pile new put.stood) (refl, tt)))

-- Taking

pub same_all : {X : Type 0} (xs : List X) → SameItems xs xs
same_all xs = record { weigh = λ weight. refl; there = λ x stands. stands; back = λ x stands. stands }

pub same_then : {X : Type 0} (xs ys zs : List X) → SameItems xs ys → SameItems ys zs → SameItems xs zs
same_then xs ys zs first then = record {
  weigh = λ weight. first.weigh weight ∙ then.weigh weight;
  there = λ x stands. then.there x (first.there x stands);
  back = λ x stands. first.back x (then.back x stands);
}

-- an item of a list that moves to the front of what follows some others
pub same_moved : {X : Type 0} (before xs ys : List X) (x : X)
    → SameItems (before ++ (xs ++ x ∷ []) ++ ys) ((before ++ x ∷ []) ++ (xs ++ ys))
same_moved {X} before xs ys x = record {
  weigh = λ weight. moved_weighs weight;
  there = λ y stands. there_moved y stands;
  back = λ y stands. back_moved y stands;
} where
  moved_weighs : (weight : X → ℕ)
      → sum_by weight (before ++ (xs ++ x ∷ []) ++ ys) ≡ sum_by weight ((before ++ x ∷ []) ++ (xs ++ ys))
  moved_weighs weight =
      let a = sum_by-append weight (before ++ (xs ++ x ∷ [])) ys in
      let b = sum_by-append weight before (xs ++ x ∷ []) in
      let c = sum_by-append weight xs (x ∷ []) in
      let d = sum_by-append weight (before ++ x ∷ []) (xs ++ ys) in
      let e = sum_by-append weight before (x ∷ []) in
      let f = sum_by-append weight xs ys in
      omega arith

  there_moved : (y : X) → Stands (before ++ (xs ++ x ∷ []) ++ ys) y → Stands ((before ++ x ∷ []) ++ (xs ++ ys)) y
  there_moved y stands = ⊎_elim
      (λ front. ⊎_elim
      (λ old. stands_left (before ++ x ∷ []) (xs ++ ys) y (stands_left before (x ∷ []) y old))
      (λ pile. ⊎_elim
      (λ low. stands_right (before ++ x ∷ []) (xs ++ ys) y (stands_left xs ys y low))
      (λ top. stands_left (before ++ x ∷ []) (xs ++ ys) y (stands_right before (x ∷ []) y top))
      (stands_either xs (x ∷ []) pile.0 y pile.1))
      (stands_either before (xs ++ x ∷ []) front.0 y front.1))
      (λ rest. stands_right (before ++ x ∷ []) (xs ++ ys) y (stands_right xs ys y rest))
      (stands_either (before ++ (xs ++ x ∷ [])) ys stands.0 y stands.1)

  back_moved : (y : X) → Stands ((before ++ x ∷ []) ++ (xs ++ ys)) y → Stands (before ++ (xs ++ x ∷ []) ++ ys) y
  back_moved y stands = ⊎_elim
      (λ front. stands_left (before ++ (xs ++ x ∷ [])) ys y (⊎_elim
      (λ old. stands_left before (xs ++ x ∷ []) y old)
      (λ top. stands_right before (xs ++ x ∷ []) y (stands_right xs (x ∷ []) y top))
      (stands_either before (x ∷ []) front.0 y front.1)))
      (λ rest. ⊎_elim
      (λ low. stands_left (before ++ (xs ++ x ∷ [])) ys y
      (stands_right before (xs ++ x ∷ []) y (stands_left xs (x ∷ []) y low)))
      (λ more. stands_right (before ++ (xs ++ x ∷ [])) ys y more)
      (stands_either xs ys rest.0 y rest.1))
      (stands_either (before ++ x ∷ []) (xs ++ ys) stands.0 y stands.1)
