-- The end of a claim keeps the rule.
use Rattle.std.proofs.Common.{◌≡◌, ◌≢◌, ℕ, zero, suc, ◌+◌, ◌<◌, ◌≤◌, not, cond, eqb, List, [], ◌∷◌, ◌++◌, Some, refl, sym, ap, subst, inl, arith, set, eq-eqb, ne_eqb, sum_by}
use Rattle.std.specs.List.{slice_get}
use Rattle.std.proofs.lemmas.List.{append-nil}
use Rattle.std.proofs.lemmas.List.Sums.{sum_by-append, sum_by-cons, sum_by_push}
use Rattle.std.proofs.lemmas.Option.{none-some, same_Some}
use mathlib.Core.Logic.{dite}
use mathlib.Core.Option.{some}
use native.Mathlib.Decide.{ℕ_discrete}
use lib.ListN.{get_elem?}
use Rattle.facts.specs.Rows.{Claim, Running, Stands, claim_of}
use Rattle.facts.specs.Table.{others}
use Rattle.desk_core.specs.Book.{BookData}
use Rattle.desk_lock.specs.Knows.{ends, let_go, row_serials, serials}
use Rattle.desk_lock.specs.Lists.{Each, IsNoneOf}
use Rattle.desk_lock.specs.Past.{IsDrawn, Past}
use Rattle.desk_lock.specs.Rule.{IsOfPast}
use Rattle.desk_lock.specs.declared.view.View.{View}
use Rattle.desk_lock.proofs.EventLaws.{stamps_seen}
use Rattle.desk_lock.proofs.LearnsLaws.{drawn_once, none_ended}
use Rattle.desk_lock.proofs.RuledLaws.{Ruled, ruled_set}
use Rattle.desk_lock.proofs.Weights.{at_weighs, stands_weighs, sum_by-map, tick, tick_is, tick_other}

-- A weight without one number

abbrev without : (ℕ → ℕ) → ℕ → ℕ → ℕ
without weight number n = cond (eqb n number) 0 (weight n)

without_is : (weight : ℕ → ℕ) (number n : ℕ) → n ≡ number → without weight number n ≡ 0
without_is weight number n e = ap (λ b. cond b 0 (weight n)) (eq-eqb n number e)

without_other : (weight : ℕ → ℕ) (number n : ℕ) → n ≢ number → without weight number n ≡ weight n
without_other weight number n differ = ap (λ b. cond b 0 (weight n)) (ne_eqb n number differ)

without_below : (weight : ℕ → ℕ) (number : ℕ) (xs : List ℕ) → sum_by (without weight number) xs ≤ sum_by weight xs
without_below weight number [] = omega arith
without_below weight number (x ∷ xs) =
    let c = sum_by-cons (without weight number) x xs in let d = sum_by-cons weight x xs in
    let r = without_below weight number xs in
    dite (ℕ_discrete x number)
    (λ same. let w = without_is weight number x same in omega arith)
    (λ differ. let w = without_other weight number x differ in omega arith)

without_none : (weight : ℕ → ℕ) (number : ℕ) (xs : List ℕ) → IsNoneOf xs number
    → sum_by (without weight number) xs ≡ sum_by weight xs
without_none weight number [] none = refl
without_none weight number (x ∷ xs) none =
    let c = sum_by-cons (without weight number) x xs in let d = sum_by-cons weight x xs in
    let r = without_none weight number xs none.1 in let w = without_other weight number x none.0 in omega arith

without_one : (weight : ℕ → ℕ) (number : ℕ) (xs : List ℕ) (k : ℕ) → slice_get xs k ≡ Some number
    → sum_by (without weight number) xs + weight number ≤ sum_by weight xs
without_one weight number [] k e = absurd (none-some number e)
without_one weight number (x ∷ xs) zero e =
    let c = sum_by-cons (without weight number) x xs in let d = sum_by-cons weight x xs in
    let same = same_Some x number e in let w = without_is weight number x same in
    let is : weight x ≡ weight number = ap weight same in
    let r = without_below weight number xs in omega arith
without_one weight number (x ∷ xs) (suc k) e =
    let c = sum_by-cons (without weight number) x xs in let d = sum_by-cons weight x xs in
    let r = without_one weight number xs k e in
    dite (ℕ_discrete x number)
    (λ same. let w = without_is weight number x same in omega arith)
    (λ differ. let w = without_other weight number x differ in omega arith)

-- one that stands among the second and not among the first may be added to the first
pub below_more : (xs ys : List ℕ) (number k : ℕ) → IsNoneOf xs number → slice_get ys k ≡ Some number
    → ((weight : ℕ → ℕ) → sum_by weight xs ≤ sum_by weight ys)
    → (weight : ℕ → ℕ) → sum_by weight xs + weight number ≤ sum_by weight ys
below_more xs ys number k none there below weight =
    let w = without_none weight number xs none in let o = without_one weight number ys k there in
    let b = below (without weight number) in omega arith

-- Claims without one

pub each_others : (P : Running → Type 0) (serial : ℕ) (xs : List Running) → Each P xs → Each P (others serial xs)
each_others P serial [] each = tt
each_others P serial (x ∷ xs) each = dite (ℕ_discrete x.serial serial)
    (λ same. subst (λ b. Each P (cond (not b) (x ∷ others serial xs) (others serial xs)))
    (sym (eq-eqb x.serial serial same))
    (each_others P serial xs each.1))
    (λ differ. subst (λ b. Each P (cond (not b) (x ∷ others serial xs) (others serial xs)))
    (sym (ne_eqb x.serial serial differ)) (each.0, each_others P serial xs each.1))

abbrev pub serial_of : Running → ℕ
serial_of one = one.serial

others_none : (weight : ℕ → ℕ) (serial : ℕ) (xs : List Running) → sum_by (λ x. tick serial (serial_of x)) xs ≡ 0
    → sum_by (λ x. weight (serial_of x)) (others serial xs) ≡ sum_by (λ x. weight (serial_of x)) xs
others_none weight serial [] none = refl
others_none weight serial (x ∷ xs) none =
    let t = sum_by-cons (λ x. tick serial (serial_of x)) x xs in
    dite (ℕ_discrete x.serial serial)
    (λ same. let one = tick_is serial x.serial same in absurd (omega arith))
    (λ differ.
    let kept : others serial (x ∷ xs) ≡ x ∷ others serial xs =
    ap (λ b. cond (not b) (x ∷ others serial xs) (others serial xs)) (ne_eqb x.serial serial differ) in
    let weighs = ap (λ (list : List Running). sum_by (λ x. weight (serial_of x)) list) kept in
    let c = sum_by-cons (λ x. weight (serial_of x)) x (others serial xs) in
    let d = sum_by-cons (λ x. weight (serial_of x)) x xs in
    let r = others_none weight serial xs (omega arith) in omega arith)

pub others_one : (weight : ℕ → ℕ) (serial : ℕ) (xs : List Running) → sum_by (λ x. tick serial (serial_of x)) xs ≡ 1
    → sum_by (λ x. weight (serial_of x)) xs ≡ sum_by (λ x. weight (serial_of x)) (others serial xs) + weight serial
others_one weight serial [] one = absurd (omega arith)
others_one weight serial (x ∷ xs) one =
    let t = sum_by-cons (λ x. tick serial (serial_of x)) x xs in
    let d = sum_by-cons (λ x. weight (serial_of x)) x xs in
    dite (ℕ_discrete x.serial serial)
    (λ same.
    let gone : others serial (x ∷ xs) ≡ others serial xs =
    ap (λ b. cond (not b) (x ∷ others serial xs) (others serial xs)) (eq-eqb x.serial serial same) in
    let weighs = ap (λ (list : List Running). sum_by (λ x. weight (serial_of x)) list) gone in
    let ticks = tick_is serial x.serial same in let is : weight x.serial ≡ weight serial = ap weight same in
    let r = others_none weight serial xs (omega arith) in omega arith)
    (λ differ.
    let kept : others serial (x ∷ xs) ≡ x ∷ others serial xs =
    ap (λ b. cond (not b) (x ∷ others serial xs) (others serial xs)) (ne_eqb x.serial serial differ) in
    let weighs = ap (λ (list : List Running). sum_by (λ x. weight (serial_of x)) list) kept in
    let ticks = tick_other serial x.serial differ in
    let c = sum_by-cons (λ x. weight (serial_of x)) x (others serial xs) in
    let r = others_one weight serial xs (omega arith) in omega arith)

-- A release

module _ (past : Past) (book : BookData) (views : List View) (by : ℕ) (v : View) (at : get_elem? views by ≡ some v)
    (some_part : 0 < v.parts) (ruled : Ruled past book views) (claim : Claim) (stands : Stands v.drawn claim)
    (none : IsNoneOf (ends v) claim.serial) where
  -- the claim runs once
  pub runs_once : sum_by (λ x. tick claim.serial (serial_of x)) book.table.running ≡ 1
  runs_once =
      let ended = none_ended past book views ruled.counted ruled.stock ruled.counts ruled.fits by v at claim stands none in
      let once = drawn_once past book views ruled.counted ruled.stock ruled.counts ruled.fits claim.serial in
      let m = sum_by-map (tick claim.serial) (λ (one : Claim). one.serial) v.drawn in
      let here = stands_weighs (λ (one : Claim). tick claim.serial one.serial) v.drawn stands.0 claim stands.1 in
      let tick_one = tick_is claim.serial claim.serial refl in
      let mine = at_weighs (λ (u : View). sum_by (tick claim.serial) (serials u.drawn)) views by v at in
      let alike = ruled.counts.running (tick claim.serial) in
      let r = sum_by-map (tick claim.serial) (λ (one : Running). one.serial) book.table.running in omega arith

  pub serial_stands : slice_get (serials v.drawn) stands.0 ≡ Some claim.serial
  serial_stands = get_map v.drawn stands.0 stands.1
    where
      get_map : (claims : List Claim) (k : ℕ) → slice_get claims k ≡ Some claim
          → slice_get (serials claims) k ≡ Some claim.serial
      get_map [] k e = absurd (none-some claim e)
      get_map (c ∷ claims) zero e = ap (λ (n : ℕ). Some n) (ap (λ (x : Claim). x.serial) (same_Some c claim e))
      get_map (c ∷ claims) (suc k) e = get_map claims k e

  abbrev pub without_claim : BookData
  without_claim =
      record book { table = record book.table { running = others claim.serial book.table.running } }

  ends_let_go : (weight : ℕ → ℕ) → sum_by weight (ends (let_go v past.log claim.serial))
      ≡ sum_by weight (ends v) + weight claim.serial
  ends_let_go weight =
      let a = sum_by-append weight (row_serials v.published) (v.released ++ claim.serial ∷ []) in
      let b = sum_by-append weight (row_serials v.published) v.released in
      let p = sum_by_push weight v.released claim.serial in omega arith

  fits_let_go : IsOfPast past (let_go v past.log claim.serial)
  fits_let_go = let fits = ruled.fits by v at in record {
    seen = ([], sym (append-nil past.log));
    also = fits.also;
    limits = fits.limits;
    mine = fits.mine;
    theirs = fits.theirs;
    drawn = fits.drawn;
    stamps = stamps_seen past v fits past.log fits.seen;
    published = fits.published;
    rows = fits.rows;
    met = fits.met;
    own = λ weight. let e = ends_let_go weight in
        let m = below_more (ends v) (serials v.drawn) claim.serial stands.0 none serial_stands fits.own weight in
        omega arith;
  }

  pub ruled_let_go : Ruled past without_claim (set views by (let_go v past.log claim.serial))
  ruled_let_go = let stock = ruled.stock in ruled_set past past book without_claim views by v
      (let_go v past.log claim.serial)
      at ruled ruled.counted
      (record {
        history = stock.history;
        limits = stock.limits;
        drawn = stock.drawn;
        running = each_others (λ (one : Running). IsDrawn past.draws (claim_of one)) claim.serial
            book.table.running stock.running;
        dropped = stock.dropped;
        rows = stock.rows;
        over = stock.over;
      })
      (record {
        places = λ weight. refl;
        draws = λ weight. refl;
        prints = λ weight. refl;
        running = λ weight.
            let e = ends_let_go weight in
            let r = sum_by-map weight (λ (one : Running). one.serial) book.table.running in
            let s = sum_by-map weight (λ (one : Running). one.serial) (others claim.serial book.table.running) in
            let o = others_one weight claim.serial book.table.running runs_once in omega arith;
        parts = refl;
      })
      fits_let_go (λ u f. f) (inl refl) some_part
