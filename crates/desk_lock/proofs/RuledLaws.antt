-- The rule but for the gate, and what keeps it when one party changes.
use Rattle.std.proofs.Common.{◌≡◌, ℕ, ◌+◌, ◌<◌, ◌⊎◌, List, sym, ap, ◌∙◌, subst, inl, inr, ⊎_elim, arith, set, sum_by}
use mathlib.Core.Logic.{dite}
use mathlib.Core.Option.{some, some-injective}
use native.Mathlib.Decide.{ℕ_discrete}
use lib.ListN.{get_elem?}
use Rattle.atomic_table.proofs.Lists.{at_set, set_else, set_here}
use Rattle.desk_core.specs.Book.{BookData}
use Rattle.desk_lock.specs.Knows.{ends, known, serials, spent_view}
use Rattle.desk_lock.specs.Past.{IsCounted, Past, placed}
use Rattle.desk_lock.specs.Rule.{Counts, IsOfPast, Stocked, running_serials}
use Rattle.desk_lock.specs.declared.view.View.{View}
use Rattle.desk_lock.proofs.Weights.{at_within, total_set}

pub record Ruled (past : Past) (book : BookData) (views : List View) : Type 0 where
  pub counted : IsCounted past
  pub stock : Stocked book past
  pub counts : Counts views book past
  pub fits : (by : ℕ) (v : View) → get_elem? views by ≡ some v → IsOfPast past v
  pub longest : (by : ℕ) × (v : View) × (get_elem? views by ≡ some v) × (v.seen ≡ past.log)
  pub spent : (by : ℕ) (v : View) → get_elem? views by ≡ some v → v.parts ≡ 0 → v ≡ spent_view

-- what a step changes of each count
pub record Shifts (v w : View) (book new : BookData) (past then : Past) : Type 0 where
  pub places : (weight : ℕ × ℕ → ℕ) → sum_by weight (known w) + sum_by weight (placed 0 past.log)
      ≡ sum_by weight (known v) + sum_by weight (placed 0 then.log)
  pub draws : (weight : _ → ℕ) → sum_by weight w.drawn + sum_by weight past.draws
      ≡ sum_by weight v.drawn + sum_by weight then.draws
  pub prints : (weight : _ → ℕ) → sum_by weight w.published + sum_by weight past.prints
      ≡ sum_by weight v.published + sum_by weight then.prints
  pub running : (weight : ℕ → ℕ) → sum_by weight (serials w.drawn) + sum_by weight (ends v)
      + sum_by weight (running_serials book)
      ≡ sum_by weight (serials v.drawn) + sum_by weight (ends w) + sum_by weight (running_serials new)
  pub parts : w.parts ≡ v.parts

-- the history is the longest still: the party that changed has seen it, or nothing was added and it has seen as much
abbrev pub LongestStays : View → View → Past → Past → Type 0
LongestStays v w past then = (w.seen ≡ then.log) ⊎ ((then.log ≡ past.log) × (w.seen ≡ v.seen))

counts_set : (past then : Past) (book new : BookData) (views : List View) (by : ℕ) (v w : View)
    → get_elem? views by ≡ some v → Shifts v w book new past then → Counts views book past
    → Counts (set views by w) new then
counts_set past then book new views by v w at shifts counts = record {
  places = λ weight. let t = total_set (λ u. sum_by weight (known u)) views by v w at in
      let c = counts.places weight in let s = shifts.places weight in omega arith;
  draws = λ weight. let t = total_set (λ u. sum_by weight u.drawn) views by v w at in
      let c = counts.draws weight in let s = shifts.draws weight in omega arith;
  prints = λ weight. let t = total_set (λ u. sum_by weight u.published) views by v w at in
      let c = counts.prints weight in let s = shifts.prints weight in omega arith;
  running = λ weight. let t = total_set (λ u. sum_by weight (serials u.drawn)) views by v w at in
      let d = total_set (λ u. sum_by weight (ends u)) views by v w at in
      let c = counts.running weight in let s = shifts.running weight in omega arith;
  parts = (let t = total_set (λ (u : View). u.parts) views by v w at in let c = counts.parts in
      let s = shifts.parts in omega arith);
}

longest_set : (past then : Past) (book : BookData) (views : List View) (by : ℕ) (v w : View)
    → get_elem? views by ≡ some v
    → Ruled past book views → LongestStays v w past then
    → (at : ℕ) × (u : View) × (get_elem? (set views by w) at ≡ some u) × (u.seen ≡ then.log)
longest_set past then book views by v w at ruled (inl seen) =
    (by, w, set_here views by w (at_within views by v at), seen)
longest_set past then book views by v w at ruled (inr stays) =
    let l = ruled.longest in
    dite (ℕ_discrete l.0 by)
    (λ same. let is : v.seen ≡ l.1.seen = seen_at views by v l.1 at (sym (ap (λ (n : ℕ). get_elem? views n) same)
    ∙ l.2) in
    (by, w, set_here views by w (at_within views by v at), stays.1 ∙ is ∙ l.3 ∙ sym stays.0))
    (λ differ. (l.0, l.1, set_else views by l.0 w differ ∙ l.2, l.3 ∙ sym stays.0))
  where
    seen_at : (vs : List View) (n : ℕ) (a b : View) → get_elem? vs n ≡ some a → get_elem? vs n ≡ some b
        → a.seen ≡ b.seen
    seen_at vs n a b e f = ap (λ (u : View). u.seen) (some-injective a b (sym e ∙ f))

-- one party changes, and with it the book and the past
pub ruled_set : (past then : Past) (book new : BookData) (views : List View) (by : ℕ) (v w : View)
    → get_elem? views by ≡ some v → Ruled past book views → IsCounted then → Stocked new then
    → Shifts v w book new past then → IsOfPast then w → ((u : View) → IsOfPast past u → IsOfPast then u)
    → LongestStays v w past then → 0 < w.parts → Ruled then new (set views by w)
ruled_set past then book new views by v w at ruled counted stock shifts fits others stays some_part = record {
  counted = counted;
  stock = stock;
  counts = counts_set past then book new views by v w at shifts ruled.counts;
  fits = λ other u e. ⊎_elim
      (λ here. subst (λ (x : View). IsOfPast then x) here.1 fits)
      (λ there. others u (ruled.fits other u there.1))
      (at_set views by other w u e);
  longest = longest_set past then book views by v w at ruled stays;
  spent = λ other u e none. ⊎_elim
      (λ here. absurd (let p : w.parts ≡ u.parts = ap (λ (x : View). x.parts) here.1 in omega arith))
      (λ there. ruled.spent other u there.1 none)
      (at_set views by other w u e);
}
