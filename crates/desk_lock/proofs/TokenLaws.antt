-- Splits and joins of parties keep the rule.
use Rattle.std.proofs.Common.{◌≡◌, ◌≢◌, ℕ, ◌-◌, ◌<◌, ◌⊎◌, List, [], ◌∷◌, ◌++◌, None, refl, sym, ap, ◌∙◌, subst, inl, inr, ⊎_elim, arith, set, sum_by}
use Rattle.std.proofs.lemmas.List.Sums.{sum_by_push}
use Rattle.std.proofs.lemmas.Option.{none-some}
use mathlib.Core.Logic.{dite}
use mathlib.Core.Option.{some, some-injective}
use native.Mathlib.Decide.{ℕ_discrete}
use lib.ListN.{get_elem?}
use Rattle.atomic_table.specs.Table.{Splits}
use Rattle.atomic_table.proofs.Lists.{at_longer, at_set, at_snoc, set_else, set_here}
use Rattle.desk_core.specs.Book.{BookData}
use Rattle.desk_lock.specs.Knows.{arrived, ends, known, parted, serials}
use Rattle.desk_lock.specs.Past.{Past}
use Rattle.desk_lock.specs.Rule.{Counts, IsOfPast, RuleKept}
use Rattle.desk_lock.specs.declared.view.View.{View}
use Rattle.desk_lock.proofs.GateLaws.{kept_of, ruled_of}
use Rattle.desk_lock.proofs.RuledLaws.{Ruled}
use Rattle.desk_lock.proofs.Weights.{at_within, total_set}

-- A split

module _ (past : Past) (book : BookData) (views : List View) (by : ℕ) (v : View) (session parts : ℕ)
    (at : get_elem? views by ≡ some v) (enough : parts < v.parts) (some_part : 0 < parts) where
  abbrev split_views : List View
  split_views = set views by (parted v parts) ++ arrived v session parts ∷ []

  -- each of them is the one that gave, the new one, or as it was
  split_cases : (other : ℕ) (u : View) → get_elem? split_views other ≡ some u
      → ((parted v parts ≡ u) ⊎ (arrived v session parts ≡ u)) ⊎ ((other ≢ by) × (get_elem? views other ≡ some u))
  split_cases other u e = ⊎_elim
      (λ there. ⊎_elim (λ here. inl (inl here.1)) (λ old. inr old)
      (at_set views by other (parted v parts) u there))
      (λ new. inl (inr new))
      (at_snoc (set views by (parted v parts)) (arrived v session parts) u other e)

  -- what each party has together is as before if the one that gave has as much, and the new one nothing
  split_total : (f : View → ℕ) → f (parted v parts) ≡ f v → f (arrived v session parts) ≡ 0
      → sum_by f split_views ≡ sum_by f views
  split_total f same none =
      let t = total_set f views by v (parted v parts) at in
      let p = sum_by_push f (set views by (parted v parts)) (arrived v session parts) in omega arith

  split_counts : Counts views book past → Counts split_views book past
  split_counts counts = record {
    places = λ weight. split_total (λ u. sum_by weight (known u)) refl refl ∙ counts.places weight;
    draws = λ weight. split_total (λ u. sum_by weight u.drawn) refl refl ∙ counts.draws weight;
    prints = λ weight. split_total (λ u. sum_by weight u.published) refl refl ∙ counts.prints weight;
    running = λ weight. let d = split_total (λ u. sum_by weight (serials u.drawn)) refl refl in
        let e = split_total (λ u. sum_by weight (ends u)) refl refl in let c = counts.running weight in omega arith;
    parts = (let t = total_set (λ (u : View). u.parts) views by v (parted v parts) at in
        let p = sum_by_push (λ (u : View). u.parts) (set views by (parted v parts)) (arrived v session parts) in
        let c = counts.parts in omega arith);
  }

  fits_parted : IsOfPast past v → IsOfPast past (parted v parts)
  fits_parted fits = record {
    seen = fits.seen;
    also = fits.also;
    limits = λ left. fits.limits (omega arith);
    mine = fits.mine;
    theirs = fits.theirs;
    drawn = fits.drawn;
    stamps = fits.stamps;
    published = fits.published;
    rows = fits.rows;
    met = fits.met;
    own = fits.own;
  }

  fits_arrived : IsOfPast past v → IsOfPast past (arrived v session parts)
  fits_arrived fits = record {
    seen = fits.seen;
    also = (past.log, refl);
    limits = λ got. fits.limits (omega arith);
    mine = tt;
    theirs = tt;
    drawn = tt;
    stamps = tt;
    published = tt;
    rows = fits.rows;
    met = tt;
    own = λ weight. omega arith;
  }

  split_ruled : Ruled past book views → Ruled past book split_views
  split_ruled ruled = let fits = ruled.fits by v at in record {
    counted = ruled.counted;
    stock = ruled.stock;
    counts = split_counts ruled.counts;
    fits = λ other u e. ⊎_elim
        (λ changed. ⊎_elim
        (λ left. subst (λ (x : View). IsOfPast past x) left (fits_parted fits))
        (λ new. subst (λ (x : View). IsOfPast past x) new (fits_arrived fits)) changed)
        (λ old. ruled.fits other u old.1)
        (split_cases other u e);
    longest = (let l = ruled.longest in dite (ℕ_discrete l.0 by)
        (λ same. (
          by,
          parted v parts,
          at_longer (set views by (parted v parts)) (arrived v session parts ∷ []) by (parted v parts)
              (set_here views by (parted v parts) (at_within views by v at)),
          ap (λ (u : View). u.seen) (some-injective v l.1
              (sym at ∙ ap (λ (n : ℕ). get_elem? views n) (sym same) ∙ l.2)) ∙ l.3,
        ))
        (λ differ. (
          l.0,
          l.1,
          at_longer (set views by (parted v parts)) (arrived v session parts ∷ []) l.0 l.1
              (set_else views by l.0 (parted v parts) differ ∙ l.2),
          l.3,
        )));
    spent = λ other u e none. ⊎_elim
        (λ changed. ⊎_elim
        (λ left. absurd (let p : v.parts - parts ≡ u.parts = ap (λ (x : View). x.parts) left in omega arith))
        (λ new. absurd (let p : parts ≡ u.parts = ap (λ (x : View). x.parts) new in omega arith)) changed)
        (λ old. ruled.spent other u old.1 none)
        (split_cases other u e);
  }

  -- a party without the book stays so
  split_free : ((other : ℕ) (u : View) → get_elem? views other ≡ some u → u.held ≡ None)
      → (other : ℕ) (u : View) → get_elem? split_views other ≡ some u → u.held ≡ None
  split_free free other u e = ⊎_elim
      (λ changed. ⊎_elim
      (λ left. sym (ap (λ (x : View). x.held) left) ∙ free by v at)
      (λ new. sym (ap (λ (x : View). x.held) new)) changed)
      (λ old. free other u old.1)
      (split_cases other u e)

module _ {B : Type 0} (shown : B → BookData) where
  -- a party that does not hold the gate gives parts to a new one
  pub splits : (by : ℕ) (v : View) (session parts : ℕ) → parts < v.parts → 0 < parts → v.held ≡ None
      → Splits (RuleKept shown) by v (parted v parts) (arrived v session parts)
  splits by v session parts enough some_part free s h at =
      kept_of shown _ h.past h.book h.one
      (⊎_elim
      (λ open_gate. inl (record {
        word = open_gate.word;
        inside = open_gate.inside;
        home = open_gate.home;
        is_book = open_gate.is_book;
        free = split_free h.past h.book s.views by v session parts at enough some_part open_gate.free;
      }))
      (λ shut_gate. inr (record {
        word = shut_gate.word;
        holder = shut_gate.holder;
        holding = shut_gate.holding;
        there = at_longer (set s.views by (parted v parts)) (arrived v session parts ∷ []) shut_gate.holder
            shut_gate.holding (set_else s.views by shut_gate.holder (parted v parts)
            (λ same. absurd (none-some h.book (sym free
            ∙ ap (λ (u : View). u.held) (some-injective v shut_gate.holding
            (sym at ∙ ap (λ (n : ℕ). get_elem? s.views n) (sym same) ∙ shut_gate.there)) ∙ shut_gate.holds)))
            ∙ shut_gate.there);
        holds = shut_gate.holds;
        others = λ other u differ e. ⊎_elim
            (λ changed. ⊎_elim
            (λ left. sym (ap (λ (x : View). x.held) left) ∙ free)
            (λ new. sym (ap (λ (x : View). x.held) new)) changed)
            (λ old. shut_gate.others other u differ old.1)
            (split_cases h.past h.book s.views by v session parts at enough some_part other u e);
      }))
      h.gate)
      (split_ruled h.past h.book s.views by v session parts at enough some_part (ruled_of shown s h))
