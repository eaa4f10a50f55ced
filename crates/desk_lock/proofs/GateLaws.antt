-- Shutting the gate and opening it keeps the rule.
use Rattle.std.proofs.Common.{◌≡◌, ℕ, ◌<◌, ◌⊎◌, List, [], ◌∷◌, Option, Some, refl, sym, ap, ◌∙◌, subst, inr, ⊎_elim, arith, length, set, eqb, eq-eqb, ne_eqb, get_or, get_or-set_same, length-set}
use mathlib.Core.Logic.{dite}
use mathlib.Core.Option.{none, some}
use native.Mathlib.Decide.{ℕ_discrete}
use prog.Atomic.{either}
use lib.ListN.{get_elem?}
use Rattle.atomic_table.specs.Table.{Allows, State, keeps, takes}
use Rattle.atomic_table.proofs.Lists.{set_else, set_here, set_again}
use Rattle.desk_core.specs.Book.{BookData}
use Rattle.desk_lock.specs.Knows.{holding}
use Rattle.desk_lock.specs.Learns.{Learns}
use Rattle.desk_lock.specs.Past.{Past}
use Rattle.desk_lock.specs.Rule.{IsOfPast, IsOpen, IsShut, RuleKept}
use Rattle.desk_lock.specs.Steps.{Tries}
use Rattle.desk_lock.specs.declared.view.View.{View}
use Rattle.desk_lock.proofs.LearnsLaws.{learns}
use Rattle.desk_lock.proofs.RuledLaws.{Ruled, ruled_set}
use Rattle.desk_lock.proofs.Weights.{at_within}

module _ {B : Type 0} (shown : B → BookData) where
  pub ruled_of : (s : State (Option B) View) (h : RuleKept shown s) → Ruled h.past h.book s.views
  ruled_of s h = record {
    counted = h.counted;
    stock = h.stock;
    counts = h.counts;
    fits = h.fits;
    longest = h.longest;
    spent = h.spent;
  }

  pub kept_of : (s : State (Option B) View) (past : Past) (book : BookData) → length s.words ≡ 1
      → IsOpen shown s book ⊎ IsShut shown s book → Ruled past book s.views → RuleKept shown s
  kept_of s past book one gate ruled = record {
    past = past;
    book = book;
    one = one;
    gate = gate;
    counted = ruled.counted;
    stock = ruled.stock;
    counts = ruled.counts;
    fits = ruled.fits;
    longest = ruled.longest;
    spent = ruled.spent;
  }

  fits_holding : (past : Past) (v : View) (book : BookData) → IsOfPast past v → IsOfPast past (holding v book)
  fits_holding past v book f = record {
    seen = f.seen;
    also = f.also;
    limits = f.limits;
    mine = f.mine;
    theirs = f.theirs;
    drawn = f.drawn;
    stamps = f.stamps;
    published = f.published;
    rows = f.rows;
    met = f.met;
    own = f.own;
  }

  -- the book is held by a party that had a part
  ruled_holding : (past : Past) (book held : BookData) (views : List View) (by : ℕ) (v : View)
      → get_elem? views by ≡ some v
      → 0 < v.parts → Ruled past book views → Ruled past book (set views by (holding v held))
  ruled_holding past book held views by v at some_part ruled =
      ruled_set past past book book views by v (holding v held) at ruled ruled.counted ruled.stock
      (record {
        places = λ weight. refl;
        draws = λ weight. refl;
        prints = λ weight. refl;
        running = λ weight. refl;
        parts = refl;
      })
      (fits_holding past v held (ruled.fits by v at)) (λ u f. f) (inr (refl, refl)) some_part

  -- if the gate is open, the party shuts it and has the book
  takes_gate : (s : State (Option B) View) (h : RuleKept shown s) (by : ℕ) (v : View) → get_elem? s.views by ≡ some v
      → 0 < v.parts → (open_gate : IsOpen shown s h.book)
      → RuleKept shown (record {
        words = set s.words 0 1;
        homes = set s.homes 0 none;
        views = set s.views by (holding v (shown open_gate.inside));
      })
  takes_gate s h by v at some_part open_gate =
      let held = shown open_gate.inside in
      let one = h.one in
      kept_of _ h.past h.book (length-set s.words 0 1 ∙ h.one)
      (inr (record {
        word = get_or-set_same s.words 0 1 0 (omega arith);
        holder = by;
        holding = holding v held;
        there = set_here s.views by (holding v held) (at_within s.views by v at);
        holds = ap Some open_gate.is_book;
        others = λ other u differ e.
            open_gate.free other u (sym (set_else s.views by other (holding v held) differ) ∙ e);
      }))
      (ruled_holding h.past h.book held s.views by v at some_part (ruled_of s h))

  -- a try keeps the rule, and tells what it says
  pub tries : (slots by : ℕ) (v : View) → 0 < v.parts
      → Allows (RuleKept shown) slots by (v, []) 0 (λ n. either (eqb n 0) 1 n) (Tries shown (v, []))
  tries slots by v some_part s h wide at bound = dite (ℕ_discrete (get_or s.words 0 0) 0)
      (λ is_open. ⊎_elim
      (λ open_gate. (
        holding v (shown open_gate.inside),
        takes 0 (Some open_gate.inside),
        open_gate.home,
        subst (λ (n : ℕ). RuleKept shown (record {
          words = set s.words 0 n;
          homes = set s.homes 0 none;
          views = set s.views by (holding v (shown open_gate.inside));
        }))
            (sym (ap (λ b. either b 1 (get_or s.words 0 0)) (eq-eqb (get_or s.words 0 0) 0 is_open)))
            (takes_gate s h by v at some_part open_gate),
        (
          (λ zero. (
            open_gate.inside,
            refl,
            subst (λ (b : BookData). Learns v b) (sym open_gate.is_book)
                (learns h.past h.book s.views h.counted h.stock h.counts h.fits by v at some_part h.spent),
          )),
          (λ other. absurd (other is_open)),
        ),
      ))
      (λ shut_gate. absurd (let w = shut_gate.word in omega arith))
      h.gate)
      (λ is_shut. (
        v,
        keeps,
        tt,
        subst (λ (n : ℕ). RuleKept shown
            (record { words = set s.words 0 n; homes = s.homes; views = set s.views by v }))
            (sym (ap (λ b. either b 1 (get_or s.words 0 0)) (ne_eqb (get_or s.words 0 0) 0 is_shut)))
            (subst (λ (words : List ℕ). RuleKept shown
            (record { words = words; homes = s.homes; views = set s.views by v }))
            (same_words s.words h.one)
            (subst (λ (views : List View). RuleKept shown (record { words = s.words; homes = s.homes; views = views }))
            (sym (set_again s.views by v at)) h)),
        ((λ zero. absurd (is_shut zero)), (λ other. refl)),
      ))
    where
      same_words : (words : List ℕ) → length words ≡ 1 → words ≡ set words 0 (get_or words 0 0)
      same_words [] one = refl
      same_words (word ∷ words) one = refl
