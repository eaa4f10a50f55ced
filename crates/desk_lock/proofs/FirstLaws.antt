-- A desk that has just been started meets the rule: nothing has happened, and its first pass has all parts.
use Rattle.std.proofs.Common.{◌≡◌, ℕ, zero, suc, [], ◌∷◌, Some, None, refl, sym, subst, inl, arith}
use Rattle.std.proofs.lemmas.Option.{none-some}
use mathlib.Core.Option.{some, some-injective, some-ne-none}
use lib.ListN.{get_elem?}
use Rattle.atomic_table.specs.Table.{opening}
use Rattle.desk_core.specs.Book.{BookData, new_book}
use Rattle.desk_core.specs.declared.limits.Limits.{Limits}
use Rattle.desk_lock.specs.Knows.{first_view, spent_view}
use Rattle.desk_lock.specs.Past.{IsCounted, Past}
use Rattle.desk_lock.specs.Rule.{Counts, IsOfPast, RuleKept, Stocked}
use Rattle.desk_lock.specs.Tokens.{IsIdle}
use Rattle.desk_lock.specs.declared.view.View.{View}

-- what holds of the only party holds of each
of_one : (Fact : View → Type 0) (first : View) → Fact first → (by : ℕ) (v : View) → get_elem? (first ∷ []) by ≡ some v
    → Fact v
of_one Fact first fact zero v e = subst Fact (some-injective first v e) fact
of_one Fact first fact (suc by) v e = absurd (some-ne-none v (sym e))

module _ (limits : Limits) where
  abbrev nothing_yet : Past
  nothing_yet = record { log = []; draws = []; prints = []; limits = limits }

  abbrev opened : BookData
  opened = new_book limits.entries limits.text_bytes limits.table_bytes

  none_counted : IsCounted nothing_yet
  none_counted = record {
    draws = λ before claim e. absurd (none-some claim e);
    ranks = λ before row e. absurd (none-some row e);
    marks = λ before row e. absurd (none-some row e);
    plans = λ before row e. absurd (none-some row e);
  }

  none_stocked : Stocked opened nothing_yet
  none_stocked = record {
    history = refl;
    limits = refl;
    drawn = refl;
    running = tt;
    dropped = omega arith;
    rows = refl;
    over = λ some_gone. absurd (omega arith);
  }

  none_together : Counts (first_view limits ∷ []) opened nothing_yet
  none_together = record {
    places = λ weight. refl;
    draws = λ weight. refl;
    prints = λ weight. refl;
    running = λ weight. refl;
    parts = refl;
  }

  first_fits : IsOfPast nothing_yet (first_view limits)
  first_fits = record {
    seen = ([], refl);
    also = ([], refl);
    limits = λ some_part. refl;
    mine = tt;
    theirs = tt;
    drawn = tt;
    stamps = tt;
    published = tt;
    rows = tt;
    met = tt;
    own = λ weight. omega arith;
  }

  -- the token of the first pass may be used at once
  pub first_is_idle : {S : Type 0} → IsIdle {S = S} (first_view limits, [])
  first_is_idle = record { empty = refl; free = refl; some_part = omega arith; compared = refl }

  -- what a table of one word and one slot asks of the book with which it is made
  pub starts : {B : Type 0} (shown : B → BookData) (inside : B) → shown inside ≡ opened
      → RuleKept shown (opening (0 ∷ []) (Some inside ∷ []) (first_view limits))
  starts shown inside is_opened = record {
    past = nothing_yet;
    book = opened;
    one = refl;
    gate = inl (record {
      word = refl;
      inside = inside;
      home = refl;
      is_book = is_opened;
      free = of_one (λ v. v.held ≡ None) (first_view limits) refl;
    });
    counted = none_counted;
    stock = none_stocked;
    counts = none_together;
    fits = of_one (IsOfPast nothing_yet) (first_view limits) first_fits;
    longest = (0, first_view limits, refl, refl);
    spent = of_one (λ v. v.parts ≡ 0 → v ≡ spent_view) (first_view limits) (λ none. absurd (omega arith));
  }
