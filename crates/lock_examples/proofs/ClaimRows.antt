-- A build by one worker: a pass begins it, its hand claims the plan and publishes it, and another hand that claims the
-- same meets that claim. The first pass then takes in the first hand.
use Rattle.std.proofs.Common.{◌≡◌, ◌≢◌, ◌+◌, ◌<◌, ◌≤◌, ℕ, zero, suc, List, [], ◌∷◌, ◌++◌, Option, Some, None, refl, sym, ap, ◌∙◌, inl, inr, length, drop, arith, sum_by}
use Rattle.std.specs.Prelude.{codes}
use Rattle.std.proofs.lemmas.Option.{none-some, same_Some}
use mathlib.Core.Option.{some}
use Rattle.atomic_table.specs.Table.{State}
use Rattle.dita_doc.specs.Desk.{Begun}
use Rattle.dita_doc.specs.History.{Entry, IsLegal}
use Rattle.dita_doc.specs.Request.{Request, Build}
use Rattle.facts.specs.Rows.{Claim, RowData}
use Rattle.facts.specs.Table.{new_table}
use Rattle.facts.specs.declared.fact.Fact.{Fact}
use Rattle.desk_core.specs.Book.{BookData, SnapshotData}
use Rattle.desk_lock.specs.Calls.{Begins, Draws, Meets, Publishes}
use Rattle.desk_lock.specs.Knows.{all_parts, arrived, both, drew, first_view, has_met, let_go, made, parted, printed, settled, spent_view}
use Rattle.desk_lock.specs.Past.{IsCounted, Past}
use Rattle.desk_lock.specs.Rule.{Counts, IsOfPast, IsOpen, RuleKept, Stocked}
use Rattle.desk_lock.specs.declared.view.View.{View}
use Rattle.lock_examples.proofs.Short.{of_two, open_desk, small}

abbrev pub build : Request
build = Build (codes "m") None

abbrev pub entry : Entry
entry = record { session = 0; number = 1; request = build; reply = Begun }

abbrev pub log : List Entry
log = entry ∷ []

-- nothing is stored, and nothing changed it
abbrev pub snapshot : SnapshotData
snapshot = record { stamp = 0; state = [] }

abbrev pub caller : View
caller = made (first_view small) log 0

pub begins : Begins (first_view small) 1 (codes "m") None 0 snapshot caller
begins = record {
  appends = record {
    knows = refl;
    later = (log, refl);
    behind = omega arith;
    last = refl;
    entry = refl;
    legal =
        (refl, tt);
  };
  stamped = refl;
  stored = record { within = omega arith; state = refl };
  here = refl;
}

-- the fact of the plan of this build, whatever it says
module _ (fact : Fact) (is_plan : fact.planned ≡ 0) where
  abbrev claim : Claim
  claim = record { serial = 1; key = fact.key; stamp = 0 }

  abbrev row : RowData
  row = record { serial = 1; stamp = 0; rank = 1; mark = 1; bytes = 64; fact = fact }

  abbrev worker : View
  worker = arrived (parted caller 1) 0 1

  abbrev has_claim : View
  has_claim = drew worker log claim

  draws : Draws worker fact.key 0 claim has_claim
  draws = record {
    knows = refl;
    later = ([], refl);
    key = refl;
    stamped = refl;
    new = tt;
    above = tt;
    may_end = record { drew = (0, refl); runs = tt };
  }

  abbrev has_row : View
  has_row = printed has_claim log row

  -- another hand, which claimed the part while that claim ran
  abbrev other : View
  other = has_met (arrived (parted (parted caller 1) 1) 0 1) log claim

  meets : Meets (arrived (parted (parted caller 1) 1) 0 1) fact.key 0 1 other
  meets = record { knows = refl; later = ([], refl); unpublished = tt; unended = tt }

  -- the pass has joined the first hand, and the other goes on
  abbrev pass : View
  pass = settled (both (parted (parted caller 1) 1) has_row)

  abbrev book : BookData
  book = record {
    store = record { history = log; entry_limit = 16; text_limit = 1000 };
    table = record { rows = row ∷ []; running = []; drawn = 1; dropped = 0; limit = 1000 };
  }

  abbrev past : Past
  past = record { log = log; draws = claim ∷ []; prints = row ∷ []; limits = small }

  first_of : {X : Type 0} (before : ℕ) (x y : X) → Rattle.std.specs.List.slice_get (x ∷ []) before ≡ Some y
      → (before ≡ 0) × (x ≡ y)
  first_of zero x y e = (refl, same_Some x y e)
  first_of (suc before) x y e = absurd (none-some y e)

  counts : Counts (pass ∷ other ∷ []) book past
  counts = record {
    places = λ weight. omega arith;
    draws = λ weight. omega arith;
    prints = λ weight. omega arith;
    running = λ weight. omega arith;
    parts = refl;
  }

  stocked : Stocked book past
  stocked = record {
    history = refl;
    limits = refl;
    drawn = refl;
    running = tt;
    dropped = omega arith;
    rows = refl;
    over = λ some_gone. absurd (omega arith);
  }

  pass_fits : IsOfPast past pass
  pass_fits = record {
    seen = ([], refl);
    also = (log, refl);
    limits = λ some_part. refl;
    mine = ((entry, refl, refl), tt);
    theirs = tt;
    drawn = ((0, refl, refl), tt);
    stamps = (omega arith, tt);
    published = (((0, refl, refl), (0, refl, refl)), tt);
    rows = ((0, refl, refl), tt);
    met = tt;
    own = λ weight. omega arith;
  }

  other_fits : IsOfPast past other
  other_fits = record {
    seen = ([], refl);
    also = (log, refl);
    limits = λ some_part. refl;
    mine = tt;
    theirs = tt;
    drawn = tt;
    stamps = tt;
    published = tt;
    rows = tt;
    met = ((0, refl, refl), tt);
    own = λ weight. omega arith;
  }

  -- What is refused

  -- a row that is kept, and that no party published: its claim was released instead
  unpublished : Counts (settled (both (parted (parted caller 1) 1) (let_go has_claim log 1)) ∷ other ∷ []) book past → ⊥
  unpublished h = let none = h.prints (λ row. 1) in absurd (omega arith)

  -- a claim that two hands drew
  twice : Counts (pass ∷ drew other log claim ∷ []) book past → ⊥
  twice h = let two = h.draws (λ claim. 1) in absurd (omega arith)

  -- a claim that was ended and goes on running
  still_runs : Counts (pass ∷ other ∷ []) (record book {
    table = record book.table {
      running = record { serial = 1; key = fact.key; stamp = 0; state = [] } ∷ [];
    };
  }) past → ⊥
  still_runs h = let two = h.running (λ serial. 1) in absurd (omega arith)
