-- The numbers of a table are in order from its opening on: no event makes two serials the same, a rank or a mark
-- wrong, or the rows larger than the limit.
use Rattle.std.proofs.Common.{◌≡◌, ◌+◌, ◌-◌, ◌<◌, ◌≤◌, ◌==◌, ◌⊎◌, ℕ, Bool, true, not, List, [], ◌∷◌, Some, Ok, Err, sym, ap, subst, ◌∙◌, inl, inr, length, slice_get, arith}
use Rattle.std.proofs.lemmas.Option.{none-some, slice_get_within}
use Rattle.std.proofs.lemmas.Bool.Decides.{nat_tests}
use Rattle.dita_doc.specs.Desk.{State}
use Rattle.dita_doc.specs.declared.fact.FactKey.{FactKey}
use Rattle.dita_doc.specs.declared.stop.Stop.TheVariants.{Fault, NoMemory}
use Rattle.desk_core.specs.Book.{BookData}
use Rattle.desk_core.specs.Events as events
use Rattle.desk_core.specs.Events.{Begun, Claimed, Ending, Event, Placed, Published, Released}
use Rattle.desk_core.specs.Invariant.{AreNumbers}
use Rattle.desk_core.specs.Steps.{AreSteps, EventDone, Steps}
use Rattle.facts.proofs.Places.{IsEnd, WasAt, WereBehind, end_at, filtered_at, filtered_order, gone_is, push_at}
use Rattle.facts.proofs.TableLaws.{left_ends, left_fits}
use Rattle.facts.specs.Latest.{ClaimAnswer, FactAgrees, Have, Taken, Yours, after_claim}
use Rattle.facts.specs.Rows.{RowData, Running, Stands}
use Rattle.facts.specs.Table.{TableData, claimed, left, new_table, next_claim, others, published, released, row_of, with_row}
use Rattle.facts.specs.declared.fact.Fact.{Fact}

pub new_numbers : (limit : ℕ) → AreNumbers (new_table limit)
new_numbers limit = record {
  rows = λ i j row other at at_other same. absurd (none-some row at);
  claims = λ i j claim later low at at_later. absurd (none-some claim at);
  apart = λ row claim stands runs same. none-some row stands.1;
  drawn = λ claim runs. absurd (none-some claim runs.1);
  marks = λ row stands. absurd (none-some row stands.1);
  ranks = λ place row at. absurd (none-some row at);
  bytes = omega arith;
}

-- A claim

module _ (table : TableData) (key : FactKey) (stamp : ℕ) (sources : State) (numbers : AreNumbers table) where
  abbrev next : Running
  next = next_claim table key stamp sources

  -- the claim at a place ran, or is the new one
  abbrev IsIn : ℕ → Running → Type 0
  IsIn i claim = (slice_get table.running i ≡ Some claim) ⊎ ((i ≡ length table.running) × (claim ≡ next))

  rising : (i j : ℕ) (claim later : Running) → i < j → IsIn i claim → IsIn j later → claim.serial < later.serial
  rising i j claim later low (inl at) (inl at_later) = numbers.claims i j claim later low at at_later
  rising i j claim later low (inl at) (inr new) =
      let drawn : claim.serial ≤ table.drawn = (numbers.drawn claim (i, at)).1 in
      let serial : later.serial ≡ table.drawn + 1 = ap (λ (c : Running). c.serial) new.1 in
      omega arith
  rising i j claim later low (inr new) (inl at_later) =
      let within : j < length table.running = slice_get_within table.running j later at_later in
      let place : i ≡ length table.running = new.0 in
      absurd (omega arith)
  rising i j claim later low (inr new) (inr new_later) =
      let place : i ≡ length table.running = new.0 in
      let place_later : j ≡ length table.running = new_later.0 in
      absurd (omega arith)

  apart_from : (row : RowData) (claim : Running) (i : ℕ) → Stands table.rows row → IsIn i claim
      → row.serial ≡ claim.serial → ⊥
  apart_from row claim i stands (inl at) same = numbers.apart row claim stands (i, at) same
  apart_from row claim i stands (inr new) same =
      let low : row.serial ≤ row.mark = (numbers.marks row stands).1 in
      let drawn : row.mark ≤ table.drawn = (numbers.marks row stands).2 in
      let serial : claim.serial ≡ table.drawn + 1 = ap (λ (c : Running). c.serial) new.1 in
      omega arith

  was_drawn : (claim : Running) (i : ℕ) → IsIn i claim → (0 < claim.serial) × (claim.serial ≤ table.drawn + 1)
  was_drawn claim i (inl at) =
      let drawn : claim.serial ≤ table.drawn = (numbers.drawn claim (i, at)).1 in
      ((numbers.drawn claim (i, at)).0, omega arith)
  was_drawn claim i (inr new) =
      let serial : claim.serial ≡ table.drawn + 1 = ap (λ (c : Running). c.serial) new.1 in
      (omega arith, omega arith)

  later_marks : (row : RowData) → Stands table.rows row
      → (0 < row.serial) × (row.serial ≤ row.mark) × (row.mark ≤ table.drawn + 1)
  later_marks row stands =
      let drawn : row.mark ≤ table.drawn = (numbers.marks row stands).2 in
      ((numbers.marks row stands).0, (numbers.marks row stands).1, omega arith)

  pub claimed_numbers : AreNumbers (claimed table key stamp sources)
  claimed_numbers = record {
    rows = numbers.rows;
    claims = λ i j claim later low at at_later.
        rising i j claim later low (push_at table.running next claim i at) (push_at table.running next later j at_later);
    apart = λ row claim stands runs same.
        apart_from row claim runs.0 stands (push_at table.running next claim runs.0 runs.1) same;
    drawn = λ claim runs. was_drawn claim runs.0 (push_at table.running next claim runs.0 runs.1);
    marks = later_marks;
    ranks = numbers.ranks;
    bytes = numbers.bytes;
  }

-- A claim that ends

abbrev pub is_other : ℕ → Running → Bool
is_other serial claim = not (claim.serial == serial)

other_serial : (serial : ℕ) (claim : Running) → is_other serial claim ≡ true → claim.serial ≡ serial → ⊥
other_serial serial claim other same = grind (arith, nat_tests)

module _ (table : TableData) (serial : ℕ) (numbers : AreNumbers table) where
  ran : (claim : Running) → Stands (others serial table.running) claim → WasAt (is_other serial) table.running claim
  ran claim runs = filtered_at (is_other serial) table.running runs.0 claim runs.1

  pub others_rise : (i j : ℕ) (claim later : Running) → i < j → slice_get (others serial table.running) i ≡ Some claim
      → slice_get (others serial table.running) j ≡ Some later → claim.serial < later.serial
  others_rise i j claim later low at at_later =
      let were : WereBehind table.running claim later =
      filtered_order (is_other serial) table.running i j claim later low at at_later in
      numbers.claims were.first were.second claim later were.behind were.first_at were.second_at

  pub others_apart : (row : RowData) (claim : Running) → Stands table.rows row
      → Stands (others serial table.running) claim → row.serial ≡ claim.serial → ⊥
  others_apart row claim stands runs same =
      numbers.apart row claim stands ((ran claim runs).place, (ran claim runs).at) same

  pub others_drawn : (claim : Running) → Stands (others serial table.running) claim
      → (0 < claim.serial) × (claim.serial ≤ table.drawn)
  others_drawn claim runs = numbers.drawn claim ((ran claim runs).place, (ran claim runs).at)

  pub others_differ : (claim : Running) → Stands (others serial table.running) claim → claim.serial ≡ serial → ⊥
  others_differ claim runs same = other_serial serial claim (ran claim runs).passes same

  pub released_numbers : AreNumbers (released table serial)
  released_numbers = record {
    rows = numbers.rows;
    claims = others_rise;
    apart = others_apart;
    drawn = others_drawn;
    marks = numbers.marks;
    ranks = numbers.ranks;
    bytes = numbers.bytes;
  }

-- A row

module _ (table : TableData) (claim : Running) (fact : Fact) (runs : Stands table.running claim)
    (numbers : AreNumbers table) where
  abbrev all : List RowData
  all = with_row table claim fact

  abbrev new_row : RowData
  new_row = row_of table claim fact

  abbrev end : IsEnd all (left table.limit all)
  end = left_ends table.limit all

  -- the row at a place stood there, or is the new one
  abbrev IsRow : ℕ → RowData → Type 0
  IsRow i row = (slice_get table.rows i ≡ Some row) ⊎ ((i ≡ length table.rows) × (row ≡ new_row))

  row_at : (i : ℕ) (row : RowData) → slice_get (left table.limit all) i ≡ Some row → IsRow (end.gone + i) row
  row_at i row at =
      push_at table.rows new_row row (end.gone + i) (end_at all (left table.limit all) end i row at)

  one_place : (i j : ℕ) (row other : RowData) → IsRow i row → IsRow j other → row.serial ≡ other.serial → i ≡ j
  one_place i j row other (inl at) (inl at_other) same = numbers.rows i j row other at at_other same
  one_place i j row other (inl at) (inr new) same =
      absurd (numbers.apart row claim (i, at) runs (same ∙ ap (λ (r : RowData). r.serial) new.1))
  one_place i j row other (inr new) (inl at_other) same =
      absurd (numbers.apart other claim (j, at_other) runs (sym same ∙ ap (λ (r : RowData). r.serial) new.1))
  one_place i j row other (inr new) (inr new_other) same = new.0 ∙ sym new_other.0

  row_apart : (i : ℕ) (row : RowData) (other : Running) → IsRow i row → Stands (others claim.serial table.running) other
      → row.serial ≡ other.serial → ⊥
  row_apart i row other (inl at) others same = others_apart table claim.serial numbers row other (i, at) others same
  row_apart i row other (inr new) others same = others_differ table claim.serial numbers other others
      (sym same ∙ ap (λ (r : RowData). r.serial) new.1)

  row_marks : (i : ℕ) (row : RowData) → IsRow i row
      → (0 < row.serial) × (row.serial ≤ row.mark) × (row.mark ≤ table.drawn)
  row_marks i row (inl at) = numbers.marks row (i, at)
  row_marks i row (inr new) = subst
      (λ (r : RowData). (0 < r.serial) × (r.serial ≤ r.mark) × (r.mark ≤ table.drawn)) (sym new.1)
      ((numbers.drawn claim runs).0, (numbers.drawn claim runs).1, omega arith)

  row_rank : (i : ℕ) (row : RowData) → IsRow i row → row.rank ≡ table.dropped + 1 + i
  row_rank i row (inl at) = numbers.ranks i row at
  row_rank i row (inr new) =
      let place : i ≡ length table.rows = new.0 in
      let rank : row.rank ≡ table.dropped + length table.rows + 1 = ap (λ (r : RowData). r.rank) new.1 in
      omega arith

  left_rank : (i : ℕ) (row : RowData) → row.rank ≡ table.dropped + 1 + (end.gone + i)
      → row.rank ≡ table.dropped + (length all - length (left table.limit all)) + 1 + i
  left_rank i row rank =
      rank ∙ ap (λ gone. table.dropped + 1 + (gone + i)) (sym (gone_is all (left table.limit all) end)) ∙ omega arith

  pub published_numbers : AreNumbers (published table claim fact)
  published_numbers = record {
    rows = λ i j row other at at_other same.
        let places : end.gone + i ≡ end.gone + j =
        one_place (end.gone + i) (end.gone + j) row other (row_at i row at) (row_at j other at_other) same in
        omega arith;
    claims = others_rise table claim.serial numbers;
    apart = λ row other stands others same.
        row_apart (end.gone + stands.0) row other (row_at stands.0 row stands.1) others same;
    drawn = others_drawn table claim.serial numbers;
    marks = λ row stands. row_marks (end.gone + stands.0) row (row_at stands.0 row stands.1);
    ranks = λ place row at. left_rank place row (row_rank (end.gone + place) row (row_at place row at));
    bytes = left_fits table.limit all;
  }

-- Each event

after_claim_numbers : (old : TableData) (key : FactKey) (stamp : ℕ) (sources : State) (answer : ClaimAnswer)
    → AreNumbers old → AreNumbers (after_claim old key stamp sources answer)
after_claim_numbers old key stamp sources (Have row) numbers = numbers
after_claim_numbers old key stamp sources (Taken serial) numbers = numbers
after_claim_numbers old key stamp sources (Yours claim) numbers = claimed_numbers old key stamp sources numbers

abbrev InOrder : BookData → Type 0
InOrder book = AreNumbers book.table

pub step_numbers : (agrees : FactAgrees) (old : BookData) (event : Event) (ending : Ending) (new : BookData)
    → Steps agrees old event ending new → AreNumbers old.table → AreNumbers new.table
step_numbers agrees old (events.Commit session number request) (Ok (Placed place reply)) new step numbers =
    subst InOrder (sym step.asked.left) numbers
step_numbers agrees old (events.Commit session number request) (Err (Fault full)) new step numbers =
    subst InOrder (sym step.same) numbers
step_numbers agrees old (events.Commit session number request) (Err NoMemory) new step numbers =
    subst InOrder (sym step) numbers
step_numbers agrees old (events.Begin session number root val) (Ok (Begun place snapshot)) new step numbers =
    subst InOrder (sym step.asked.left) numbers
step_numbers agrees old (events.Begin session number root val) (Err (Fault full)) new step numbers =
    subst InOrder (sym step.same) numbers
step_numbers agrees old (events.Begin session number root val) (Err NoMemory) new step numbers =
    subst InOrder (sym step) numbers
step_numbers agrees old (events.Claim key snapshot) (Ok (Claimed answer)) new step numbers =
    subst InOrder (sym step.left)
    (after_claim_numbers old.table key snapshot.stamp snapshot.state answer numbers)
step_numbers agrees old (events.Claim key snapshot) (Err NoMemory) new step numbers = subst InOrder (sym step) numbers
step_numbers agrees old (events.Publish ticket fact) (Ok (Published row)) new step numbers =
    subst InOrder (sym step.left) (published_numbers old.table step.claim fact step.runs.stands numbers)
step_numbers agrees old (events.Release ticket) (Ok Released) new step numbers =
    subst InOrder (sym step) (released_numbers old.table ticket.serial numbers)
step_numbers agrees old event ending new step numbers = absurd step

pub steps_numbers : (agrees : FactAgrees) (sound : Fact → Type 0) (old : BookData) (all : List EventDone) (new : BookData)
    → AreSteps agrees sound old all new → AreNumbers old.table → AreNumbers new.table
steps_numbers agrees sound old [] new same numbers = subst InOrder (sym same) numbers
steps_numbers agrees sound old (done ∷ more) new steps numbers = steps_numbers agrees sound steps.0 more new steps.2
    (step_numbers agrees old done.event done.ending steps.0 steps.1.steps numbers)
