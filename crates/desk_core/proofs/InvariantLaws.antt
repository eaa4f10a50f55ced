-- What holds of a book between any two events: it holds from the opening on, and each event keeps it.
use Rattle.std.proofs.Common.{◌≡◌, ◌+◌, ◌<◌, ◌≤◌, ◌⊎◌, ℕ, zero, suc, List, [], ◌∷◌, ◌++◌, Some, Ok, Err, refl, sym, ap, subst, ◌∙◌, inl, inr, length, slice_get, arith, length-append}
use Rattle.std.specs.Arc.{arc_value}
use Rattle.std.proofs.lemmas.List.{take_all}
use Rattle.std.proofs.lemmas.Option.{none-some, same_Some}
use Rattle.dita_doc.specs.Desk.{State, Stored, stored_under, reply}
use Rattle.dita_doc.specs.History.{Entry, replay, sources}
use Rattle.dita_doc.specs.Request.{Request, Build}
use Rattle.dita_doc.specs.declared.fact.FactKey.{FactKey}
use Rattle.dita_doc.specs.declared.stop.Stop.TheVariants.{Fault, NoMemory}
use Rattle.desk_core.proofs.NumberLaws.{claimed_numbers, is_other, new_numbers, published_numbers, released_numbers}
use Rattle.desk_core.specs.Book.{BookData, SnapshotData, new_book}
use Rattle.desk_core.specs.Events as events
use Rattle.desk_core.specs.Events.{Begun, Claimed, Ending, Event, Placed, Published, Released}
use Rattle.desk_core.specs.Invariant.{AreClaims, AreNumbers, AreRows, HavePlans, IsInOrder, IsStore}
use Rattle.desk_core.specs.Steps.{AreSteps, EventDone, IsSnapshotOf, MayPublish, MayStep, RunsAs, Steps, with_asked, with_claim, with_published, with_released}
use Rattle.facts.proofs.Places.{IsEnd, WasAt, WereBehind, end_at, filtered_at, filtered_order, push_at}
use Rattle.facts.proofs.TableLaws.{left_ends}
use Rattle.facts.specs.Latest.{ClaimAnswer, FactAgrees, Have, IsClaimAnswer, NoneAgrees, NoneRuns, Taken, Yours}
use Rattle.facts.specs.Rows.{Claim, HaveOnePlan, RowData, Running, Stands, plan_in, plan_serial, serial_of_plan}
use Rattle.facts.specs.Table.{TableData, claimed, left, next_claim, others, published, released, row_of, with_row}
use Rattle.facts.specs.declared.fact.Fact.{Fact}
use Rattle.version_store.proofs.HistoryLaws.{from_sources, legal_push, size_push, sources_all, sources_prefix}
use Rattle.version_store.specs.Entries.{ComesFrom}
use Rattle.version_store.specs.Kept.{Fits, Kept, answered, next_entry, nothing_kept}

-- The store

versions_of : (history : List Entry) (name : List ℕ) (stored : Stored)
    → stored_under (sources history (length history)) name ≡ Some stored → ComesFrom history stored
versions_of history name stored is = subst (λ (h : List Entry). ComesFrom h stored)
    (take_all (length history) history (omega arith)) (from_sources history (length history) name stored is)

new_store : (entries text : ℕ) → IsStore (nothing_kept entries text)
new_store entries text = record {
  legal = tt;
  versions = versions_of [];
  entries = omega arith;
  text = omega arith;
}

asked_store : (session number : ℕ) (request : Request) (store : Kept) → Fits store request → IsStore store
    → IsStore (answered session number request store)
asked_store session number request store fits is =
    let entry : Entry = next_entry session number request store in
    record {
      legal = legal_push [] 0 store.history entry is.legal
          (ap (λ (s : State). reply s (length store.history) request) (sources_all store.history)
          ∙ ap (λ n. reply (replay [] 0 store.history) n request) {x = length store.history} (omega arith));
      versions = versions_of (store.history ++ entry ∷ []);
      entries =
          let longer : length (store.history ++ entry ∷ []) ≡ length store.history + 1 =
          length-append store.history (entry ∷ []) in
          omega (arith, longer, fits.entries);
      text = omega (arith, size_push store.history entry, fits.text);
    }

-- Rows and claims behind a longer history

module _ (agrees : FactAgrees) (sound : Fact → Type 0) (history more : List Entry) (table : TableData) where
  later_stamp : (n : ℕ) → n ≤ length history → n ≤ length (history ++ more)
  later_stamp n low =
      let longer : length (history ++ more) ≡ length history + length more = length-append history more in
      omega arith

  longer_rows : AreRows agrees sound history table → AreRows agrees sound (history ++ more) table
  longer_rows rows = record {
    stamps = λ row stands. later_stamp row.stamp (rows.stamps row stands);
    are_sound = rows.are_sound;
    agree = λ row stands. subst (agrees row.fact) (sym (sources_prefix history more row.stamp (rows.stamps row stands)))
        (rows.agree row stands);
    fresh = λ row later stands stands_later key mark agreed. rows.fresh row later stands stands_later key mark
        (subst (agrees row.fact) (sources_prefix history more later.stamp (rows.stamps later stands_later)) agreed);
  }

  longer_claims : AreClaims agrees history table → AreClaims agrees (history ++ more) table
  longer_claims claims = record {
    stamps = λ claim runs. later_stamp claim.stamp (claims.stamps claim runs);
    states = λ claim runs. claims.states claim runs
        ∙ sym (sources_prefix history more claim.stamp (claims.stamps claim runs));
    sought = claims.sought;
    differ = claims.differ;
  }

-- A claim is drawn

module _ (agrees : FactAgrees) (history : List Entry) (table : TableData) (key : FactKey) (stamp : ℕ) (state : State)
    (claims : AreClaims agrees history table) (within : stamp ≤ length history) (is : state ≡ sources history stamp)
    (none_agrees : NoneAgrees agrees table.rows key state) (none_runs : NoneRuns table.running key stamp) where
  abbrev next : Running
  next = next_claim table key stamp state

  abbrev IsIn : ℕ → Running → Type 0
  IsIn i claim = (slice_get table.running i ≡ Some claim) ⊎ ((i ≡ length table.running) × (claim ≡ next))

  stamp_in : (claim : Running) (i : ℕ) → IsIn i claim → claim.stamp ≤ length history
  stamp_in claim i (inl at) = claims.stamps claim (i, at)
  stamp_in claim i (inr new) = subst (λ (c : Running). c.stamp ≤ length history) (sym new.1) within

  state_in : (claim : Running) (i : ℕ) → IsIn i claim → claim.state ≡ sources history claim.stamp
  state_in claim i (inl at) = claims.states claim (i, at)
  state_in claim i (inr new) = subst (λ (c : Running). c.state ≡ sources history c.stamp) (sym new.1) is

  sought_in : (row : RowData) (claim : Running) (i : ℕ) → Stands table.rows row → IsIn i claim → row.fact.key ≡ claim.key
      → row.mark < claim.serial → agrees row.fact claim.state → ⊥
  sought_in row claim i stands (inl at) same mark agreed = claims.sought row claim stands (i, at) same mark agreed
  sought_in row claim i stands (inr new) same mark agreed = none_agrees.each stands.0 row (omega arith) stands.1
      (same ∙ ap (λ (c : Running). c.key) new.1) (subst (λ (c : Running). agrees row.fact c.state) new.1 agreed)

  runs_as_next : (claim : Running) (i : ℕ) (other : Running) → slice_get table.running i ≡ Some claim → other ≡ next
      → claim.key ≡ other.key → claim.stamp ≡ other.stamp → ⊥
  runs_as_next claim i other at new same_key same_stamp = none_runs claim (record {
    stands = (i, at);
    of = same_key ∙ ap (λ (c : Running). c.key) new;
    at = same_stamp ∙ ap (λ (c : Running). c.stamp) new;
  })

  differ_in : (i j : ℕ) (claim other : Running) → IsIn i claim → IsIn j other → claim.key ≡ other.key
      → claim.stamp ≡ other.stamp → i ≡ j
  differ_in i j claim other (inl at) (inl at_other) same_key same_stamp =
      claims.differ i j claim other at at_other same_key same_stamp
  differ_in i j claim other (inl at) (inr new) same_key same_stamp =
      absurd (runs_as_next claim i other at new.1 same_key same_stamp)
  differ_in i j claim other (inr new) (inl at_other) same_key same_stamp =
      absurd (runs_as_next other j claim at_other new.1 (sym same_key) (sym same_stamp))
  differ_in i j claim other (inr new) (inr new_other) same_key same_stamp = new.0 ∙ sym new_other.0

  abbrev place_in : (claim : Running) (runs : Stands (table.running ++ next ∷ []) claim) → IsIn runs.0 claim
  place_in claim runs = push_at table.running next claim runs.0 runs.1

  drawn_claims : AreClaims agrees history (claimed table key stamp state)
  drawn_claims = record {
    stamps = λ claim runs. stamp_in claim runs.0 (place_in claim runs);
    states = λ claim runs. state_in claim runs.0 (place_in claim runs);
    sought = λ row claim stands runs. sought_in row claim runs.0 stands (place_in claim runs);
    differ = λ i j claim other at at_other.
        differ_in i j claim other (push_at table.running next claim i at) (push_at table.running next other j at_other);
  }

-- A claim ends

which_first : (i j : ℕ) → (i < j) ⊎ ((i ≡ j) ⊎ (j < i))
which_first zero zero = inr (inl refl)
which_first zero (suc j) = inl (omega arith)
which_first (suc i) zero = inr (inr (omega arith))
which_first (suc i) (suc j) = elim (which_first i j) [
  | inl low ↦ inl (omega arith)
  | inr rest ↦ elim rest [
    | inl same ↦ inr (inl (ap suc same))
    | inr high ↦ inr (inr (omega arith))
  ]
]

module _ (agrees : FactAgrees) (history : List Entry) (table : TableData) (serial : ℕ)
    (claims : AreClaims agrees history table) where
  ran : (claim : Running) → Stands (others serial table.running) claim → Stands table.running claim
  ran claim runs =
      let was : WasAt (is_other serial) table.running claim =
      filtered_at (is_other serial) table.running runs.0 claim runs.1 in
      (was.place, was.at)

  not_behind : (i j : ℕ) (claim other : Running) → i < j → slice_get (others serial table.running) i ≡ Some claim
      → slice_get (others serial table.running) j ≡ Some other → claim.key ≡ other.key → claim.stamp ≡ other.stamp → ⊥
  not_behind i j claim other low at at_other same_key same_stamp =
      let were : WereBehind table.running claim other =
      filtered_order (is_other serial) table.running i j claim other low at at_other in
      let same : were.first ≡ were.second =
      claims.differ were.first were.second claim other were.first_at were.second_at same_key same_stamp in
      let behind : were.first < were.second = were.behind in
      omega arith

  differ_by : (i j : ℕ) (claim other : Running) → (i < j) ⊎ ((i ≡ j) ⊎ (j < i))
      → slice_get (others serial table.running) i ≡ Some claim → slice_get (others serial table.running) j ≡ Some other
      → claim.key ≡ other.key → claim.stamp ≡ other.stamp → i ≡ j
  differ_by i j claim other (inl low) at at_other same_key same_stamp =
      absurd (not_behind i j claim other low at at_other same_key same_stamp)
  differ_by i j claim other (inr (inl same)) at at_other same_key same_stamp = same
  differ_by i j claim other (inr (inr low)) at at_other same_key same_stamp =
      absurd (not_behind j i other claim low at_other at (sym same_key) (sym same_stamp))

  other_differ : (i j : ℕ) (claim other : Running) → slice_get (others serial table.running) i ≡ Some claim
      → slice_get (others serial table.running) j ≡ Some other → claim.key ≡ other.key → claim.stamp ≡ other.stamp → i ≡ j
  other_differ i j claim other = differ_by i j claim other (which_first i j)

  released_claims : AreClaims agrees history (released table serial)
  released_claims = record {
    stamps = λ claim runs. claims.stamps claim (ran claim runs);
    states = λ claim runs. claims.states claim (ran claim runs);
    sought = λ row claim stands runs. claims.sought row claim stands (ran claim runs);
    differ = other_differ;
  }

-- A row is published

module _ (agrees : FactAgrees) (sound : Fact → Type 0) (history : List Entry) (table : TableData) (claim : Running)
    (fact : Fact) (numbers : AreNumbers table) (rows : AreRows agrees sound history table)
    (claims : AreClaims agrees history table) (plans : HavePlans table) (runs : Stands table.running claim)
    (key_is : fact.key ≡ claim.key) (is_sound : sound fact) (agreed : agrees fact claim.state)
    (one_plan : HaveOnePlan table.rows (serial_of_plan fact claim.serial) (arc_value fact.plan)) where
  abbrev new_row : RowData
  new_row = row_of table claim fact

  abbrev all : List RowData
  all = with_row table claim fact

  abbrev IsRow : RowData → Type 0
  IsRow row = Stands table.rows row ⊎ (row ≡ new_row)

  row_in : (row : RowData) → Stands (left table.limit all) row → IsRow row
  row_in row stands =
      let end : IsEnd all (left table.limit all) = left_ends table.limit all in
      elim (push_at table.rows new_row row (end.gone + stands.0)
      (end_at all (left table.limit all) end stands.0 row stands.1)) [
        | inl at ↦ inl (end.gone + stands.0, at)
        | inr new ↦ inr new.1
      ]

  stamp_of_row : (row : RowData) → IsRow row → row.stamp ≤ length history
  stamp_of_row row (inl stands) = rows.stamps row stands
  stamp_of_row row (inr new) = subst (λ (r : RowData). r.stamp ≤ length history) (sym new) (claims.stamps claim runs)

  sound_row : (row : RowData) → IsRow row → sound row.fact
  sound_row row (inl stands) = rows.are_sound row stands
  sound_row row (inr new) = subst (λ (r : RowData). sound r.fact) (sym new) is_sound

  agreed_row : (row : RowData) → IsRow row → agrees row.fact (sources history row.stamp)
  agreed_row row (inl stands) = rows.agree row stands
  agreed_row row (inr new) = subst (λ (r : RowData). agrees r.fact (sources history r.stamp)) (sym new)
      (subst (agrees fact) (claims.states claim runs) agreed)

  -- no claim that runs is behind the new row's mark
  none_behind : (other : Running) → Stands table.running other → table.drawn < other.serial → ⊥
  none_behind other stands low =
      let drawn : other.serial ≤ table.drawn = (numbers.drawn other stands).1 in
      omega arith

  abbrev IsFresh : RowData → RowData → Type 0
  IsFresh row later =
      row.fact.key ≡ later.fact.key → row.mark < later.serial → agrees row.fact (sources history later.stamp) → ⊥

  fresh_for_new : (row : RowData) → Stands table.rows row → IsFresh row new_row
  fresh_for_new row stands same mark agreed_there = claims.sought row claim stands runs (same ∙ key_is) mark
      (subst (agrees row.fact) (sym (claims.states claim runs)) agreed_there)

  fresh_row : (row later : RowData) → IsRow row → IsRow later → IsFresh row later
  fresh_row row later (inl stands) (inl stands_later) = rows.fresh row later stands stands_later
  fresh_row row later (inl stands) (inr new) = subst (IsFresh row) (sym new) (fresh_for_new row stands)
  fresh_row row later (inr new) (inl stands_later) = λ same mark agreed_there.
      let mark_is : row.mark ≡ table.drawn = ap (λ (r : RowData). r.mark) new in
      let low : later.serial ≤ later.mark = (numbers.marks later stands_later).1 in
      let drawn : later.mark ≤ table.drawn = (numbers.marks later stands_later).2 in
      omega arith
  fresh_row row later (inr new) (inr new_later) = λ same mark agreed_there.
      let mark_is : row.mark ≡ table.drawn = ap (λ (r : RowData). r.mark) new in
      let serial_is : later.serial ≡ claim.serial = ap (λ (r : RowData). r.serial) new_later in
      let drawn : claim.serial ≤ table.drawn = (numbers.drawn claim runs).1 in
      omega arith

  published_rows : AreRows agrees sound history (published table claim fact)
  published_rows = record {
    stamps = λ row stands. stamp_of_row row (row_in row stands);
    are_sound = λ row stands. sound_row row (row_in row stands);
    agree = λ row stands. agreed_row row (row_in row stands);
    fresh = λ row later stands stands_later. fresh_row row later (row_in row stands) (row_in later stands_later);
  }

  sought_row : (row : RowData) (other : Running) → IsRow row → Stands table.running other → row.fact.key ≡ other.key
      → row.mark < other.serial → agrees row.fact other.state → ⊥
  sought_row row other (inl stands) others = claims.sought row other stands others
  sought_row row other (inr new) others = λ same mark agreed_there.
      none_behind other others (subst (λ n. n < other.serial) (ap (λ (r : RowData). r.mark) new) mark)

  published_claims : AreClaims agrees history (published table claim fact)
  published_claims = record {
    stamps = λ other stands. claims.stamps other (ran agrees history table claim.serial claims other stands);
    states = λ other stands. claims.states other (ran agrees history table claim.serial claims other stands);
    sought = λ row other stands others. sought_row row other (row_in row stands)
        (ran agrees history table claim.serial claims other others);
    differ = other_differ agrees history table claim.serial claims;
  }

  plan_of_new : (row : RowData) → Stands table.rows row → plan_serial row ≡ plan_serial new_row
      → plan_in row ≡ plan_in new_row
  plan_of_new row stands same = one_plan row stands same

  same_plan : (row other : RowData) → IsRow row → IsRow other → plan_serial row ≡ plan_serial other
      → plan_in row ≡ plan_in other
  same_plan row other (inl stands) (inl stands_other) = plans.same row other stands stands_other
  same_plan row other (inl stands) (inr new) = subst
      (λ (r : RowData). plan_serial row ≡ plan_serial r → plan_in row ≡ plan_in r) (sym new) (plan_of_new row stands)
  same_plan row other (inr new) (inl stands_other) = subst
      (λ (r : RowData). plan_serial r ≡ plan_serial other → plan_in r ≡ plan_in other) (sym new)
      (λ same. sym (plan_of_new other stands_other (sym same)))
  same_plan row other (inr new) (inr new_other) = λ same. ap plan_in (new ∙ sym new_other)

  published_plans : HavePlans (published table claim fact)
  published_plans = record {
    same = λ row other stands stands_other. same_plan row other (row_in row stands) (row_in other stands_other);
  }

-- One serial is that of one claim

same_place : (table : TableData) (numbers : AreNumbers table) (i j : ℕ) (claim other : Running)
    → (i < j) ⊎ ((i ≡ j) ⊎ (j < i)) → slice_get table.running i ≡ Some claim → slice_get table.running j ≡ Some other
    → claim.serial ≡ other.serial → i ≡ j
same_place table numbers i j claim other (inl low) at at_other same =
    let less : claim.serial < other.serial = numbers.claims i j claim other low at at_other in
    absurd (omega arith)
same_place table numbers i j claim other (inr (inl is)) at at_other same = is
same_place table numbers i j claim other (inr (inr low)) at at_other same =
    let less : other.serial < claim.serial = numbers.claims j i other claim low at_other at in
    absurd (omega arith)

one_claim : (table : TableData) (numbers : AreNumbers table) (ticket : Claim) (claim other : Running)
    → RunsAs table.running ticket claim → RunsAs table.running ticket other → claim ≡ other
one_claim table numbers ticket claim other runs runs_other =
    let serial : claim.serial ≡ other.serial = ap (λ (c : Claim). c.serial) (runs.same ∙ sym runs_other.same) in
    let place : runs.stands.0 ≡ runs_other.stands.0 = same_place table numbers runs.stands.0 runs_other.stands.0 claim other
    (which_first runs.stands.0 runs_other.stands.0) runs.stands.1 runs_other.stands.1 serial in
    same_Some claim other (sym runs.stands.1 ∙ ap (slice_get table.running) place ∙ runs_other.stands.1)

-- Each event

module _ (agrees : FactAgrees) (sound : Fact → Type 0) where
  abbrev Holds : BookData → Type 0
  Holds book = IsInOrder agrees sound book

  pub new_holds : (entries text bytes : ℕ) → Holds (new_book entries text bytes)
  new_holds entries text bytes = record {
    store = new_store entries text;
    rows = record {
      stamps = λ row stands. absurd (none-some row stands.1);
      are_sound = λ row stands. absurd (none-some row stands.1);
      agree = λ row stands. absurd (none-some row stands.1);
      fresh = λ row later stands stands_later same mark agreed. none-some row stands.1;
    };
    claims = record {
      stamps = λ claim runs. absurd (none-some claim runs.1);
      states = λ claim runs. absurd (none-some claim runs.1);
      sought = λ row claim stands runs same mark agreed. none-some row stands.1;
      differ = λ i j claim other at at_other same_key same_stamp. absurd (none-some claim at);
    };
    numbers = new_numbers bytes;
    plans = record { same = λ row other stands stands_other same. absurd (none-some row stands.1) };
  }

  asked_holds : (session number : ℕ) (request : Request) (book : BookData) → Fits book.store request → Holds book
      → Holds (with_asked session number request book)
  asked_holds session number request book fits is = record {
    store = asked_store session number request book.store fits is.store;
    rows = longer_rows agrees sound book.store.history (next_entry session number request book.store ∷ []) book.table is.rows;
    claims =
        longer_claims agrees sound book.store.history (next_entry session number request book.store ∷ []) book.table is.claims;
    numbers = is.numbers;
    plans = is.plans;
  }

  claim_holds : (key : FactKey) (snapshot : SnapshotData) (answer : ClaimAnswer) (book : BookData)
      → IsSnapshotOf book.store.history snapshot
      → IsClaimAnswer agrees book.table key snapshot.stamp snapshot.state answer → Holds book
      → Holds (with_claim key snapshot answer book)
  claim_holds key snapshot (Have row) book of answers is = is
  claim_holds key snapshot (Taken serial) book of answers is = is
  claim_holds key snapshot (Yours claim) book of answers is = record {
    store = is.store;
    rows = record {
      stamps = is.rows.stamps;
      are_sound = is.rows.are_sound;
      agree = is.rows.agree;
      fresh = is.rows.fresh;
    };
    claims = drawn_claims agrees book.store.history book.table key snapshot.stamp snapshot.state is.claims of.within of.state
        answers.none_agrees answers.none_runs;
    numbers = claimed_numbers book.table key snapshot.stamp snapshot.state is.numbers;
    plans = record { same = is.plans.same };
  }

  publish_holds : (ticket : Claim) (fact : Fact) (claim : Running) (book : BookData)
      → MayPublish agrees sound book.table ticket fact → RunsAs book.table.running ticket claim → Holds book
      → Holds (with_published claim fact book)
  publish_holds ticket fact claim book may runs is =
      let same : may.claim ≡ claim = one_claim book.table is.numbers ticket may.claim claim may.runs runs in
      let key_is : fact.key ≡ claim.key = subst (λ (c : Running). fact.key ≡ c.key) same may.key in
      let agreed : agrees fact claim.state = subst (λ (c : Running). agrees fact c.state) same may.agreed in
      let one_plan : HaveOnePlan book.table.rows (serial_of_plan fact claim.serial) (arc_value fact.plan) =
      subst (λ (c : Running). HaveOnePlan book.table.rows (serial_of_plan fact c.serial) (arc_value fact.plan)) same
      may.one_plan in
      record {
        store = is.store;
        rows = published_rows agrees sound book.store.history book.table claim fact is.numbers is.rows is.claims is.plans
            runs.stands key_is may.is_sound agreed one_plan;
        claims = published_claims agrees sound book.store.history book.table claim fact is.numbers is.rows is.claims is.plans
            runs.stands key_is may.is_sound agreed one_plan;
        numbers = published_numbers book.table claim fact runs.stands is.numbers;
        plans = published_plans agrees sound book.store.history book.table claim fact is.numbers is.rows is.claims is.plans
            runs.stands key_is may.is_sound agreed one_plan;
      }

  release_holds : (serial : ℕ) (book : BookData) → Holds book → Holds (with_released serial book)
  release_holds serial book is = record {
    store = is.store;
    rows = record {
      stamps = is.rows.stamps;
      are_sound = is.rows.are_sound;
      agree = is.rows.agree;
      fresh = is.rows.fresh;
    };
    claims = released_claims agrees book.store.history book.table serial is.claims;
    numbers = released_numbers book.table serial is.numbers;
    plans = record { same = is.plans.same };
  }

  pub step_holds : (old : BookData) (event : Event) (ending : Ending) (new : BookData) → MayStep agrees sound old event
      → Steps agrees old event ending new → Holds old → Holds new
  step_holds old (events.Commit session number request) (Ok (Placed place reply)) new may step is =
      subst Holds (sym step.asked.left) (asked_holds session number request old step.asked.room is)
  step_holds old (events.Commit session number request) (Err (Fault full)) new may step is =
      subst Holds (sym step.same) is
  step_holds old (events.Commit session number request) (Err NoMemory) new may step is = subst Holds (sym step) is
  step_holds old (events.Begin session number root val) (Ok (Begun place snapshot)) new may step is =
      subst Holds (sym step.asked.left) (asked_holds session number (Build root val) old step.asked.room is)
  step_holds old (events.Begin session number root val) (Err (Fault full)) new may step is =
      subst Holds (sym step.same) is
  step_holds old (events.Begin session number root val) (Err NoMemory) new may step is = subst Holds (sym step) is
  step_holds old (events.Claim key snapshot) (Ok (Claimed answer)) new may step is =
      subst Holds (sym step.left) (claim_holds key snapshot answer old may step.answers is)
  step_holds old (events.Claim key snapshot) (Err NoMemory) new may step is = subst Holds (sym step) is
  step_holds old (events.Publish ticket fact) (Ok (Published row)) new may step is =
      subst Holds (sym step.left) (publish_holds ticket fact step.claim old may step.runs is)
  step_holds old (events.Release ticket) (Ok Released) new may step is =
      subst Holds (sym step) (release_holds ticket.serial old is)
  step_holds old event ending new may step is = absurd step

  pub steps_hold : (old : BookData) (all : List EventDone) (new : BookData) → AreSteps agrees sound old all new
      → Holds old → Holds new
  steps_hold old [] new same is = subst Holds (sym same) is
  steps_hold old (done ∷ more) new steps is = steps_hold steps.0 more new steps.2
      (step_holds old done.event done.ending steps.0 steps.1.may steps.1.steps is)
