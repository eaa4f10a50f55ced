-- A publish and a release, put together from what their steps leave.
use Rattle.std.proofs.Common.{◌≡◌, ◌∙◌, ◌+◌, ◌<◌, ◌≤◌, ◌^◌, ◌*◌, ◌==◌, ℕ, not, List, [], ◌∷◌, ◌++◌, refl, sym, ap, subst, length, arith, length-append}
use Rattle.std.proofs.lemmas.List.{length-map}
use Rattle.std.proofs.lemmas.Option.{slice_get_within}
use Rattle.std.proofs.Math.Logic.{∥∥₁_elim}
use Rattle.std.specs.Coded.{Coded-set, coded_ℕ}
use Rattle.std.specs.VecDeque.{deque_capacity, deque_len}
use Rattle.dita_doc.specs.declared.fact.FactKey.{FactKey}
use Rattle.facts.proofs.Places.{filtered_at}
use Rattle.facts.specs.Rows.{Claim, RowData, Running, Stands, claim_of, plan_serial}
use Rattle.facts.specs.Table.{left, made, others, row_of, size, value_bytes, with_row}
use Rattle.facts.specs.contracts.fact.Fact.{the_row}
use Rattle.facts.specs.declared.fact.Fact.{Fact}
use Rattle.fact_table.specs.Answers.{IsRunning}
use Rattle.fact_table.specs.Claims.{AreNamesOf, claim_seen, claims_seen}
use Rattle.fact_table.specs.Inside.{IsTable, data_seen}
use Rattle.fact_table.specs.Noted.{AreRaised, remembered}
use Rattle.fact_table.specs.Ranks.{IsKnown, Ranks}
use Rattle.fact_table.specs.Shelf.{IsShelf, KnowsClaims, rows_seen}
use Rattle.fact_table.specs.declared.claims.RunningClaim.{RunningClaim}
use Rattle.fact_table.specs.declared.memo.Noted.{Noted}
use Rattle.fact_table.specs.declared.shelf.Shelf.{Shelf}
use Rattle.fact_table.specs.declared.table.Table.TheInside.{Inside}
use Rattle.fact_table.proofs.FieldLaws.{same_row}
use Rattle.fact_table.proofs.TableLaws.{Publishes, one_claim}

-- Room and numbers

module _ (old : Inside) (claim : Running) (table : IsTable old) (runs : Stands (claims_seen old.claims.items) claim) where
  some_claim : 0 < length (claims_seen old.claims.items)
  some_claim =
      let within : runs.0 < length (claims_seen old.claims.items) =
      slice_get_within (claims_seen old.claims.items) runs.0 claim runs.1 in
      omega arith

  -- a serial was drawn for the row of the claim
  pub rank_drawn : old.shelf.dropped + length (rows_seen old.shelf) + 1 ≤ old.drawn
  rank_drawn =
      let some : 0 < length (claims_seen old.claims.items) = some_claim in
      let was : made (data_seen old) + length (claims_seen old.claims.items) ≤ old.drawn = table.drawn.made in
      omega arith

  -- there is room for its row
  pub has_room : deque_len old.shelf.rows < deque_capacity old.shelf.rows
  has_room =
      let some : 0 < length (claims_seen old.claims.items) = some_claim in
      let count : length (claims_seen old.claims.items) ≡ length old.claims.items =
      length-map old.claims.items claim_seen in
      let were : deque_len old.shelf.rows + length old.claims.items ≤ deque_capacity old.shelf.rows = table.room.rows in
      omega arith

  -- the number of published rows fits, with its row too
  pub put_small : (put : Shelf) (row : RowData) → rows_seen put ≡ rows_seen old.shelf ++ row ∷ []
      → put.dropped ≡ old.shelf.dropped → old.drawn < 2 ^ 64 → put.dropped + length (rows_seen put) < 2 ^ 64
  put_small put row rows dropped fits =
      let drawn : old.shelf.dropped + length (rows_seen old.shelf) + 1 ≤ old.drawn = rank_drawn in
      let long : length (rows_seen put) ≡ length (rows_seen old.shelf) + 1 =
      ap length rows ∙ length-append (rows_seen old.shelf) (row ∷ []) in
      omega arith

  -- the key of the claim has an entry
  pub knows_key : (key : FactKey) → claim.key ≡ key → IsKnown old.shelf.newest key
  knows_key key is = subst (IsKnown old.shelf.newest) is (table.room.keys.each claim runs)

  pub bytes_fit : old.shelf.bytes ≤ old.limit
  bytes_fit =
      let is : old.shelf.bytes ≡ size (rows_seen old.shelf) = table.shelf.bytes in
      let fits : size (rows_seen old.shelf) ≤ old.limit = table.fits in
      omega arith

  pub names_are : (serial names : ℕ) → claim.serial ≡ serial → AreNamesOf (claims_seen old.claims.items) serial names
      → names ≡ length claim.state
  names_are serial names is of = of claim runs is (one_claim (data_seen old) table.drawn)

  pub names_few : length claim.state ≤ 2 ^ 48
  names_few = table.drawn.names claim runs

-- Keys of claims

pub knows_fewer : (old new : Ranks) (running : List Running) (serial : ℕ)
    → ((key : FactKey) → IsKnown old key → IsKnown new key) → KnowsClaims old running
    → KnowsClaims new (others serial running)
knows_fewer old new running serial more knows = record {
  each = λ claim stands.
      let was = filtered_at (λ (one : Running). not (one.serial == serial)) running stands.0 claim stands.1 in
      more claim.key (knows.each claim (was.place, was.at));
}

-- the claims that are left, as they are read
pub knows_left : (old : Inside) (ranks : Ranks) (now read : List RunningClaim) (serial : ℕ) → IsTable old
    → claims_seen now ≡ others serial (claims_seen old.claims.items) → read ≡ now
    → ((key : FactKey) → IsKnown old.shelf.newest key → IsKnown ranks key) → KnowsClaims ranks (claims_seen read)
knows_left old ranks now read serial table is same more =
    subst (λ (all : List RunningClaim). KnowsClaims ranks (claims_seen all)) (sym same)
    (subst (KnowsClaims ranks) (sym is)
    (knows_fewer old.shelf.newest ranks (claims_seen old.claims.items) serial more table.room.keys))

pub knows_read : (ranks : Ranks) (now read : List RunningClaim) → read ≡ now → KnowsClaims ranks (claims_seen read)
    → KnowsClaims ranks (claims_seen now)
knows_read ranks now read same = subst (λ (all : List RunningClaim). KnowsClaims ranks (claims_seen all)) same

pub serial_is : (ticket : Claim) (claim : Running) → claim_of claim ≡ ticket → claim.serial ≡ ticket.serial
serial_is ticket claim same = ap (λ (c : Claim). c.serial) same

pub key_is : (ticket : Claim) (claim : Running) → claim_of claim ≡ ticket → claim.key ≡ ticket.key
key_is ticket claim same = ap (λ (c : Claim). c.key) same

pub stamp_is : (ticket : Claim) (claim : Running) → claim_of claim ≡ ticket → claim.stamp ≡ ticket.stamp
stamp_is ticket claim same = ap (λ (c : Claim). c.stamp) same

-- The row

pub row_is : (old : Inside) (ticket : Claim) (claim : Running) (row : RowData) (fact : Fact) → claim_of claim ≡ ticket
    → row.serial ≡ ticket.serial → row.stamp ≡ ticket.stamp
    → row.rank ≡ old.shelf.dropped + length (rows_seen old.shelf) + 1 → row.mark ≡ old.drawn
    → row.bytes ≡ value_bytes fact + 64 + 32 * length claim.state → row.fact ≡ fact
    → row ≡ row_of (data_seen old) claim fact
row_is old ticket claim row fact same serial stamp rank mark bytes fact_is =
    same_row row (row_of (data_seen old) claim fact) (serial ∙ sym (serial_is ticket claim same))
    (stamp ∙ sym (stamp_is ticket claim same)) rank mark bytes fact_is

-- What a publish leaves

pub publishes : (old new : Inside) (put : Shelf) (claim : Running) (fact : Fact) (row : RowData) (plan : ℕ)
    (raised : List Noted) → Stands (claims_seen old.claims.items) claim
    → claims_seen new.claims.items ≡ others claim.serial (claims_seen old.claims.items)
    → row ≡ row_of (data_seen old) claim fact → rows_seen put ≡ rows_seen old.shelf ++ row ∷ []
    → put.dropped ≡ old.shelf.dropped → deque_capacity put.rows ≡ deque_capacity old.shelf.rows
    → IsShelf new.shelf → KnowsClaims new.shelf.newest (claims_seen new.claims.items)
    → rows_seen new.shelf ≡ left old.limit (rows_seen put)
    → new.shelf.dropped + length (rows_seen new.shelf) ≡ put.dropped + length (rows_seen put)
    → deque_capacity new.shelf.rows ≡ deque_capacity put.rows → plan ≡ plan_serial row
    → AreRaised plan row.rank old.memo.items raised → new.memo.items ≡ remembered new.shelf.dropped raised
    → new.drawn ≡ old.drawn → new.limit ≡ old.limit → Publishes old new claim fact
publishes old new put claim fact row plan raised runs claims is put_rows put_dropped put_capacity shelf known rows made_is
    capacity plan_is are_raised memo drawn limit = record {
      runs = runs;
      claims = claims;
      shelf = shelf;
      known = known;
      rows = rows ∙ ap (left old.limit) all_are;
      made_is =
          let long : length (rows_seen put) ≡ length (with_row (data_seen old) claim fact) = ap length all_are in
          omega arith;
      capacity = capacity ∙ put_capacity;
      drawn = drawn;
      limit = limit;
      raised = raised;
      are_raised = subst (λ (r : RowData). AreRaised (plan_serial r) r.rank old.memo.items raised) is
          (subst (λ (n : ℕ). AreRaised n row.rank old.memo.items raised) plan_is are_raised);
      memo = memo;
    } where
      all_are : rows_seen put ≡ with_row (data_seen old) claim fact
      all_are = put_rows ∙ ap (λ (r : RowData). rows_seen old.shelf ++ r ∷ []) is

-- Facts are data, so that what a pair of shares says may be used

fact_set : IsSet Fact
fact_set = Coded-set the_row.coded

pub given_is : (kept given : Fact) → ∥ kept ≡ given ∥₁ → given ≡ kept
given_is kept given same = sym (∥∥₁_elim same (fact_set kept given) (λ e. e))

pub bytes_are : (bytes value : ℕ) → ∥ bytes ≡ value ∥₁ → bytes ≡ value
bytes_are bytes value measured = ∥∥₁_elim measured (Coded-set coded_ℕ bytes value) (λ e. e)

-- What the steps of a publish have done: the row was put on the shelf, and then the first ones have gone

pub record IsDone (old new : Inside) (ticket : Claim) (fact : Fact) (row : RowData) (put : Shelf) (names plan : ℕ)
    (raised : List Noted) : Type 0 where
  pub claims : claims_seen new.claims.items ≡ others ticket.serial (claims_seen old.claims.items)
  pub serial : row.serial ≡ ticket.serial
  pub stamp : row.stamp ≡ ticket.stamp
  pub rank : row.rank ≡ old.shelf.dropped + length (rows_seen old.shelf) + 1
  pub mark : row.mark ≡ old.drawn
  pub names_of : AreNamesOf (claims_seen old.claims.items) ticket.serial names
  pub bytes : row.bytes ≡ value_bytes fact + 64 + 32 * names
  pub fact_is : row.fact ≡ fact
  pub put_rows : rows_seen put ≡ rows_seen old.shelf ++ row ∷ []
  pub put_dropped : put.dropped ≡ old.shelf.dropped
  pub put_capacity : deque_capacity put.rows ≡ deque_capacity old.shelf.rows
  pub shelf : IsShelf new.shelf
  pub known : KnowsClaims new.shelf.newest (claims_seen new.claims.items)
  pub rows : rows_seen new.shelf ≡ left old.limit (rows_seen put)
  pub made_is : new.shelf.dropped + length (rows_seen new.shelf) ≡ put.dropped + length (rows_seen put)
  pub capacity : deque_capacity new.shelf.rows ≡ deque_capacity put.rows
  pub plan_is : plan ≡ plan_serial row
  pub are_raised : AreRaised plan row.rank old.memo.items raised
  pub memo : new.memo.items ≡ remembered new.shelf.dropped raised
  pub drawn : new.drawn ≡ old.drawn
  pub limit : new.limit ≡ old.limit

module _ (old new : Inside) (ticket : Claim) (fact : Fact) (row : RowData) (put : Shelf) (names plan : ℕ)
    (raised : List Noted) (table : IsTable old) (running : IsRunning (claims_seen old.claims.items) ticket)
    (done : IsDone old new ticket fact row put names plan raised) where
  abbrev claim : Running
  claim = running.0

  state_names : names ≡ length claim.state
  state_names = names_are old claim table running.1.stands ticket.serial names
      (serial_is ticket claim running.1.same) done.names_of

  -- it is the row of the ticket's claim, and so is each other with the same numbers and the same fact
  pub done_row : (one : RowData) → one.serial ≡ row.serial → one.stamp ≡ row.stamp → one.rank ≡ row.rank
      → one.mark ≡ row.mark → one.bytes ≡ row.bytes → one.fact ≡ fact → one ≡ row_of (data_seen old) claim fact
  done_row one serial stamp rank mark bytes fact_is = row_is old ticket claim one fact running.1.same
      (serial ∙ done.serial) (stamp ∙ done.stamp) (rank ∙ done.rank) (mark ∙ done.mark)
      (bytes ∙ done.bytes ∙ ap (λ (n : ℕ). value_bytes fact + 64 + 32 * n) state_names) fact_is

  pub done_publishes : Publishes old new claim fact
  done_publishes = publishes old new put claim fact row plan raised running.1.stands
      (done.claims ∙ ap (λ (n : ℕ). others n (claims_seen old.claims.items))
      (sym (serial_is ticket claim running.1.same)))
      (done_row row refl refl refl refl refl done.fact_is) done.put_rows done.put_dropped done.put_capacity done.shelf
      done.known done.rows done.made_is done.capacity done.plan_is done.are_raised done.memo done.drawn done.limit
