-- What a table holds inside, after its rows and claims have changed.
use Rattle.std.proofs.Common.{◌≡◌, ◌∙◌, ◌+◌, ◌-◌, ◌<◌, ◌≤◌, ◌^◌, ◌⊎◌, ◌==◌, ℕ, not, true, List, [], ◌∷◌, ◌++◌, Some, refl, sym, ap, subst, inl, inr, length, slice_get, arith, length-append}
use Rattle.std.proofs.lemmas.Bool.Decides.{nat_tests}
use Rattle.std.proofs.lemmas.List.{length-map}
use Rattle.std.proofs.lemmas.Option.{same_Some, slice_get_within}
use Rattle.std.specs.VecDeque.{deque_capacity, deque_len}
use Rattle.dita_doc.specs.Desk.{State}
use Rattle.dita_doc.specs.declared.fact.FactKey.{FactKey}
use Rattle.facts.proofs.Places.{IsEnd, WasAt, WereBehind, filtered_at, filtered_order, push_at, slice_get-push}
use Rattle.facts.proofs.TableLaws.{left_ends, left_fits}
use Rattle.facts.specs.Memo.{HaveRows}
use Rattle.facts.specs.Rows.{RowData, Running, Stands, plan_serial, serial_of_plan}
use Rattle.facts.specs.Table.{TableData, claimed, left, made, next_claim, others, published, released, row_of, size, with_row}
use Rattle.facts.specs.declared.fact.Fact.{Fact}
use Rattle.facts.specs.declared.judged.Judged.{Judged}
use Rattle.fact_table.specs.Answers.{AreAmong}
use Rattle.fact_table.specs.Claims.{claim_seen, claims_seen}
use Rattle.fact_table.specs.Inside.{AreDrawn, AreWords, IsTable, data_seen}
use Rattle.fact_table.specs.Noted.{AllHaveRows, AreRaised, HasRow, IsRaised, is_behind, judged_of, judged_seen, remembered}
use Rattle.fact_table.specs.Shelf.{IsShelf, KnowsClaims, row_of_kept, rows_seen}
use Rattle.fact_table.specs.declared.memo.Noted.{Noted}
use Rattle.fact_table.specs.declared.shelf.Shelf.{Shelf}
use Rattle.fact_table.specs.declared.table.Table.TheInside.{Inside}
use Rattle.fact_table.proofs.ClaimLaws.{fewer}
use Rattle.fact_table.proofs.FieldLaws.{same_table}
use Rattle.fact_table.proofs.ListLaws.{end_length, still_at}
use Rattle.fact_table.proofs.MemoLaws.{IsMade, made_from, made_of}
use Rattle.fact_table.proofs.WalkLaws.{lower}

-- Numbers

module _ (table : TableData) (serial : ℕ) (drawn : AreDrawn table) where
  ran : (claim : Running) (k : ℕ) → slice_get (others serial table.running) k ≡ Some claim
      → WasAt (λ (one : Running). not (one.serial == serial)) table.running claim
  ran claim k at = filtered_at (λ (one : Running). not (one.serial == serial)) table.running k claim at

  others_rise : (i j : ℕ) (claim later : Running) → i < j → slice_get (others serial table.running) i ≡ Some claim
      → slice_get (others serial table.running) j ≡ Some later → claim.serial < later.serial
  others_rise i j claim later low at at_later =
      let were : WereBehind table.running claim later = filtered_order (λ (one : Running). not (one.serial == serial))
      table.running i j claim later low at at_later in
      drawn.rise were.first were.second claim later were.behind were.first_at were.second_at

  others_drawn : (claim : Running) → Stands (others serial table.running) claim → claim.serial ≤ table.drawn
  others_drawn claim stands =
      let was = ran claim stands.0 stands.1 in
      drawn.drawn claim (was.place, was.at)

  others_names : (claim : Running) → Stands (others serial table.running) claim → length claim.state ≤ 2 ^ 48
  others_names claim stands =
      let was = ran claim stands.0 stands.1 in
      drawn.names claim (was.place, was.at)

-- two claims of one serial are one
by_places : (table : TableData) → AreDrawn table → (i j : ℕ) (one other : Running) → slice_get table.running i ≡ Some one
    → slice_get table.running j ≡ Some other → one.serial ≡ other.serial → (i < j) ⊎ (j ≤ i) → (j < i) ⊎ (i ≤ j)
    → one ≡ other
by_places table drawn i j one other at at_other same (inl low) more =
    let rise : one.serial < other.serial = drawn.rise i j one other low at at_other in
    absurd (omega arith)
by_places table drawn i j one other at at_other same (inr high) (inl low) =
    let rise : other.serial < one.serial = drawn.rise j i other one low at_other at in
    absurd (omega arith)
by_places table drawn i j one other at at_other same (inr high) (inr low) =
    let place : i ≡ j = omega arith in
    same_Some one other (sym at ∙ ap (slice_get table.running) place ∙ at_other)

pub one_claim : (table : TableData) → AreDrawn table → (one other : Running) → Stands table.running one
    → Stands table.running other → one.serial ≡ other.serial → one ≡ other
one_claim table drawn one other stands stands_other same =
    by_places table drawn stands.0 stands_other.0 one other stands.1 stands_other.1 same
    (lower stands.0 stands_other.0) (lower stands_other.0 stands.0)

pub released_drawn : (table : TableData) (claim : Running) → Stands table.running claim → AreDrawn table
    → AreDrawn (released table claim.serial)
released_drawn table claim stands drawn = record {
  rise = others_rise table claim.serial drawn;
  drawn = others_drawn table claim.serial drawn;
  names = others_names table claim.serial drawn;
  made =
      let less : length (others claim.serial table.running) + 1 ≤ length table.running =
      fewer claim.serial table.running stands.0 claim stands.1 refl in
      let was : made table + length table.running ≤ table.drawn = drawn.made in
      omega arith;
}

pub published_drawn : (table : TableData) (claim : Running) (fact : Fact) → Stands table.running claim → AreDrawn table
    → AreDrawn (published table claim fact)
published_drawn table claim fact stands drawn = record {
  rise = others_rise table claim.serial drawn;
  drawn = others_drawn table claim.serial drawn;
  names = others_names table claim.serial drawn;
  made =
      let less : length (others claim.serial table.running) + 1 ≤ length table.running =
      fewer claim.serial table.running stands.0 claim stands.1 refl in
      let was : made table + length table.running ≤ table.drawn = drawn.made in
      let more : length (with_row table claim fact) ≡ length table.rows + 1 =
      length-append table.rows (row_of table claim fact ∷ []) in
      let end : IsEnd (with_row table claim fact) (left table.limit (with_row table claim fact)) =
      left_ends table.limit (with_row table claim fact) in
      let whole : length (left table.limit (with_row table claim fact)) + end.gone ≡ length (with_row table claim fact) =
      end_length (with_row table claim fact) (left table.limit (with_row table claim fact)) end in
      omega arith;
}

pub claimed_drawn : (table : TableData) (key : FactKey) (stamp : ℕ) (sources : State) → length sources ≤ 2 ^ 48
    → AreDrawn table → AreDrawn (claimed table key stamp sources)
claimed_drawn table key stamp sources few drawn = record {
  rise = λ i j claim later low at at_later. elim (push_at table.running next later j at_later) [
    | inl old ↦ elim (push_at table.running next claim i at) [
      | inl before ↦ drawn.rise i j claim later low before old
      | inr new ↦
          let place : i ≡ length table.running = new.0 in
          let within : j < length table.running = slice_get_within table.running j later old in
          absurd (omega arith)
    ]
    | inr new ↦ elim (push_at table.running next claim i at) [
      | inl before ↦
          let low : claim.serial ≤ table.drawn = drawn.drawn claim (i, before) in
          let is : later.serial ≡ table.drawn + 1 = ap (λ (c : Running). c.serial) new.1 in
          omega arith
      | inr also ↦
          let place : i ≡ length table.running = also.0 in
          let later_place : j ≡ length table.running = new.0 in
          absurd (omega arith)
    ]
  ];
  drawn = λ claim stands. elim (push_at table.running next claim stands.0 stands.1) [
    | inl old ↦ let low : claim.serial ≤ table.drawn = drawn.drawn claim (stands.0, old) in omega arith
    | inr new ↦ let is : claim.serial ≡ table.drawn + 1 = ap (λ (c : Running). c.serial) new.1 in omega arith
  ];
  names = λ claim stands. elim (push_at table.running next claim stands.0 stands.1) [
    | inl old ↦ drawn.names claim (stands.0, old)
    | inr new ↦ subst (λ (c : Running). length c.state ≤ 2 ^ 48) (sym new.1) few
  ];
  made =
      let was : made table + length table.running ≤ table.drawn = drawn.made in
      let more : length (table.running ++ next ∷ []) ≡ length table.running + 1 =
      length-append table.running (next ∷ []) in
      omega arith;
} where
  next : Running
  next = next_claim table key stamp sources

-- as many serials were drawn, and the limit is the same
same_words : (old new : Inside) → new.drawn ≡ old.drawn → new.limit ≡ old.limit → AreWords old → AreWords new
same_words old new drawn limit words = record {
  drawn = let was : old.drawn < 2 ^ 64 = words.drawn in omega arith;
  limit = let was : old.limit < 2 ^ 64 = words.limit in omega arith;
}

-- the number of published rows is a number of the machine
pub made_fits : (table : Inside) → IsTable table
    → table.shelf.dropped + length (rows_seen table.shelf) < 2 ^ 64
made_fits table is =
    let made : table.shelf.dropped + length (rows_seen table.shelf) + length (claims_seen table.claims.items)
    ≤ table.drawn = is.drawn.made in
    let fits : table.drawn < 2 ^ 64 = is.words.drawn in
    omega arith

-- A claim that is drawn

pub record Draws (old new : Inside) (key : FactKey) (stamp : ℕ) (sources : State) : Type 0 where
  pub few : length sources ≤ 2 ^ 48
  pub claims : claims_seen new.claims.items
      ≡ claims_seen old.claims.items ++ next_claim (data_seen old) key stamp sources ∷ []
  pub shelf : IsShelf new.shelf
  pub rows : rows_seen new.shelf ≡ rows_seen old.shelf
  pub dropped : new.shelf.dropped ≡ old.shelf.dropped
  pub known : KnowsClaims new.shelf.newest (claims_seen new.claims.items)
  pub room : deque_len new.shelf.rows + length new.claims.items ≤ deque_capacity new.shelf.rows
  pub drawn : new.drawn ≡ old.drawn + 1
  pub fits : new.drawn < 2 ^ 64
  pub limit : new.limit ≡ old.limit
  pub memo : new.memo.items ≡ old.memo.items

pub draws_data : (old new : Inside) (key : FactKey) (stamp : ℕ) (sources : State) → Draws old new key stamp sources
    → data_seen new ≡ claimed (data_seen old) key stamp sources
draws_data old new key stamp sources is = same_table (data_seen new) (claimed (data_seen old) key stamp sources) is.rows
    is.claims is.drawn is.dropped is.limit

-- the same judgements are of the same rows
pub noted_rows : (old new : Inside) → new.memo.items ≡ old.memo.items → AllHaveRows (rows_seen old.shelf) old.memo.items
    → AllHaveRows (rows_seen old.shelf) new.memo.items
noted_rows old new memo noted = subst (λ (m : List Noted). AllHaveRows (rows_seen old.shelf) m) (sym memo) noted

noted_still : (old new : Inside) → rows_seen new.shelf ≡ rows_seen old.shelf → new.memo.items ≡ old.memo.items
    → AllHaveRows (rows_seen old.shelf) old.memo.items → AllHaveRows (rows_seen new.shelf) new.memo.items
noted_still old new rows memo noted = subst (λ (r : List RowData). AllHaveRows r new.memo.items) (sym rows)
    (noted_rows old new memo noted)

fits_still : (old new : Inside) → rows_seen new.shelf ≡ rows_seen old.shelf → new.limit ≡ old.limit
    → size (rows_seen old.shelf) ≤ old.limit → size (rows_seen new.shelf) ≤ new.limit
fits_still old new rows limit fits =
    let same : size (rows_seen new.shelf) ≡ size (rows_seen old.shelf) = ap size rows in
    omega arith

pub draws_table : (old new : Inside) (key : FactKey) (stamp : ℕ) (sources : State) → IsTable old
    → Draws old new key stamp sources → IsTable new
draws_table old new key stamp sources table is = record {
  shelf = is.shelf;
  drawn = subst AreDrawn (sym (draws_data old new key stamp sources is))
      (claimed_drawn (data_seen old) key stamp sources is.few table.drawn);
  fits = fits_still old new is.rows is.limit table.fits;
  room = record { rows = is.room; keys = is.known };
  noted = noted_still old new is.rows is.memo table.noted;
  words = record {
    drawn = is.fits;
    limit =
        let was : old.limit < 2 ^ 64 = table.words.limit in
        let same : new.limit ≡ old.limit = is.limit in
        omega arith;
  };
}

-- The shelf alone has changed, and has the same rows

pub record Rests (old new : Inside) : Type 0 where
  pub claims : claims_seen new.claims.items ≡ claims_seen old.claims.items
  pub shelf : IsShelf new.shelf
  pub rows : rows_seen new.shelf ≡ rows_seen old.shelf
  pub dropped : new.shelf.dropped ≡ old.shelf.dropped
  pub known : KnowsClaims new.shelf.newest (claims_seen old.claims.items)
  pub len : deque_len new.shelf.rows ≡ deque_len old.shelf.rows
  pub capacity : deque_capacity old.shelf.rows ≤ deque_capacity new.shelf.rows
  pub drawn : new.drawn ≡ old.drawn
  pub limit : new.limit ≡ old.limit
  pub noted : AllHaveRows (rows_seen old.shelf) new.memo.items

pub rests_data : (old new : Inside) → Rests old new → data_seen new ≡ data_seen old
rests_data old new is =
    same_table (data_seen new) (data_seen old) is.rows is.claims is.drawn is.dropped is.limit

claim_count : (table : Inside) → length (claims_seen table.claims.items) ≡ length table.claims.items
claim_count table = length-map table.claims.items claim_seen

row_count : (shelf : Shelf) → deque_len shelf.rows ≡ length (rows_seen shelf)
row_count shelf = shelf.rows.ok.0 ∙ sym (length-map shelf.rows.items row_of_kept)

pub rests_table : (old new : Inside) → IsTable old → Rests old new → IsTable new
rests_table old new table is = record {
  shelf = is.shelf;
  drawn = subst AreDrawn (sym (rests_data old new is)) table.drawn;
  fits = fits_still old new is.rows is.limit table.fits;
  room = record {
    rows =
        let were : deque_len old.shelf.rows + length old.claims.items ≤ deque_capacity old.shelf.rows = table.room.rows in
        let count : length old.claims.items ≡ length new.claims.items =
        sym (claim_count old) ∙ sym (ap length is.claims) ∙ claim_count new in
        let len : deque_len new.shelf.rows ≡ deque_len old.shelf.rows = is.len in
        let capacity : deque_capacity old.shelf.rows ≤ deque_capacity new.shelf.rows = is.capacity in
        omega arith;
    keys = subst (KnowsClaims new.shelf.newest) (sym is.claims) is.known;
  };
  noted = subst (λ (r : List RowData). AllHaveRows r new.memo.items) (sym is.rows) is.noted;
  words = same_words old new is.drawn is.limit table.words;
}

-- judgements alone have changed
pub noted_table : (old new : Inside) → IsTable old → new.shelf ≡ old.shelf
    → claims_seen new.claims.items ≡ claims_seen old.claims.items
    → new.drawn ≡ old.drawn → new.limit ≡ old.limit → AllHaveRows (rows_seen old.shelf) new.memo.items → IsTable new
noted_table old new table shelf claims drawn limit noted = rests_table old new table (record {
  claims = claims;
  shelf = subst IsShelf (sym shelf) table.shelf;
  rows = ap rows_seen shelf;
  dropped = ap (λ (s : Shelf). s.dropped) shelf;
  known = subst (λ (s : Shelf). KnowsClaims s.newest (claims_seen old.claims.items)) (sym shelf) table.room.keys;
  len = ap (λ (s : Shelf). deque_len s.rows) shelf;
  capacity =
      let same : deque_capacity new.shelf.rows ≡ deque_capacity old.shelf.rows =
      ap (λ (s : Shelf). deque_capacity s.rows) shelf in
      omega arith;
  drawn = drawn;
  limit = limit;
  noted = noted;
})

-- A claim that is released

pub record Releases (old new : Inside) (claim : Running) : Type 0 where
  pub runs : Stands (claims_seen old.claims.items) claim
  pub claims : claims_seen new.claims.items ≡ others claim.serial (claims_seen old.claims.items)
  pub shelf : IsShelf new.shelf
  pub rows : rows_seen new.shelf ≡ rows_seen old.shelf
  pub dropped : new.shelf.dropped ≡ old.shelf.dropped
  pub known : KnowsClaims new.shelf.newest (claims_seen new.claims.items)
  pub len : deque_len new.shelf.rows ≡ deque_len old.shelf.rows
  pub capacity : deque_capacity new.shelf.rows ≡ deque_capacity old.shelf.rows
  pub drawn : new.drawn ≡ old.drawn
  pub limit : new.limit ≡ old.limit
  pub memo : new.memo.items ≡ old.memo.items

pub releases_data : (old new : Inside) (claim : Running) → Releases old new claim
    → data_seen new ≡ released (data_seen old) claim.serial
releases_data old new claim is = same_table (data_seen new) (released (data_seen old) claim.serial)
    is.rows is.claims is.drawn is.dropped is.limit

fewer_claims : (old new : Inside) (claim : Running) → Stands (claims_seen old.claims.items) claim
    → claims_seen new.claims.items ≡ others claim.serial (claims_seen old.claims.items)
    → length new.claims.items + 1 ≤ length old.claims.items
fewer_claims old new claim runs claims =
    let less : length (others claim.serial (claims_seen old.claims.items)) + 1 ≤ length (claims_seen old.claims.items) =
    fewer claim.serial (claims_seen old.claims.items) runs.0 claim runs.1 refl in
    let were : length (claims_seen old.claims.items) ≡ length old.claims.items = claim_count old in
    let are : length (others claim.serial (claims_seen old.claims.items)) ≡ length new.claims.items =
    sym (ap length claims) ∙ claim_count new in
    omega arith

pub releases_table : (old new : Inside) (claim : Running) → IsTable old → Releases old new claim → IsTable new
releases_table old new claim table is = record {
  shelf = is.shelf;
  drawn = subst AreDrawn (sym (releases_data old new claim is)) (released_drawn (data_seen old) claim is.runs table.drawn);
  fits = fits_still old new is.rows is.limit table.fits;
  room = record {
    rows =
        let were : deque_len old.shelf.rows + length old.claims.items ≤ deque_capacity old.shelf.rows = table.room.rows in
        let less : length new.claims.items + 1 ≤ length old.claims.items =
        fewer_claims old new claim is.runs is.claims in
        let len : deque_len new.shelf.rows ≡ deque_len old.shelf.rows = is.len in
        let capacity : deque_capacity new.shelf.rows ≡ deque_capacity old.shelf.rows = is.capacity in
        omega arith;
    keys = is.known;
  };
  noted = noted_still old new is.rows is.memo table.noted;
  words = same_words old new is.drawn is.limit table.words;
}

-- A row that is published

slice_get-last : {X : Type 0} (xs : List X) (x : X) → slice_get (xs ++ x ∷ []) (length xs) ≡ Some x
slice_get-last [] x = refl
slice_get-last (y ∷ xs) x = slice_get-last xs x

behind_from : (dropped : ℕ) (noted : Noted) → is_behind dropped noted ≡ true → dropped < noted.rank
behind_from dropped noted passes = grind (arith, nat_tests)

pub record Publishes (old new : Inside) (claim : Running) (fact : Fact) : Type 0 where
  pub runs : Stands (claims_seen old.claims.items) claim
  pub claims : claims_seen new.claims.items ≡ others claim.serial (claims_seen old.claims.items)
  pub shelf : IsShelf new.shelf
  pub known : KnowsClaims new.shelf.newest (claims_seen new.claims.items)
  pub rows : rows_seen new.shelf ≡ left old.limit (with_row (data_seen old) claim fact)
  pub made_is : new.shelf.dropped + length (rows_seen new.shelf)
      ≡ old.shelf.dropped + length (with_row (data_seen old) claim fact)
  pub capacity : deque_capacity new.shelf.rows ≡ deque_capacity old.shelf.rows
  pub drawn : new.drawn ≡ old.drawn
  pub limit : new.limit ≡ old.limit
  pub raised : List Noted
  pub are_raised : AreRaised (serial_of_plan fact claim.serial) (made (data_seen old) + 1) old.memo.items raised
  pub memo : new.memo.items ≡ remembered new.shelf.dropped raised

-- a judgement that is left was raised, and is of a row behind the dropped ones
record IsLeft (old new : Inside) (claim : Running) (fact : Fact) (noted : Noted) : Type 0 where
  pub raised : IsRaised (serial_of_plan fact claim.serial) (made (data_seen old) + 1) old.memo.items noted
  pub behind : new.shelf.dropped < noted.rank

module _ (old new : Inside) (claim : Running) (fact : Fact) (table : IsTable old)
    (is : Publishes old new claim fact) where
  abbrev all : List RowData
  all = with_row (data_seen old) claim fact

  abbrev new_row : RowData
  new_row = row_of (data_seen old) claim fact

  end : IsEnd all (left old.limit all)
  end = left_ends old.limit all

  all_length : length all ≡ length (rows_seen old.shelf) + 1
  all_length = length-append (rows_seen old.shelf) (new_row ∷ [])

  left_length : length (left old.limit all) + end.gone ≡ length all
  left_length = end_length all (left old.limit all) end

  dropped_is : new.shelf.dropped ≡ old.shelf.dropped + end.gone
  dropped_is =
      let now : length (rows_seen new.shelf) ≡ length (left old.limit all) = ap length is.rows in
      let same : new.shelf.dropped + length (rows_seen new.shelf) ≡ old.shelf.dropped + length all = is.made_is in
      let whole : length (left old.limit all) + end.gone ≡ length all = left_length in
      omega arith

  pub publishes_data : data_seen new ≡ published (data_seen old) claim fact
  publishes_data =
      let whole : length (left old.limit all) + end.gone ≡ length all = left_length in
      let gone : new.shelf.dropped ≡ old.shelf.dropped + end.gone = dropped_is in
      let dropped : new.shelf.dropped ≡ old.shelf.dropped + (length all - length (left old.limit all)) = omega arith in
      same_table (data_seen new) (published (data_seen old) claim fact) is.rows is.claims is.drawn dropped is.limit

  -- a row that stands behind the dropped ones is kept
  kept_row : (place : ℕ) (row : RowData) (noted : Noted) → slice_get all place ≡ Some row
      → row.rank ≡ old.shelf.dropped + 1 + place → row.rank ≡ noted.rank → plan_serial row ≡ noted.judged.plan
      → new.shelf.dropped < noted.rank → HasRow (rows_seen new.shelf) noted
  kept_row place row noted at rank same plan behind =
      let gone : new.shelf.dropped ≡ old.shelf.dropped + end.gone = dropped_is in
      let low : end.gone ≤ place = omega arith in
      record {
        row = row;
        stands = (
          place - end.gone,
          ap (λ (rows : List RowData). slice_get rows (place - end.gone)) is.rows
              ∙ still_at all (left old.limit all) end place row low at,
        );
        rank = same;
        plan = plan;
      }

  old_row : (noted : Noted) (raised : IsRaised (serial_of_plan fact claim.serial) (made (data_seen old) + 1) old.memo.items noted)
      → new.shelf.dropped < noted.rank → noted.rank ≡ raised.before.rank → HasRow (rows_seen new.shelf) noted
  old_row noted raised behind same =
      let has : HasRow (rows_seen old.shelf) raised.before = table.noted raised.before raised.stands in
      kept_row has.stands.0 has.row noted
      (slice_get-push (rows_seen old.shelf) new_row has.row has.stands.0 has.stands.1)
      (table.shelf.kept.ranks has.stands.0 has.row has.stands.1) (has.rank ∙ sym same)
      (has.plan ∙ sym (ap (λ (j : Judged). j.plan) raised.same)) behind

  last_row : (noted : Noted) → new.shelf.dropped < noted.rank → noted.rank ≡ made (data_seen old) + 1
      → noted.judged.plan ≡ serial_of_plan fact claim.serial → HasRow (rows_seen new.shelf) noted
  last_row noted behind rank plan =
      let place : made (data_seen old) + 1 ≡ old.shelf.dropped + 1 + length (rows_seen old.shelf) = omega arith in
      kept_row (length (rows_seen old.shelf)) new_row noted (slice_get-last (rows_seen old.shelf) new_row) place
      (sym rank) (sym plan) behind

  has_row : (noted : Noted) → IsRaised (serial_of_plan fact claim.serial) (made (data_seen old) + 1) old.memo.items noted
      → new.shelf.dropped < noted.rank → HasRow (rows_seen new.shelf) noted
  has_row noted raised behind = elim raised.rank_is [
    | inl same ↦ old_row noted raised behind same
    | inr new ↦ last_row noted behind new.0 new.1
  ]

  is_left : (noted : Noted) → Stands new.memo.items noted → IsLeft old new claim fact noted
  is_left noted stands =
      let there : Stands (remembered new.shelf.dropped is.raised) noted =
      subst (λ (m : List Noted). Stands m noted) is.memo stands in
      let was : WasAt (is_behind new.shelf.dropped) is.raised noted =
      filtered_at (is_behind new.shelf.dropped) is.raised there.0 noted there.1 in
      record {
        raised = is.are_raised.each noted (was.place, was.at);
        behind = behind_from new.shelf.dropped noted was.passes;
      }

  publishes_noted : AllHaveRows (rows_seen new.shelf) new.memo.items
  publishes_noted noted stands = let one = is_left noted stands in has_row noted one.raised one.behind

  pub publishes_judged : AreAmong (judged_seen new.memo.items) (judged_seen old.memo.items)
  publishes_judged = record {
    each = λ judged stands.
        let from : IsMade judged_of new.memo.items judged = made_from judged_of new.memo.items judged stands in
        let one = is_left from.from from.stands in
        subst (Stands (judged_seen old.memo.items)) (sym one.raised.same ∙ from.is)
        (made_of judged_of old.memo.items one.raised.before one.raised.stands);
  }

  pub publishes_rows : HaveRows (rows_seen new.shelf) (judged_seen new.memo.items)
  publishes_rows = record {
    each = λ judged stands.
        let from : IsMade judged_of new.memo.items judged = made_from judged_of new.memo.items judged stands in
        let has : HasRow (rows_seen new.shelf) from.from = publishes_noted from.from from.stands in
        (has.row, has.stands, has.plan ∙ ap (λ (j : Judged). j.plan) from.is);
  }

  pub publishes_table : IsTable new
  publishes_table = record {
    shelf = is.shelf;
    drawn = subst AreDrawn (sym publishes_data) (published_drawn (data_seen old) claim fact is.runs table.drawn);
    fits =
        let low : size (left old.limit all) ≤ old.limit = left_fits old.limit all in
        let same : size (rows_seen new.shelf) ≡ size (left old.limit all) = ap size is.rows in
        let limit : new.limit ≡ old.limit = is.limit in
        omega arith;
    room = record {
      rows =
          let were : deque_len old.shelf.rows + length old.claims.items ≤ deque_capacity old.shelf.rows =
          table.room.rows in
          let less : length new.claims.items + 1 ≤ length old.claims.items =
          fewer_claims old new claim is.runs is.claims in
          let rows_were : deque_len old.shelf.rows ≡ length (rows_seen old.shelf) = row_count old.shelf in
          let rows_are : deque_len new.shelf.rows ≡ length (left old.limit all) =
          row_count new.shelf ∙ ap length is.rows in
          let more : length all ≡ length (rows_seen old.shelf) + 1 = all_length in
          let whole : length (left old.limit all) + end.gone ≡ length all = left_length in
          let capacity : deque_capacity new.shelf.rows ≡ deque_capacity old.shelf.rows = is.capacity in
          omega arith;
      keys = is.known;
    };
    noted = publishes_noted;
    words = same_words old new is.drawn is.limit table.words;
  }
