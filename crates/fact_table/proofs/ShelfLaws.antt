-- Rows by their ranks: with one more row behind, without the first row, and without a key that has no row.
use Rattle.std.proofs.Common.{◌≡◌, ◌∙◌, ◌+◌, ◌-◌, ◌<◌, ◌≤◌, ◌⊎◌, ℕ, suc, Bool, true, false, List, [], ◌∷◌, ◌++◌, Some, refl, sym, ap, subst, inl, inr, length, slice_get, if◌then◌else◌, nat_le, arith, length-append}
use Rattle.std.proofs.lemmas.Bool.Decides.{leb_tells}
use Rattle.std.proofs.lemmas.List.{length-map}
use Rattle.std.proofs.lemmas.List.Sums.{sum_by-append}
use Rattle.std.proofs.lemmas.Option.{slice_get_within}
use Rattle.dita_doc.specs.declared.fact.FactKey.{FactKey}
use Rattle.facts.proofs.Places.{push_at, slice_get-push}
use Rattle.facts.proofs.TableLaws.{left_whole}
use Rattle.facts.specs.Rows.{RowData, Running, Stands}
use Rattle.facts.specs.Table.{left, size}
use Rattle.fact_table.specs.Ranks.{AreSame, IsRenewed, Ranks, rank_in}
use Rattle.fact_table.specs.Shelf.{AreKept, IsNewest, IsShelf, KnowsClaims, StandsAt, row_of_kept, rows_of, rows_seen}
use Rattle.fact_table.specs.declared.shelf.Kept.{Kept}
use Rattle.fact_table.specs.declared.shelf.Shelf.{Shelf}
use Rattle.fact_table.proofs.KeyLaws.{this_or_other}

-- One more row

slice_get-last : {X : Type 0} (xs : List X) (x : X) → slice_get (xs ++ x ∷ []) (length xs) ≡ Some x
slice_get-last [] x = refl
slice_get-last (y ∷ xs) x = slice_get-last xs x

stands_still : (rows : List RowData) (row : RowData) (place : ℕ) (key : FactKey) → StandsAt rows place key
    → StandsAt (rows ++ row ∷ []) place key
stands_still rows row place key there = record {
  row = there.row;
  at = slice_get-push rows row there.row place there.at;
  of = there.of;
}

-- among the rows that were there it is the newest as before
newest_still : (dropped : ℕ) (rows : List RowData) (row : RowData) (bound : ℕ) (key : FactKey) (rank : ℕ)
    → bound ≤ length rows → IsNewest dropped rows bound key rank → IsNewest dropped (rows ++ row ∷ []) bound key rank
newest_still dropped rows row bound key rank low newest = record {
  none_above = λ place one within at of.
      elim (push_at rows row one place at) [
        | inl old ↦ newest.none_above place one within old of
        | inr new ↦ let where_is : place ≡ length rows = new.0 in absurd (omega arith)
      ];
  below = newest.below;
  here = λ above. stands_still rows row (rank - dropped - 1) key (newest.here above);
}

-- of its own key the new row is the newest
newest_new : (dropped : ℕ) (rows : List RowData) (row : RowData) (key : FactKey) (rank : ℕ) → row.fact.key ≡ key
    → rank ≡ dropped + length rows + 1 → IsNewest dropped (rows ++ row ∷ []) (length rows + 1) key rank
newest_new dropped rows row key rank of is = record {
  none_above = λ place one within at other. omega arith;
  below = λ above. omega arith;
  here = λ above. record {
    row = row;
    at =
        let place : rank - dropped - 1 ≡ length rows = omega arith in
        ap (slice_get (rows ++ row ∷ [])) place ∙ slice_get-last rows row;
    of = of;
  };
}

-- of another key it is none
newest_other : (dropped : ℕ) (rows : List RowData) (row : RowData) (key : FactKey) (rank : ℕ)
    → (row.fact.key ≡ key → ⊥) → IsNewest dropped rows (length rows) key rank
    → IsNewest dropped (rows ++ row ∷ []) (length rows + 1) key rank
newest_other dropped rows row key rank differs newest = record {
  none_above = λ place one within at of.
      elim (push_at rows row one place at) [
        | inl old ↦ newest.none_above place one (slice_get_within rows place one old) old of
        | inr new ↦ absurd (differs (sym (ap (λ (r : RowData). r.fact.key) new.1) ∙ of))
      ];
  below = λ above. let low : rank ≤ dropped + length rows = newest.below above in omega arith;
  here = λ above. stands_still rows row (rank - dropped - 1) key (newest.here above);
}

rows_push : (kept : List Kept) (one : Kept) → rows_of (kept ++ one ∷ []) ≡ rows_of kept ++ row_of_kept one ∷ []
rows_push [] one = refl
rows_push (first ∷ kept) one = ap (λ (rest : List RowData). row_of_kept first ∷ rest) (rows_push kept one)

pub put_kept : (kept : List Kept) (one : Kept) (dropped : ℕ) → AreKept kept dropped
    → (row_of_kept one).rank ≡ dropped + length (rows_of kept) + 1
    → IsNewest dropped (rows_of kept) (length (rows_of kept)) (row_of_kept one).fact.key one.older
    → AreKept (kept ++ one ∷ []) dropped
put_kept kept one dropped are rank newest = record {
  ranks = λ place row at.
      elim (push_at (rows_of kept) (row_of_kept one) row place (sym (ap (λ (rows : List RowData). slice_get rows place) (rows_push kept one)) ∙ at)) [
        | inl old ↦ are.ranks place row old
        | inr new ↦
            let where_is : place ≡ length (rows_of kept) = new.0 in
            let rank_is : row.rank ≡ (row_of_kept one).rank = ap (λ (r : RowData). r.rank) new.1 in
            omega arith
      ];
  older = λ place other at.
      subst (λ rows. IsNewest dropped rows place (row_of_kept other).fact.key other.older) (sym (rows_push kept one))
      (elim (push_at kept one other place at) [
        | inl old ↦
            let within : place < length kept = slice_get_within kept place other old in
            let long : length (rows_of kept) ≡ length kept = length-map kept row_of_kept in
            newest_still dropped (rows_of kept) (row_of_kept one) place (row_of_kept other).fact.key other.older
            (omega arith) (are.older place other old)
        | inr new ↦ placed place other new.0 new.1
      ]);
} where
  placed : (place : ℕ) (other : Kept) → place ≡ length kept → other ≡ one
      → IsNewest dropped (rows_of kept ++ row_of_kept one ∷ []) place (row_of_kept other).fact.key other.older
  placed place other where_is same =
      let long : length (rows_of kept) ≡ length kept = length-map kept row_of_kept in
      subst (λ (k : Kept). IsNewest dropped (rows_of kept ++ row_of_kept one ∷ []) place (row_of_kept k).fact.key k.older)
      (sym same)
      (subst (λ (n : ℕ). IsNewest dropped (rows_of kept ++ row_of_kept one ∷ []) n (row_of_kept one).fact.key one.older)
      (long ∙ sym where_is)
      (newest_still dropped (rows_of kept) (row_of_kept one) (length (rows_of kept)) (row_of_kept one).fact.key one.older
      (omega arith) newest))

-- a row is put behind the others, and the rank of its key is renewed
pub put_is : (old new : Shelf) (one : Kept) → IsShelf old → new.rows.items ≡ old.rows.items ++ one ∷ []
    → new.dropped ≡ old.dropped → new.bytes ≡ old.bytes + (row_of_kept one).bytes
    → (row_of_kept one).rank ≡ old.dropped + length (rows_seen old) + 1
    → one.older ≡ rank_in old.newest (row_of_kept one).fact.key
    → IsRenewed (row_of_kept one).fact.key (row_of_kept one).rank old.newest new.newest → IsShelf new
put_is old new one is items dropped bytes rank older renewed = record {
  kept = subst (λ kept. AreKept kept new.dropped) (sym items)
      (subst (λ n. AreKept (old.rows.items ++ one ∷ []) n) (sym dropped)
      (put_kept old.rows.items one old.dropped is.kept rank
      (subst (λ n. IsNewest old.dropped (rows_seen old) (length (rows_seen old)) row.fact.key n) (sym older)
      (is.newest row.fact.key))));
  newest = λ key. subst (λ rows. IsNewest new.dropped rows (length rows) key (rank_in new.newest key)) (sym rows_are)
      (subst (λ n. IsNewest n (rows_seen old ++ row ∷ []) (length (rows_seen old ++ row ∷ [])) key (rank_in new.newest key))
      (sym dropped)
      (subst (λ n. IsNewest old.dropped (rows_seen old ++ row ∷ []) n key (rank_in new.newest key))
      (sym (length-append (rows_seen old) (row ∷ []))) (newest_of key)));
  bytes = bytes ∙ ap (λ n. n + row.bytes) is.bytes ∙ sym size_is ∙ sym (ap size rows_are);
} where
  row : RowData
  row = row_of_kept one

  rows_are : rows_seen new ≡ rows_seen old ++ row ∷ []
  rows_are = ap rows_of items ∙ rows_push old.rows.items one

  size_is : size (rows_seen old ++ row ∷ []) ≡ size (rows_seen old) + row.bytes
  size_is =
      let both : size (rows_seen old ++ row ∷ []) ≡ size (rows_seen old) + size (row ∷ []) =
      sum_by-append (λ (r : RowData). r.bytes) (rows_seen old) (row ∷ []) in
      let alone : size (row ∷ []) ≡ row.bytes = omega arith in
      omega arith

  newest_of : (key : FactKey)
      → IsNewest old.dropped (rows_seen old ++ row ∷ []) (length (rows_seen old) + 1) key (rank_in new.newest key)
  newest_of key = elim (this_or_other row.fact.key key) [
    | inl same ↦ newest_new old.dropped (rows_seen old) row key (rank_in new.newest key) (sym same)
        (ap (rank_in new.newest) same ∙ renewed.here ∙ rank)
    | inr differ ↦ newest_other old.dropped (rows_seen old) row key (rank_in new.newest key) (λ e. differ (sym e))
        (subst (IsNewest old.dropped (rows_seen old) (length (rows_seen old)) key) (sym (renewed.others key differ))
        (is.newest key))
  ]

-- Without the first row

pub size_first : (first : RowData) (rows : List RowData) → size (first ∷ rows) ≡ first.bytes + size rows
size_first first rows =
    let both : size (first ∷ rows) ≡ size (first ∷ []) + size rows =
    sum_by-append (λ (r : RowData). r.bytes) (first ∷ []) rows in
    let one : size (first ∷ []) ≡ first.bytes = omega arith in
    omega arith

drop_newest : (dropped : ℕ) (first : RowData) (rows : List RowData) (bound : ℕ) (key : FactKey) (rank : ℕ)
    → IsNewest dropped (first ∷ rows) (bound + 1) key rank → IsNewest (dropped + 1) rows bound key rank
drop_newest dropped first rows bound key rank newest = record {
  none_above = λ place row within at of.
      let low : dropped + 1 + (suc place) ≤ rank = newest.none_above (suc place) row (omega arith) at of in
      omega arith;
  below = λ above. let low : rank ≤ dropped + (bound + 1) = newest.below (omega arith) in omega arith;
  here = λ above.
      let there = newest.here (omega arith) in
      let place : rank - dropped - 1 ≡ suc (rank - (dropped + 1) - 1) = omega arith in
      record {
        row = there.row;
        at = sym (ap (slice_get (first ∷ rows)) place) ∙ there.at;
        of = there.of;
      };
}

-- the first row goes
pub drop_is : (old new : Shelf) (one : Kept) → IsShelf old → old.rows.items ≡ one ∷ new.rows.items
    → new.dropped ≡ old.dropped + 1 → new.newest ≡ old.newest → old.bytes ≡ new.bytes + (row_of_kept one).bytes
    → IsShelf new
drop_is old new one is items dropped ranks bytes = record {
  kept = record {
    ranks = λ place row at.
        let behind : row.rank ≡ old.dropped + 1 + (suc place) = is.kept.ranks (suc place) row (row_behind place row at) in
        omega arith;
    older = λ place kept at.
        subst (λ n. IsNewest n (rows_seen new) place (row_of_kept kept).fact.key kept.older) (sym dropped)
        (drop_newest old.dropped (row_of_kept one) (rows_seen new) place (row_of_kept kept).fact.key kept.older
        (subst (λ rows. IsNewest old.dropped rows (place + 1) (row_of_kept kept).fact.key kept.older) rows_are
        (subst (λ n. IsNewest old.dropped (rows_seen old) n (row_of_kept kept).fact.key kept.older) (next place)
        (is.kept.older (suc place) kept (kept_behind place kept at)))));
  };
  newest = λ key.
      subst (λ n. IsNewest n (rows_seen new) (length (rows_seen new)) key (rank_in new.newest key)) (sym dropped)
      (drop_newest old.dropped (row_of_kept one) (rows_seen new) (length (rows_seen new)) key (rank_in new.newest key)
      (subst (λ n. IsNewest old.dropped (row_of_kept one ∷ rows_seen new) n key (rank_in new.newest key))
      (next (length (rows_seen new)))
      (subst (λ rows. IsNewest old.dropped rows (length rows) key (rank_in new.newest key)) rows_are
      (subst (λ (ranks : Ranks). IsNewest old.dropped (rows_seen old) (length (rows_seen old)) key (rank_in ranks key))
      (sym ranks) (is.newest key)))));
  bytes =
      let whole : old.bytes ≡ (row_of_kept one).bytes + size (rows_seen new) =
      is.bytes ∙ ap size rows_are ∙ size_first (row_of_kept one) (rows_seen new) in
      omega arith;
} where
  next : (n : ℕ) → suc n ≡ n + 1
  next n = omega arith

  rows_are : rows_seen old ≡ row_of_kept one ∷ rows_seen new
  rows_are = ap rows_of items

  row_behind : (place : ℕ) (row : RowData) → slice_get (rows_seen new) place ≡ Some row
      → slice_get (rows_seen old) (suc place) ≡ Some row
  row_behind place row at = ap (λ (rows : List RowData). slice_get rows (suc place)) rows_are ∙ at

  kept_behind : (place : ℕ) (kept : Kept) → slice_get new.rows.items place ≡ Some kept
      → slice_get old.rows.items (suc place) ≡ Some kept
  kept_behind place kept at = ap (λ (all : List Kept). slice_get all (suc place)) items ∙ at

-- the first row counts for no more than all
pub first_low : (shelf : Shelf) (one : Kept) (rest : List Kept) → IsShelf shelf → shelf.rows.items ≡ one ∷ rest
    → (row_of_kept one).bytes ≤ shelf.bytes
first_low shelf one rest is items =
    let whole : shelf.bytes ≡ (row_of_kept one).bytes + size (rows_of rest) =
    is.bytes ∙ ap (λ (all : List Kept). size (rows_of all)) items ∙ size_first (row_of_kept one) (rows_of rest) in
    omega arith

-- Rows that go while the bytes exceed a limit

-- no bytes are above a limit if there is no row
pub some_row : (shelf : Shelf) (limit : ℕ) → IsShelf shelf → limit < shelf.bytes → 0 < length (rows_seen shelf)
some_row shelf limit is over = by_rows (rows_seen shelf) (λ none. no_bytes none) where
  no_bytes : rows_seen shelf ≡ [] → ⊥
  no_bytes none =
      let bytes : shelf.bytes ≡ 0 = is.bytes ∙ ap size none in
      omega arith

  by_rows : (rows : List RowData) → (rows ≡ [] → ⊥) → 0 < length rows
  by_rows [] some = absurd (some refl)
  by_rows (row ∷ rows) some = omega arith

left_more : (b : Bool) (limit : ℕ) (row : RowData) (rows : List RowData)
    → ((b ≡ true) × (size (row ∷ rows) ≤ limit)) ⊎ ((b ≡ false) × (limit < size (row ∷ rows)))
    → limit < size (row ∷ rows) → (if b then row ∷ rows else left limit rows) ≡ left limit rows
left_more b limit row rows (inl within) over = absurd (let low : size (row ∷ rows) ≤ limit = within.1 in omega arith)
left_more b limit row rows (inr more) over = ap (λ (t : Bool). if t then row ∷ rows else left limit rows) more.0

-- one row less is left of the same
pub left_rest : (shelf : Shelf) (limit : ℕ) (row : RowData) (rows : List RowData) → IsShelf shelf → limit < shelf.bytes
    → rows_seen shelf ≡ row ∷ rows → left limit rows ≡ left limit (rows_seen shelf)
left_rest shelf limit row rows is over same =
    let bytes : shelf.bytes ≡ size (row ∷ rows) = is.bytes ∙ ap size same in
    sym (left_more (nat_le (size (row ∷ rows)) limit) limit row rows (leb_tells (size (row ∷ rows)) limit) (omega arith))
    ∙ sym (ap (left limit) same)

-- within the limit all are left
pub left_all : (shelf : Shelf) (limit : ℕ) → IsShelf shelf → shelf.bytes ≤ limit
    → rows_seen shelf ≡ left limit (rows_seen shelf)
left_all shelf limit is within =
    let bytes : shelf.bytes ≡ size (rows_seen shelf) = is.bytes in
    sym (left_whole limit (rows_seen shelf) (omega arith))

-- The same rows

-- a rank of a row that is gone is as good as 0
gone_newest : (dropped : ℕ) (rows : List RowData) (bound : ℕ) (key : FactKey) (rank : ℕ) → rank ≤ dropped
    → IsNewest dropped rows bound key rank → IsNewest dropped rows bound key 0
gone_newest dropped rows bound key rank gone newest = record {
  none_above = λ place row within at of.
      let low : dropped + 1 + place ≤ rank = newest.none_above place row within at of in
      absurd (omega arith);
  below = λ above. absurd (omega arith);
  here = λ above. absurd (omega arith);
}

-- a key without a row is forgotten
pub forget_is : (old new : Shelf) (key : FactKey) → IsShelf old → new.rows.items ≡ old.rows.items
    → new.dropped ≡ old.dropped
    → new.bytes ≡ old.bytes → rank_in old.newest key ≤ old.dropped → IsRenewed key 0 old.newest new.newest → IsShelf new
forget_is old new key is items dropped bytes gone renewed = record {
  kept = subst (λ n. AreKept new.rows.items n) (sym dropped)
      (subst (λ kept. AreKept kept old.dropped) (sym items) is.kept);
  newest = λ other. subst (λ n. IsNewest n (rows_seen new) (length (rows_seen new)) other (rank_in new.newest other))
      (sym dropped)
      (subst (λ all. IsNewest old.dropped all (length all) other (rank_in new.newest other)) (sym rows_are)
      (elim (this_or_other key other) [
        | inl same ↦
            subst (λ k. IsNewest old.dropped (rows_seen old) (length (rows_seen old)) k (rank_in new.newest k)) (sym same)
            (subst (IsNewest old.dropped (rows_seen old) (length (rows_seen old)) key) (sym renewed.here)
            (gone_newest old.dropped (rows_seen old) (length (rows_seen old)) key (rank_in old.newest key) gone
            (is.newest key)))
        | inr differ ↦ subst (IsNewest old.dropped (rows_seen old) (length (rows_seen old)) other)
            (sym (renewed.others other differ)) (is.newest other)
      ]));
  bytes = bytes ∙ is.bytes ∙ sym (ap size rows_are);
} where
  rows_are : rows_seen new ≡ rows_seen old
  rows_are = ap rows_of items

-- no row and no rank changes
pub reserve_is : (old new : Shelf) → IsShelf old → new.rows.items ≡ old.rows.items → new.dropped ≡ old.dropped
    → new.bytes ≡ old.bytes → AreSame old.newest new.newest → IsShelf new
reserve_is old new is items dropped bytes same = record {
  kept = subst (λ n. AreKept new.rows.items n) (sym dropped)
      (subst (λ kept. AreKept kept old.dropped) (sym items) is.kept);
  newest = λ key. subst (λ n. IsNewest n (rows_seen new) (length (rows_seen new)) key (rank_in new.newest key)) (sym dropped)
      (subst (λ all. IsNewest old.dropped all (length all) key (rank_in new.newest key)) (sym (ap rows_of items))
      (subst (IsNewest old.dropped (rows_seen old) (length (rows_seen old)) key) (sym (same.rank key)) (is.newest key)));
  bytes = bytes ∙ is.bytes ∙ sym (ap (λ all. size (rows_of all)) items);
}

-- Keys of claims

pub knows_still : (old new : Ranks) (running : List Running) → AreSame old new → KnowsClaims old running
    → KnowsClaims new running
knows_still old new running same knows =
    record { each = λ claim stands. same.known claim.key (knows.each claim stands) }

-- a key that no claim has is forgotten
pub knows_others : (old new : Ranks) (running : List Running) (key : FactKey)
    → ((claim : Running) → Stands running claim → claim.key ≡ key → ⊥) → IsRenewed key 0 old new
    → KnowsClaims old running → KnowsClaims new running
knows_others old new running key none renewed knows = record {
  each = λ claim stands. renewed.known claim.key (none claim stands) (knows.each claim stands);
}
