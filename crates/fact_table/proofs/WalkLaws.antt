-- Rows of a key, found from its newest on: how far the search has come.
use Rattle.std.proofs.Common.{◌≡◌, ◌+◌, ◌-◌, ◌<◌, ◌≤◌, ◌⊎◌, ℕ, zero, suc, List, Some, sym, ap, ◌∙◌, subst, inl, inr, length, slice_get, arith}
use Rattle.std.proofs.lemmas.Option.{same_Some, slice_get_within}
use Rattle.dita_doc.specs.Desk.{State}
use Rattle.dita_doc.specs.declared.fact.FactKey.{FactKey}
use Rattle.facts.specs.Latest.{FactAgrees, IsLast, NoneAgrees, NoneFrom}
use Rattle.facts.specs.Rows.{RowData}
use Rattle.fact_table.specs.Shelf.{IsNewest}

-- a number is below another, or not
pub lower : (a b : ℕ) → (a < b) ⊎ (b ≤ a)
lower zero zero = inr (omega arith)
lower zero (suc b) = inl (omega arith)
lower (suc a) zero = inr (omega arith)
lower (suc a) (suc b) = elim (lower a b) [
  | inl below ↦ inl (omega (arith, below))
  | inr above ↦ inr (omega (arith, above))
]

-- the newest row of the key below some place has this rank, or was dropped; from this place on no row of it agrees
pub record Walk (agrees : FactAgrees) (dropped : ℕ) (rows : List RowData) (key : FactKey) (sources : State) (at : ℕ)
    : Type 0 where
  pub bound : ℕ
  pub newest : IsNewest dropped rows bound key at
  pub none : NoneFrom agrees rows key sources bound

module _ (agrees : FactAgrees) (dropped : ℕ) (rows : List RowData) (key : FactKey) (sources : State) where
  -- it begins behind all rows
  pub begins : (at : ℕ) → IsNewest dropped rows (length rows) key at → Walk agrees dropped rows key sources at
  begins at newest = record {
    bound = length rows;
    newest = newest;
    none = record {
      each = λ place row behind is of agreed.
          let within : place < length rows = slice_get_within rows place row is in
          absurd (omega arith);
    };
  }

  -- of the rows from the newest on only this one may agree
  pub later : (at : ℕ) (walk : Walk agrees dropped rows key sources at) → dropped < at
      → NoneFrom agrees rows key sources (at - dropped - 1 + 1)
  later at walk low = record {
    each = λ place row behind is of agreed.
        elim (lower place walk.bound) [
          | inl below ↦
              let above : dropped + 1 + place ≤ at = walk.newest.none_above place row below is of in
              absurd (omega arith)
          | inr beyond ↦ walk.none.each place row beyond is of agreed
        ];
  }

  -- a row that does not agree is passed over
  pub goes_on : (at older : ℕ) (row : RowData) (walk : Walk agrees dropped rows key sources at) → dropped < at
      → slice_get rows (at - dropped - 1) ≡ Some row → (agrees row.fact sources → ⊥)
      → IsNewest dropped rows (at - dropped - 1) key older → Walk agrees dropped rows key sources older
  goes_on at older row walk low is not newest = record {
    bound = at - dropped - 1;
    newest = newest;
    none = record {
      each = λ place one behind stands of agreed.
          elim (lower place (at - dropped - 1 + 1)) [
            | inl below ↦
                let same : place ≡ at - dropped - 1 = omega arith in
                let found : Some one ≡ Some row = sym stands ∙ ap (slice_get rows) same ∙ is in
                not (subst (λ (r : RowData). agrees r.fact sources) (same_Some one row found) agreed)
            | inr beyond ↦ (later at walk low).each place one beyond stands of agreed
          ];
    };
  }

  -- once the rank is that of a dropped row no row agrees
  pub ends : (at : ℕ) (walk : Walk agrees dropped rows key sources at) → at ≤ dropped → NoneAgrees agrees rows key sources
  ends at walk gone = record {
    each = λ place row behind is of agreed.
        elim (lower place walk.bound) [
          | inl below ↦
              let above : dropped + 1 + place ≤ at = walk.newest.none_above place row below is of in
              absurd (omega arith)
          | inr beyond ↦ walk.none.each place row beyond is of agreed
        ];
  }

  -- a row that agrees is the last
  pub is_last : (at : ℕ) (row : RowData) (walk : Walk agrees dropped rows key sources at) → dropped < at
      → slice_get rows (at - dropped - 1) ≡ Some row → row.fact.key ≡ key → agrees row.fact sources
      → IsLast agrees rows key sources row
  is_last at row walk low is of agreed = record {
    place = at - dropped - 1;
    stands = is;
    of = of;
    agreed = agreed;
    later = later at walk low;
  }

-- the row at the rank is of the key
pub of_key : (dropped : ℕ) (rows : List RowData) (bound : ℕ) (key : FactKey) (at : ℕ) (row : RowData)
    → IsNewest dropped rows bound key at → dropped < at → slice_get rows (at - dropped - 1) ≡ Some row
    → row.fact.key ≡ key
of_key dropped rows bound key at row newest low is =
    let there = newest.here low in
    ap (λ (r : RowData). r.fact.key) (same_Some row there.row (sym is ∙ there.at)) ∙ there.of
