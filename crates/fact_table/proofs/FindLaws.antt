-- Rows that are read at their ranks, while the rows of a key are sought.
use Rattle.std.proofs.Common.{◌≡◌, ◌∙◌, ◌+◌, ◌-◌, ◌<◌, ◌≤◌, ℕ, Bool, List, Some, sym, ap, subst, inl, inr, length, option_map, slice_get, slice_index_or, arith}
use Rattle.std.proofs.lemmas.List.{length-map}
use Rattle.std.proofs.lemmas.Option.{slice_get-map, slice_get_read, slice_get_within}
use Rattle.dita_doc.specs.Desk.{State}
use Rattle.dita_doc.specs.declared.fact.FactKey.{FactKey}
use Rattle.facts.specs.Judged.{BuildKey, Tells}
use Rattle.facts.specs.Latest.{FactAgrees, IsLast}
use Rattle.facts.specs.Memo.{PlanAgrees}
use Rattle.facts.specs.Rows.{RowData, Stands}
use Rattle.facts.specs.declared.fact.Fact.{Fact}
use Rattle.facts.specs.declared.judged.Judged.{Judged}
use Rattle.fact_table.specs.Noted.{MayJudge}
use Rattle.fact_table.specs.Shelf.{IsNewest, IsShelf, row_of_kept, rows_seen}
use Rattle.fact_table.specs.declared.shelf.Kept.{Kept}
use Rattle.fact_table.specs.declared.shelf.Shelf.{Shelf}
use Rattle.fact_table.proofs.WalkLaws.{Walk, goes_on, is_last, lower, of_key}

-- a rank that is not of a dropped row is that of a kept one
pub is_within : (agrees : FactAgrees) (shelf : Shelf) (key : FactKey) (sources : State) (at : ℕ)
    → Walk agrees shelf.dropped (rows_seen shelf) key sources at → shelf.dropped < at
    → at - shelf.dropped - 1 < shelf.rows.len
is_within agrees shelf key sources at walk above =
    let there = walk.newest.here above in
    let within : at - shelf.dropped - 1 < length (rows_seen shelf) =
    slice_get_within (rows_seen shelf) (at - shelf.dropped - 1) there.row there.at in
    let long : length (rows_seen shelf) ≡ length shelf.rows.items = length-map shelf.rows.items row_of_kept in
    let len : shelf.rows.len ≡ length shelf.rows.items = shelf.rows.ok.0 in
    omega arith

-- what is read there
pub record IsRead (shelf : Shelf) (at : ℕ) (kept : Kept) : Type 0 where
  pub above : shelf.dropped < at
  pub within : at - shelf.dropped - 1 < shelf.rows.len
  pub is : kept ≡ slice_index_or shelf.rows.items (at - shelf.dropped - 1) kept

module _ (agrees : FactAgrees) (shelf : Shelf) (key : FactKey) (sources : State) (at : ℕ) (kept : Kept)
    (walk : Walk agrees shelf.dropped (rows_seen shelf) key sources at) (read : IsRead shelf at kept) where
  abbrev place : ℕ
  place = at - shelf.dropped - 1

  abbrev row : RowData
  row = row_of_kept kept

  kept_at : slice_get shelf.rows.items place ≡ Some kept
  kept_at = slice_get_read shelf.rows.items shelf.rows.len place kept shelf.rows.ok.0 read.within read.is

  row_at : slice_get (rows_seen shelf) place ≡ Some row
  row_at = slice_get-map row_of_kept shelf.rows.items place ∙ ap (option_map row_of_kept) kept_at

  pub row_stands : Stands (rows_seen shelf) row
  row_stands = (place, row_at)

  pub row_of_key : row.fact.key ≡ key
  row_of_key = of_key shelf.dropped (rows_seen shelf) walk.bound key at row walk.newest read.above row_at

  older_newest : IsShelf shelf → IsNewest shelf.dropped (rows_seen shelf) place key kept.older
  older_newest is = subst (λ k. IsNewest shelf.dropped (rows_seen shelf) place k kept.older) row_of_key
      (is.kept.older place kept kept_at)

  -- the row of the key before it has a lower rank
  pub older_lower : IsShelf shelf → kept.older < at
  older_lower is =
      let above : shelf.dropped < at = read.above in
      elim (lower shelf.dropped kept.older) [
        | inl high ↦
            let below : kept.older ≤ shelf.dropped + place = (older_newest is).below high in
            omega arith
        | inr gone ↦ omega arith
      ]

  -- it agrees: it is the last that does
  pub agreed_last : agrees row.fact sources → IsLast agrees (rows_seen shelf) key sources row
  agreed_last agreed =
      is_last agrees shelf.dropped (rows_seen shelf) key sources at row walk read.above row_at row_of_key agreed

  -- it does not: the search goes on
  pub walk_on : IsShelf shelf → (agrees row.fact sources → ⊥)
      → Walk agrees shelf.dropped (rows_seen shelf) key sources kept.older
  walk_on is not = goes_on agrees shelf.dropped (rows_seen shelf) key sources at kept.older row walk read.above row_at not
      (older_newest is)

-- the judge's sources and build are those of the beginning
pub may_judge : (plan_agrees : PlanAgrees) (own_agrees : FactAgrees) (sound : Fact → Type 0) (first now : State)
    (first_build build : BuildKey) (stamp : ℕ) (all : List Judged) (row : RowData) → now ≡ first → build ≡ first_build
    → MayJudge plan_agrees own_agrees sound first first_build stamp all row
    → MayJudge plan_agrees own_agrees sound now build stamp all row
may_judge plan_agrees own_agrees sound first now first_build build stamp all row same same_build may =
    subst (λ (s : State). MayJudge plan_agrees own_agrees sound s build stamp all row) (sym same)
    (subst (λ (b : BuildKey). MayJudge plan_agrees own_agrees sound first b stamp all row) (sym same_build) may)

-- what a judge's answer tells of the sources of the beginning
pub tells_first : (agrees : Fact → State → Type 0) (fact : Fact) (first now : State) (answer said : Bool) → now ≡ first
    → answer ≡ said → Tells answer (agrees fact now) → Tells said (agrees fact first)
tells_first agrees fact first now answer said same is tells =
    subst (λ (b : Bool). Tells b (agrees fact first)) is
    (subst (λ (s : State). Tells answer (agrees fact s)) same tells)
