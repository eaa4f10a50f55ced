-- What is left of rows within a limit: an end of them that is within it, and all of them if they are.
use Rattle.std.proofs.Common.{◌≡◌, ◌<◌, ◌≤◌, ◌⊎◌, ℕ, suc, Bool, true, false, List, [], ◌∷◌, refl, sym, ap, subst, inl, inr, length, if◌then◌else◌, nat_le, arith}
use Rattle.std.proofs.lemmas.Bool.Decides.{leb_tells}
use Rattle.facts.proofs.Places.{IsEnd}
use Rattle.facts.specs.Rows.{RowData}
use Rattle.facts.specs.Table.{left, size}

ends_if : (b : Bool) (row : RowData) (rows rest : List RowData) → IsEnd rows rest
    → IsEnd (row ∷ rows) (if b then row ∷ rows else rest)
ends_if true row rows rest end = record { gone = 0; within = omega arith; is = refl }
ends_if false row rows rest end = record {
  gone = suc end.gone;
  within = let low : end.gone ≤ length rows = end.within in omega arith;
  is = end.is;
}

pub left_ends : (limit : ℕ) (rows : List RowData) → IsEnd rows (left limit rows)
left_ends limit [] = record { gone = 0; within = omega arith; is = refl }
left_ends limit (row ∷ rows) =
    ends_if (nat_le (size (row ∷ rows)) limit) row rows (left limit rows) (left_ends limit rows)

-- what a test of a limit tells
abbrev Tested : Bool → ℕ → ℕ → Type 0
Tested b bytes limit = ((b ≡ true) × (bytes ≤ limit)) ⊎ ((b ≡ false) × (limit < bytes))

fits_if : (b : Bool) (limit : ℕ) (row : RowData) (rows rest : List RowData) → Tested b (size (row ∷ rows)) limit
    → size rest ≤ limit → size (if b then row ∷ rows else rest) ≤ limit
fits_if b limit row rows rest (inl within) fits =
    subst (λ b. size (if b then row ∷ rows else rest) ≤ limit) (sym within.0) within.1
fits_if b limit row rows rest (inr over) fits =
    subst (λ b. size (if b then row ∷ rows else rest) ≤ limit) (sym over.0) fits

pub left_fits : (limit : ℕ) (rows : List RowData) → size (left limit rows) ≤ limit
left_fits limit [] = omega arith
left_fits limit (row ∷ rows) = fits_if (nat_le (size (row ∷ rows)) limit) limit row rows (left limit rows)
    (leb_tells (size (row ∷ rows)) limit) (left_fits limit rows)

whole_if : (b : Bool) (limit : ℕ) (row : RowData) (rows rest : List RowData) → Tested b (size (row ∷ rows)) limit
    → size (row ∷ rows) ≤ limit → (if b then row ∷ rows else rest) ≡ row ∷ rows
whole_if b limit row rows rest (inl within) fits = ap (λ b. if b then row ∷ rows else rest) within.0
whole_if b limit row rows rest (inr over) fits =
    let above : limit < size (row ∷ rows) = over.1 in
    absurd (omega arith)

pub left_whole : (limit : ℕ) (rows : List RowData) → size rows ≤ limit → left limit rows ≡ rows
left_whole limit [] fits = refl
left_whole limit (row ∷ rows) fits = whole_if (nat_le (size (row ∷ rows)) limit) limit row rows (left limit rows)
    (leb_tells (size (row ∷ rows)) limit) fits
