-- The rows that sessions show: those of the rows that were published. Of two that were published the serials differ, and
-- what is shown of a row is one thing, if its lines are cut at each LF.
use Rattle.std.proofs.Common.{◌≡◌, ◌≢◌, ◌<◌, ◌+◌, ◌++◌, ℕ, zero, suc, List, [], ◌∷◌, Option, Some, None, All, AllPairs, Contains, option_map, refl, sym, ap, ◌∙◌, subst, flat_map, ◌⊎◌, inl, inr, ⊎_elim, arith}
use Rattle.std.specs.Arc.{arc_value}
use Rattle.std.specs.List.{slice_get}
use Rattle.std.specs.Option.{option_map_or}
use Rattle.std.specs.declared.alloc.Global.{Global}
use Rattle.std.specs.declared.sync.Arc.{Arc}
use Rattle.std.proofs.lemmas.List.Elements.{All-append, All-cons, All-nil, Contains-append_left, Contains-append_right}
use Rattle.std.proofs.lemmas.List.Kept.{AllPairs-cons}
use Rattle.std.proofs.lemmas.Option.{none-some, same_Some}
use Rattle.dita_doc.specs.Lines.{line, lines_of}
use Rattle.dita_doc.specs.declared.fact.FactKey.{FactKey}
use Rattle.dita_doc.specs.declared.fact.Html.{Html}
use Rattle.facts.specs.Rows.{RowData, Stands}
use Rattle.row_text.specs.RowWritten.{bytes_of, part_shown, row_shown, with_part}
use Rattle.transcript_text.specs.Transcript.{IsContents, IsPage, PartShown, RowShown}
use Rattle.desk_session.specs.Pass.{ShowsRow, part_of}
use Rattle.desk_serve.proofs.KnownLaws.{IsCut}

abbrev listed : Option RowShown → List RowShown
listed None = []
listed (Some shown) = shown ∷ []

-- what is shown of these rows, but of those of plans
abbrev pub rows_shown : List RowData → List RowShown
rows_shown rows = flat_map (λ (row : RowData). listed (row_shown row)) rows

part_again : (part : PartShown) → part_shown (part_of part) ≡ Some part
part_again (IsPage index) = refl
part_again IsContents = refl

pub shown_is : (row : RowData) (shown : RowShown) → ShowsRow row shown → IsCut shown → row_shown row ≡ Some shown
shown_is row shown shows cut =
    ap (option_map (with_part row)) (ap (λ (key : FactKey). part_shown key.part) shows.key ∙ part_again shown.part)
    ∙ ap Some same
  where
    bytes : bytes_of row.fact ≡ flat_map line shown.lines
    bytes = ap (λ (html : Option (Arc Html Global)). option_map_or (λ (one : Arc Html Global). (arc_value one).bytes) html [])
        shows.keeps ∙ shows.bytes

    same : with_part row shown.part ≡ shown
    same i = record {
      serial = shows.serial i;
      part = shown.part;
      map = ap (λ (key : FactKey). key.map) shows.key i;
      val = ap (λ (key : FactKey). key.val) shows.key i;
      lines = (ap lines_of bytes ∙ sym cut) i;
    }

pub is_shown : (rows : List RowData) (k : ℕ) (row : RowData) (shown : RowShown) → slice_get rows k ≡ Some row
    → row_shown row ≡ Some shown → Contains (rows_shown rows) shown
is_shown [] k row shown at is = absurd (none-some row at)
is_shown (first ∷ rows) zero row shown at is =
    let here = ap row_shown (same_Some first row at) ∙ is in
    Contains-append_left (listed (row_shown first)) (rows_shown rows) shown
    (subst (λ (one : Option RowShown). Contains (listed one) shown) (sym here) (0, omega arith, refl))
is_shown (first ∷ rows) (suc k) row shown at is =
    Contains-append_right (listed (row_shown first)) (rows_shown rows) shown (is_shown rows k row shown at is)

-- Serials

-- under one serial there is one row
abbrev pub AreOnce : List RowData → Type 0
AreOnce rows = (k other : ℕ) (row again : RowData) → slice_get rows k ≡ Some row → slice_get rows other ≡ Some again
    → row.serial ≡ again.serial → k ≡ other

abbrev pub DifferentRows : RowShown → RowShown → Type 0
DifferentRows row other = row.serial ≢ other.serial

abbrev HasSerial : ℕ → RowShown → Type 0
HasSerial serial shown = shown.serial ≡ serial

listed_serial : (row : RowData) (part : Option PartShown) → All (HasSerial row.serial) (listed (option_map (with_part row) part))
listed_serial row None = All-nil (HasSerial row.serial)
listed_serial row (Some part) = All-cons (HasSerial row.serial) (with_part row part) [] refl (All-nil (HasSerial row.serial))

module _ (serial : ℕ) where
  abbrev IsOther : RowShown → Type 0
  IsOther shown = serial ≢ shown.serial

  others_listed : (rows : List RowData) → ((k : ℕ) (row : RowData) → slice_get rows k ≡ Some row → serial ≢ row.serial)
      → All IsOther (rows_shown rows)
  others_listed [] differ = All-nil IsOther
  others_listed (row ∷ rows) differ = All-append IsOther (listed (row_shown row)) (rows_shown rows)
      (λ k d within same. differ 0 row refl (same ∙ listed_serial row (part_shown row.fact.key.part) k d within))
      (others_listed rows (λ k. differ (suc k)))

before_all : (row : RowData) (part : Option PartShown) (rest : List RowShown) → All (IsOther row.serial) rest
    → AllPairs DifferentRows rest → AllPairs DifferentRows (listed (option_map (with_part row) part) ++ rest)
before_all row None rest others pairs = pairs
before_all row (Some part) rest others pairs = AllPairs-cons DifferentRows (with_part row part) rest others pairs

pub shown_once : (rows : List RowData) → AreOnce rows → AllPairs DifferentRows (rows_shown rows)
shown_once [] once = λ i j d before within. absurd (omega (arith, within))
shown_once (row ∷ rows) once = before_all row (part_shown row.fact.key.part) (rows_shown rows)
    (others_listed row.serial rows (λ k other at same. absurd (omega (arith, once 0 (suc k) row other refl at same))))
    (shown_once rows (λ k other one again at too same. let r = once (suc k) (suc other) one again at too same in omega (arith, r)))
