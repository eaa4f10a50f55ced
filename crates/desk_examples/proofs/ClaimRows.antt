-- What a claim is answered, on small tables: the last row of the key that agrees, also if an older one does; the claim
-- that runs; the next serial.
use Rattle.std.proofs.Common.{◌≡◌, ◌+◌, ℕ, zero, suc, ◌≤◌, [], ◌∷◌, Some, refl, slice_get, subst, sym, ap, arith}
use Rattle.std.proofs.lemmas.Option.{none-some, same_Some}
use Rattle.dita_doc.specs.Desk.{State}
use Rattle.dita_doc.specs.declared.fact.Part.TheVariants as parts
use Rattle.facts.specs.Latest.{FactAgrees, Have, IsClaimAnswer, NoneAgrees, NoneRuns, Taken, Yours}
use Rattle.facts.specs.Rows.{Claim, RowData, Running}
use Rattle.facts.specs.Table.{TableData}
use Rattle.desk_examples.proofs.Small.{Share, contents, key_of, row, running, table, three_rows}

serials_differ : {X : Type 0} {m n : ℕ} → m ≡ n → (m ≡ n → ⊥) → X
serials_differ same apart = absurd (apart same)

-- the first two agree, and the third does not
module _ (agrees : FactAgrees) (plan : Share) (sources : State) (first : agrees (contents plan 1) sources)
    (second : agrees (contents plan 2) sources) (third : agrees (contents plan 3) sources → ⊥) where
  abbrev three : TableData
  three = table (three_rows plan) [] 3 0 1000

  behind : (place : ℕ) (found : RowData) → 2 ≤ place → slice_get (three_rows plan) place ≡ Some found
      → agrees found.fact sources → ⊥
  behind zero found low at agreed = absurd (omega arith)
  behind (suc zero) found low at agreed = absurd (omega arith)
  behind (suc (suc zero)) found low at agreed =
      third (subst (λ (r : RowData). agrees r.fact sources) (sym (same_Some (row plan 3 100) found at)) agreed)
  behind (suc (suc (suc place))) found low at agreed = none-some found at

  second_is_had : IsClaimAnswer agrees three (key_of parts.Contents) 5 sources (Have (row plan 2 100))
  second_is_had = record {
    place = 1;
    stands = refl;
    of = refl;
    agreed = second;
    later = record { each = λ place found low at of agreed. behind place found low at agreed };
  }

  -- not the first
  place_of_first : (place : ℕ) → slice_get (three_rows plan) place ≡ Some (row plan 1 100) → place ≡ 0
  place_of_first zero at = refl
  place_of_first (suc zero) at =
      serials_differ (ap (λ (r : RowData). r.serial) (same_Some (row plan 2 100) (row plan 1 100) at)) (omega arith)
  place_of_first (suc (suc zero)) at =
      serials_differ (ap (λ (r : RowData). r.serial) (same_Some (row plan 3 100) (row plan 1 100) at)) (omega arith)
  place_of_first (suc (suc (suc place))) at = absurd (none-some (row plan 1 100) at)

  first_is_refused : IsClaimAnswer agrees three (key_of parts.Contents) 5 sources (Have (row plan 1 100)) → ⊥
  first_is_refused had = had.later.each 1 (row plan 2 100)
      (subst (λ place. place + 1 ≤ 1) (sym (place_of_first had.place had.stands)) (omega arith)) refl refl second

  -- and no claim is drawn, whatever its serial is
  none_is_drawn : (claim : Claim) → IsClaimAnswer agrees three (key_of parts.Contents) 5 sources (Yours claim) → ⊥
  none_is_drawn claim drawn = drawn.none_agrees.each 0 (row plan 1 100) (omega arith) refl refl first

-- a claim runs, for the contents page and the stamp 5
module _ (agrees : FactAgrees) (plan : Share) (sources : State)
    (none_agrees : NoneAgrees agrees (three_rows plan) (key_of parts.Contents) sources) where
  abbrev one_runs : TableData
  one_runs = table (three_rows plan) (running 7 parts.Contents 5 ∷ []) 9 0 1000

  taken : IsClaimAnswer agrees one_runs (key_of parts.Contents) 5 sources (Taken 7)
  taken = record {
    none_agrees = none_agrees;
    claim = running 7 parts.Contents 5;
    runs = record { stands = (0, refl); of = refl; at = refl };
    number = refl;
  }

  -- for the next stamp none runs
  stamp_of_running : (claim : Running) (place : ℕ) → slice_get one_runs.running place ≡ Some claim → claim.stamp ≡ 5
  stamp_of_running claim zero at = sym (ap (λ (c : Running). c.stamp) (same_Some (running 7 parts.Contents 5) claim at))
  stamp_of_running claim (suc place) at = absurd (none-some claim at)

  none_runs : NoneRuns one_runs.running (key_of parts.Contents) 6
  none_runs claim runs = differ (stamp_of_running claim runs.stands.0 runs.stands.1) runs.at where
    differ : {n : ℕ} → n ≡ 5 → n ≡ 6 → ⊥
    differ one other = omega arith

  yours : IsClaimAnswer agrees one_runs (key_of parts.Contents) 6 sources
      (Yours (record { serial = 10; key = key_of parts.Contents; stamp = 6 }))
  yours = record { none_agrees = none_agrees; none_runs = none_runs; drawn = refl }

  -- not the serial that was drawn last, and none beyond the next
  serial_is_next : (serial : ℕ) → IsClaimAnswer agrees one_runs (key_of parts.Contents) 6 sources
      (Yours (record { serial = serial; key = key_of parts.Contents; stamp = 6 })) → serial ≡ 10
  serial_is_next serial drawn = ap (λ (c : Claim). c.serial) drawn.drawn
