-- What a claim is answered, put together from its steps: over the judge's sources, which are those of the snapshot, and
-- of the table as the search for a row has left it, which is the table as it was.
use Rattle.std.proofs.Common.{◌≡◌, ◌∙◌, ℕ, List, ap, subst, sym}
use Rattle.dita_doc.specs.Desk.{State}
use Rattle.dita_doc.specs.declared.fact.FactKey.{FactKey}
use Rattle.facts.specs.Latest.{FactAgrees, IsDrawn, IsLast, IsTaken, NoneAgrees, NoneRuns}
use Rattle.facts.specs.Memo.{MayNote, PlanAgrees}
use Rattle.facts.specs.Rows.{Claim, RowData, claim_of}
use Rattle.facts.specs.Table.{TableData, next_claim}
use Rattle.facts.specs.declared.judged.Judged.{Judged}
use Rattle.fact_table.specs.Claims.{IsSerialFor}

pub noted_over : (agrees : PlanAgrees) (judges sources : State) (stamp : ℕ) (rows : List RowData) (old new : List Judged)
    → judges ≡ sources → MayNote agrees judges stamp rows old new → MayNote agrees sources stamp rows old new
noted_over agrees judges sources stamp rows old new same =
    subst (λ (s : State). MayNote agrees s stamp rows old new) same

-- the judgements after a claim was drawn are those that the search noted
pub noted_then : (agrees : PlanAgrees) (judges sources : State) (stamp : ℕ) (rows : List RowData)
    (old found new : List Judged) → new ≡ found → judges ≡ sources → MayNote agrees judges stamp rows old found
    → MayNote agrees sources stamp rows old new
noted_then agrees judges sources stamp rows old found new kept same noted =
    subst (MayNote agrees sources stamp rows old) (sym kept)
    (noted_over agrees judges sources stamp rows old found same noted)

module _ (agrees : FactAgrees) (first now : TableData) (key : FactKey) (stamp : ℕ) (judges sources : State)
    (table : now ≡ first) (same : judges ≡ sources) where
  pub have_is : (row : RowData) → IsLast agrees first.rows key judges row → IsLast agrees first.rows key sources row
  have_is row = subst (λ (s : State). IsLast agrees first.rows key s row) same

  none_is : NoneAgrees agrees first.rows key judges → NoneAgrees agrees first.rows key sources
  none_is = subst (λ (s : State). NoneAgrees agrees first.rows key s) same

  pub taken_is : (serial : ℕ) → NoneAgrees agrees first.rows key judges → IsSerialFor now.running key stamp serial
      → IsTaken agrees first key stamp sources serial
  taken_is serial none found =
      let for = subst (λ (t : TableData). IsSerialFor t.running key stamp serial) table found in
      record { none_agrees = none_is none; claim = for.claim; runs = for.runs; number = for.number }

  pub drawn_is : (claim : Claim) → NoneAgrees agrees first.rows key judges → NoneRuns now.running key stamp
      → claim ≡ claim_of (next_claim now key stamp sources) → IsDrawn agrees first key stamp sources claim
  drawn_is claim none none_runs is = record {
    none_agrees = none_is none;
    none_runs = subst (λ (t : TableData). NoneRuns t.running key stamp) table none_runs;
    drawn = is ∙ ap (λ (t : TableData). claim_of (next_claim t key stamp sources)) table;
  }

-- what each answer of a claim is made of
pub ruleset answers = (noted_over, noted_then, have_is, taken_is, drawn_is)
