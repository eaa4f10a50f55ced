-- Judgements that are kept stay right: behind a longer history, after a claim that noted some, and after a publish that
-- forgot those whose rows went.
use Rattle.std.proofs.Common.{◌≡◌, ◌+◌, ◌≤◌, ◌⊎◌, ℕ, List, ◌++◌, sym, ap, subst, ◌∙◌, inl, inr, length, arith, length-append}
use Rattle.dita_doc.specs.Desk.{State}
use Rattle.dita_doc.specs.History.{Entry, sources}
use Rattle.desk_core.specs.Invariant.{AreJudged, HavePlans}
use Rattle.facts.specs.Judged.{Tells}
use Rattle.facts.specs.Memo.{HaveRows, IsNew, IsRight, MayNote, PlanAgrees}
use Rattle.facts.specs.Rows.{HaveOnePlan, RowData, Stands, plan_in, plan_serial}
use Rattle.facts.specs.Table.{TableData}
use Rattle.facts.specs.declared.fact.PlanFact.{PlanFact}
use Rattle.facts.specs.declared.judged.Judged.{Judged}
use Rattle.version_store.proofs.HistoryLaws.{sources_prefix}

-- what a judgement says, of a plan over sources
abbrev Says : PlanAgrees → Judged → PlanFact → State → Type 0
Says agrees judged plan state = Tells judged.agreed (agrees plan state)

pub longer_judged : (agrees : PlanAgrees) (history more : List Entry) (table : TableData) (all : List Judged)
    → AreJudged agrees history table all → AreJudged agrees (history ++ more) table all
longer_judged agrees history more table all is = record {
  stamps = λ judged stands.
      let low : judged.stamp ≤ length history = is.stamps judged stands in
      let longer : length (history ++ more) ≡ length history + length more = length-append history more in
      omega arith;
  rows = is.rows;
  right = λ judged row stands stands_row same. subst (Says agrees judged (plan_in row))
      (sym (sources_prefix history more judged.stamp (is.stamps judged stands))) (is.right judged row stands stands_row same);
}

-- A claim notes judgements

module _ (agrees : PlanAgrees) (history : List Entry) (table : TableData) (stamp : ℕ) (state : State)
    (old new : List Judged) (is : AreJudged agrees history table old) (plans : HavePlans table)
    (within : stamp ≤ length history) (state_is : state ≡ sources history stamp)
    (noted : MayNote agrees state stamp table.rows old new) where
  abbrev Origin : Judged → Type 0
  Origin judged = Stands old judged ⊎ IsNew agrees state stamp table.rows judged

  stamp_of_noted : (judged : Judged) → Origin judged → judged.stamp ≤ length history
  stamp_of_noted judged (inl stands) = is.stamps judged stands
  stamp_of_noted judged (inr fresh) = subst (λ n. n ≤ length history) (sym fresh.of.at) within

  row_of_noted : (judged : Judged) → Origin judged → (row : RowData) × Stands table.rows row × (plan_serial row ≡ judged.plan)
  row_of_noted judged (inl stands) = is.rows.each judged stands
  row_of_noted judged (inr fresh) = (fresh.row, fresh.stands, sym fresh.of.plan)

  noted_right : (judged : Judged) (row : RowData) → Origin judged → Stands table.rows row
      → judged.plan ≡ plan_serial row → IsRight agrees (sources history judged.stamp) row judged
  noted_right judged row (inl stands) stands_row same = is.right judged row stands stands_row same
  noted_right judged row (inr fresh) stands_row same =
      let one_plan : plan_in fresh.row ≡ plan_in row =
      plans.same fresh.row row fresh.stands stands_row (sym fresh.of.plan ∙ same) in
      subst (λ plan. Says agrees judged plan (sources history judged.stamp)) one_plan
      (subst (Says agrees judged (plan_in fresh.row)) (state_is ∙ ap (sources history) (sym fresh.of.at)) fresh.right)

  pub noted_judged : AreJudged agrees history table new
  noted_judged = record {
    stamps = λ judged stands. stamp_of_noted judged (noted.each judged stands);
    rows = record { each = λ judged stands. row_of_noted judged (noted.each judged stands) };
    right = λ judged row stands stands_row same. noted_right judged row (noted.each judged stands) stands_row same;
  }

-- A publish forgets judgements: each row that is there now was there, or is the new one

module _ (agrees : PlanAgrees) (history : List Entry) (before after : TableData) (new_row : RowData)
    (old fewer : List Judged) (is : AreJudged agrees history before old)
    (rows_are : (row : RowData) → Stands after.rows row → Stands before.rows row ⊎ (row ≡ new_row))
    (one_plan : HaveOnePlan before.rows (plan_serial new_row) (plan_in new_row))
    (kept : (judged : Judged) → Stands fewer judged → Stands old judged) (have_rows : HaveRows after.rows fewer) where
  right_of_new : (judged : Judged) → Stands old judged → judged.plan ≡ plan_serial new_row
      → IsRight agrees (sources history judged.stamp) new_row judged
  right_of_new judged stands same =
      let has : (row : RowData) × Stands before.rows row × (plan_serial row ≡ judged.plan) = is.rows.each judged stands in
      subst (λ plan. Says agrees judged plan (sources history judged.stamp)) (one_plan has.0 has.1 (has.2 ∙ same))
      (is.right judged has.0 stands has.1 (sym has.2))

  right_of_row : (judged : Judged) (row : RowData) → Stands old judged → Stands before.rows row ⊎ (row ≡ new_row)
      → judged.plan ≡ plan_serial row → IsRight agrees (sources history judged.stamp) row judged
  right_of_row judged row stands (inl stands_row) same = is.right judged row stands stands_row same
  right_of_row judged row stands (inr new) same = subst
      (λ (r : RowData). IsRight agrees (sources history judged.stamp) r judged) (sym new)
      (right_of_new judged stands (same ∙ ap plan_serial new))

  pub fewer_judged : AreJudged agrees history after fewer
  fewer_judged = record {
    stamps = λ judged stands. is.stamps judged (kept judged stands);
    rows = have_rows;
    right = λ judged row stands stands_row. right_of_row judged row (kept judged stands) (rows_are row stands_row);
  }
