-- A build whose parts are right over other sources too has as many pages there, and gives the same.
use Rattle.std.proofs.Common.{◌≡◌, ℕ, List, [], ◌∷◌, Option, Some, None, Result, Ok, Err, drop, length, map, refl, sym, ap, ◌∙◌, subst}
use Rattle.std.specs.Arc.{arc_value}
use Rattle.std.specs.List.{slice_get}
use Rattle.std.proofs.lemmas.Option.{none-some, same_Some}
use Rattle.dita_doc.specs.Desk.{State}
use Rattle.dita_doc.specs.declared.fact.FactKey.{FactKey}
use Rattle.dita_doc.specs.declared.fact.Part.TheVariants as parts
use Rattle.dita_doc.specs.declared.plan.Plan.{Plan}
use Rattle.dita_doc.specs.declared.plan.PlanStop.{PlanStop}
use Rattle.facts.specs.Rows.{RowData}
use Rattle.facts.specs.declared.fact.Fact.{Fact}
use Rattle.desk_language.specs.Language.{Language, key_of, pages_from, parts_with}
use Rattle.desk_lock.specs.Lists.{Each}
use Rattle.desk_lock.specs.Meaning.{Meaning}
use Rattle.desk_work.specs.Outcome.{ArePartsOfPlan, IsRight, IsRightPlan, PartsTell, PlanTells}
use Rattle.desk_top.specs.Made.{key_in}

first_part : (root : List ℕ) (val : Option (List ℕ)) (pages : Option ℕ)
    → slice_get (parts_with root val pages) 0 ≡ Some (key_of root val parts.Plan)
first_part root val None = refl
first_part root val (Some pages) = refl

abbrev pub facts_in : List RowData → List Fact
facts_in rows = map (λ (row : RowData). row.fact) rows

-- what makers of parts give: right plans and right parts tell the build
pub record PartsTellAll (means : Meaning) (language : Language) : Type 0 where
  pub plan : (state : State) (fact : Fact) → IsRightPlan means state fact
      → PlanTells language state fact.key (arc_value fact.plan).value
  pub parts : (state : State) (fact : Fact) (plan : Plan) (facts : List Fact) → IsRightPlan means state fact
      → (arc_value fact.plan).value ≡ Ok plan → ArePartsOfPlan means state fact.key plan facts
      → PartsTell language state fact.key plan facts

module _ (means : Meaning) (language : Language) (tell : PartsTellAll means language) (root : List ℕ)
    (val : Option (List ℕ)) where
  abbrev pub IsRightRowAt : State → RowData → Type 0
  IsRightRowAt state row = IsRight means state row.fact

  pub record IsSameBuild (state other : State) : Type 0 where
    pub count : language.page_count other root val ≡ language.page_count state root val
    pub clean : language.clean other root val ≡ language.clean state root val

  module _ (row : RowData) (rows : List RowData) (of : key_in row ≡ key_of root val parts.Plan) where
    right_plan : (state : State) → IsRight means state row.fact → IsRightPlan means state row.fact
    right_plan state right = record { right = right; of = ap (λ (key : FactKey). key.part) of }

    plan_at : (state : State) (value : Result Plan PlanStop) → (arc_value row.fact.plan).value ≡ value
        → IsRight means state row.fact → PlanTells language state (key_of root val parts.Plan) value
    plan_at state value is right =
        subst (λ (key : FactKey). PlanTells language state key value) of
        (subst (PlanTells language state (key_in row)) is (tell.plan state row.fact (right_plan state right)))

    fact_keys : (list : List RowData) → map (λ (fact : Fact). fact.key) (facts_in list) ≡ map key_in list
    fact_keys [] = refl
    fact_keys (one ∷ list) = ap (λ keys. key_in one ∷ keys) (fact_keys list)

    facts_right : (state : State) (list : List RowData) → Each (IsRightRowAt state) list
        → Each (IsRight means state) (facts_in list)
    facts_right state [] each = tt
    facts_right state (one ∷ list) each = (each.0, facts_right state list each.1)

    parts_at : (state : State) (plan : Plan) → (arc_value row.fact.plan).value ≡ Ok plan
        → map key_in rows ≡ pages_from root val 0 (length plan.pages) → IsRight means state row.fact
        → Each (IsRightRowAt state) rows → PartsTell language state (key_of root val parts.Plan) plan (facts_in rows)
    parts_at state plan is keys right each =
        let pages : ArePartsOfPlan means state (key_in row) plan (facts_in rows) = record {
          keys = fact_keys rows ∙ keys
              ∙ ap (λ (key : FactKey). pages_from key.map key.val 0 (length plan.pages)) (sym of);
          right = facts_right state rows each;
        } in
        subst (λ (key : FactKey). PartsTell language state key plan (facts_in rows)) of
        (tell.parts state row.fact plan (facts_in rows) (right_plan state right) is pages)

    same_by : (state other : State) (value : Result Plan PlanStop) → (arc_value row.fact.plan).value ≡ value
        → map key_in (row ∷ rows) ≡ parts_with root val (language.page_count state root val)
        → Each (IsRightRowAt state) (row ∷ rows) → Each (IsRightRowAt other) (row ∷ rows) → IsSameBuild state other
    same_by state other (Ok plan) is keys here there =
        let first = plan_at state (Ok plan) is here.0 in
        let second = plan_at other (Ok plan) is there.0 in
        let pages : map key_in rows ≡ pages_from root val 0 (length plan.pages) =
        ap (drop 1) (keys ∙ ap (parts_with root val) first) in
        record {
          count = second ∙ sym first;
          clean = parts_at other plan is pages there.0 there.1 ∙ sym (parts_at state plan is pages here.0 here.1);
        }
    same_by state other (Err stop) is keys here there =
        let first = plan_at state (Err stop) is here.0 in
        let second = plan_at other (Err stop) is there.0 in
        record { count = second.0 ∙ sym first.0; clean = second.1 ∙ sym first.1 }

  pub same_build : (state other : State) (cited : List RowData)
      → map key_in cited ≡ parts_with root val (language.page_count state root val) → Each (IsRightRowAt state) cited
      → Each (IsRightRowAt other) cited → IsSameBuild state other
  same_build state other [] keys here there =
      absurd (none-some (key_of root val parts.Plan)
      (ap (λ all. slice_get all 0) keys ∙ first_part root val (language.page_count state root val)))
  same_build state other (row ∷ rows) keys here there =
      same_by row rows
      (same_Some (key_in row) (key_of root val parts.Plan)
      (ap (λ all. slice_get all 0) keys ∙ first_part root val (language.page_count state root val)))
      state other (arc_value row.fact.plan).value refl keys here there
