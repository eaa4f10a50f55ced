-- Parts that stand alone: those of the plan that was given, as a map has one plan.
use Rattle.std.specs.Prelude.{◌≡◌, ℕ, Bool, false, List, Option, None, Result, Ok, Err, IfOk, OnOk, length, nat_lt, slice_get}
use Rattle.std.specs.Option.{option_copied, option_map_or}
use Rattle.std.proofs.Common.{refl, sym, ap, subst, ◌∙◌}
use Rattle.std.proofs.lemmas.Bool.{ltb-false}
use Rattle.std.proofs.lemmas.Option.{slice_get_past}
use Rattle.std.proofs.lemmas.Result.{IfOk-weaker}
use Rattle.clean_build.specs.BuildInput.{IsReady}
use Rattle.clean_build.specs.Made.{page_behind, page_content_of}
use Rattle.clean_build.specs.Told.{made_for}
use Rattle.clean_build.specs.declared.build_input.BuildInput.{BuildInput}
use Rattle.conref_pull.specs.Resolved.{IsResolved}
use Rattle.conref_spec.specs.Content.{nothing_made}
use Rattle.dita_doc.specs.declared.content.Resolved.{Resolved}
use Rattle.dita_doc.specs.declared.fact.Html.{Html}
use Rattle.dita_doc.specs.declared.plan.PagePlan.{PagePlan}
use Rattle.dita_doc.specs.declared.plan.Plan.{Plan}
use Rattle.link_spec.specs.Links.{row_faults}
use Rattle.map_spec.specs.PlanOf.{limits, plan_of}
use Rattle.part_spec.specs.Parts.{no_html, page_content, page_part, rooms}
use Rattle.reader_spec.specs.World.{World}
use Rattle.whole_calls.specs.Single.{HaveSamePlan, IsOfPlan, MakesContent, MakesPart, part_html}
use Rattle.whole_calls.specs.declared.resolved.ContentWork.{ContentWork}
use Rattle.whole_calls.specs.declared.single_parts.PartWork.{PartWork}

-- the page at a place, if there is one

pub nothing_at : (pages shown : List PagePlan) (index : ℕ) (found : Bool) → shown ≡ pages
    → found ≡ nat_lt index (length shown) → found ≡ false → slice_get pages index ≡ None
nothing_at pages shown index found are tells none =
    ap (λ (all : List PagePlan). slice_get all index) (sym are)
    ∙ slice_get_past shown index (ltb-false index (length shown) (sym tells ∙ none))

pub content_nowhere : (world : World) (plan : Plan) (val : Option (List ℕ)) (index : ℕ)
    → slice_get plan.pages index ≡ None → nothing_made ≡ page_content rooms world plan val index
unfolding page_content
content_nowhere world plan val index there = ap (λ (found : Option PagePlan).
    option_map_or (page_content_of world plan val) found nothing_made) (sym there)

pub page_nowhere : (world : World) (plan : Plan) (val : Option (List ℕ)) (index : ℕ)
    → slice_get plan.pages index ≡ None → no_html ≡ page_part rooms world plan val index
unfolding page_part
page_nowhere world plan val index there = ap (λ (found : Option PagePlan). option_map_or
    (λ (p : PagePlan). page_behind rooms world plan val index p (row_faults plan)) found no_html) (sym there)

-- The plan that was given

pub ok_same : {X E : Type 0} (one other : X) → ◌≡◌ {A = Result X E} (Ok one) (Ok other) → one ≡ other
ok_same one other is = cc

-- what is ready for the plan that was found is ready for this one
ready_for : (world : World) (ground : BuildInput) (plan : Plan)
    → plan_of limits world ground.map.now (option_copied ground.val) ≡ Ok plan → ground.plan.now ≡ plan
    → IsReady world ground (made_for ground.plan.now)
ready_for world ground plan is same = record { is = is ∙ ap (λ (p : Plan). Ok p) (sym same); made = refl }

-- What is made of the plan that was given

-- the plan is that of both worlds
pub same_plan : {X E : Type 0} (own world : World) (map : List ℕ) (val : Option (List ℕ)) (IsMade : X → Plan → Type 0)
    (result : Result X E) → IfOk result (λ x. IsOfPlan own world map val (IsMade x))
    → OnOk result (HaveSamePlan own world map val)
same_plan own world map val IsMade (Ok x) of = of.same
same_plan own world map val IsMade (Err e) of = tt

-- if that of the reader's own world was given, this is what is made of it
pub of_given : {X E : Type 0} (own world : World) (map : List ℕ) (val : Option (List ℕ)) (IsMade : X → Plan → Type 0)
    (result : Result X E) (plan : Plan) → plan_of limits own map val ≡ Ok plan
    → IfOk result (λ x. IsOfPlan own world map val (IsMade x)) → IfOk result (λ x. IsMade x plan)
of_given own world map val IsMade (Ok x) plan is of = of.made plan (of.same ∙ is)
of_given own world map val IsMade (Err e) plan is of = tt

pub part_made : {E : Type 0} (own world : World) (work : PartWork) (result : Result Html E)
    → HaveSamePlan own world work.ground.map.now (option_copied work.ground.val)
    → ((plan : Plan) → plan_of limits world work.ground.map.now (option_copied work.ground.val) ≡ Ok plan
    → work.ground.plan.now ≡ plan)
    → IfOk result (MakesPart work own world (made_for work.ground.plan.now))
    → IfOk result (λ html. IsOfPlan own world work.ground.map.now (option_copied work.ground.val)
    (λ plan. html ≡ part_html work.part world plan (option_copied work.ground.val)))
part_made own world work result same found = IfOk-weaker result (MakesPart work own world (made_for work.ground.plan.now)) _
    (λ html holds. record {
      same = same;
      made = λ plan is. holds (ready_for world work.ground plan is (found plan is))
          ∙ ap (λ (p : Plan). part_html work.part world p (option_copied work.ground.val)) (found plan is);
    })

pub content_made : {E : Type 0} (own world : World) (work : ContentWork) (result : Result Resolved E)
    → HaveSamePlan own world work.ground.map.now (option_copied work.ground.val)
    → ((plan : Plan) → plan_of limits world work.ground.map.now (option_copied work.ground.val) ≡ Ok plan
    → work.ground.plan.now ≡ plan)
    → IfOk result (MakesContent work own world (made_for work.ground.plan.now))
    → IfOk result (λ (made : Resolved). IsOfPlan own world work.ground.map.now (option_copied work.ground.val)
    (λ plan. IsResolved made (page_content rooms world plan (option_copied work.ground.val) work.index)))
content_made own world work result same found = IfOk-weaker result
    (MakesContent work own world (made_for work.ground.plan.now)) _ (λ made holds. record {
      same = same;
      made = λ plan is. subst
          (λ (p : Plan). IsResolved made (page_content rooms world p (option_copied work.ground.val) work.index))
          (found plan is) (holds (ready_for world work.ground plan is (found plan is)));
    })
