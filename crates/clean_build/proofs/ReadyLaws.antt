-- What is known of the plan that readers were made for: that its links can be found and its contents be made.
use Rattle.std.specs.Prelude.{◌≡◌, ℕ, Some, Result, Ok, Err, IfOk, slice_get}
use Rattle.std.specs.Option.{option_copied}
use Rattle.std.proofs.Common.{refl, ap}
use Rattle.dita_doc.specs.declared.fact.Html.{Html}
use Rattle.dita_doc.specs.declared.plan.PagePlan.{PagePlan}
use Rattle.dita_doc.specs.declared.plan.Plan.{Plan}
use Rattle.part_spec.specs.Parts.{contents_part}
use Rattle.reader_spec.specs.World.{World}
use Rattle.readers.specs.Setting.{Setting}
use Rattle.reltable_links.specs.RowTable.{CanLink}
use Rattle.toc_page.specs.Made as toc
use Rattle.xref_links.specs.Here.{IsPageOf}
use Rattle.clean_build.specs.BuildInput.{IsReady, context_for}
use Rattle.clean_build.specs.declared.build_input.BuildInput.{BuildInput}
use Rattle.clean_build.proofs.PlanLaws.{IsPlanIn, plan_facts}

-- a premise of what was made
pub ok_under : {X E R : Type 0} (result : Result X E) (Q : X → Type 0) → (R → IfOk result Q)
    → IfOk result (λ x. R → Q x)
ok_under (Ok x) Q holds = holds
ok_under (Err e) Q holds = tt

module _ (world : World) (ground : BuildInput) (setting : Setting) (ready : IsReady world ground setting) where
  facts : IsPlanIn world ground.plan.now
  facts = plan_facts world ground.map.now (option_copied ground.val) ground.plan.now ready.is

  pub can_link : CanLink world ground.plan.now setting.pages
  can_link = record {
    tree = facts.tree;
    values = facts.values;
    pages = ap (λ (s : Setting). s.pages) ready.made;
  }

  pub toc_ready : toc.IsReady ground.plan.now setting
  toc_ready = record {
    pages = ap (λ (s : Setting). s.pages) ready.made;
    documents = ap (λ (s : Setting). s.documents) ready.made;
    tree = facts.tree;
    once = facts.once;
  }

  pub is_page : (page : PagePlan) (index : ℕ) → slice_get ground.plan.now.pages index ≡ Some page
      → IsPageOf ground.plan.now (context_for ground page) page index
  is_page page index there = record { there = there; first = facts.own index page there; id = refl; name = refl }

pub contents_html : (world : World) (plan : Plan) (made : Html) → toc.IsContents world plan made
    → made ≡ contents_part world plan
contents_html world plan made is = λ i. record { bytes = is.bytes i; faults = is.faults i }
