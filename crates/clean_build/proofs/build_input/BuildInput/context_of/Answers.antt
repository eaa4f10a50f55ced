use Rattle.std.specs.Prelude.{◌≡◌, ℕ, List, Option}
use Rattle.std.specs.Option.{option_copied}
use Rattle.std.proofs.Common.{◌∙◌}
use Rattle.dita_doc.specs.declared.plan.Context.{Context}
use Rattle.dita_doc.specs.declared.plan.PageId.{PageId}
use Rattle.dita_doc.specs.declared.plan.PagePlan.{PagePlan}
use Rattle.clean_build.specs.BuildInput.{context_for}
use Rattle.clean_build.specs.declared.build_input.BuildInput.{BuildInput}
use Rattle.clean_build.proofs.build_input.BuildInput.context_of.Goals as goal

-- the names and the page are those of the context
context_made : (ground : BuildInput) (of : PagePlan) (map name : List ℕ) (val : Option (List ℕ)) (page : PageId)
    → map ≡ ground.map.now → val ≡ option_copied ground.val → page ≡ of.id → name ≡ of.name
    → ◌≡◌ {A = Context} (record { map = map; val = val; page = page; name = name }) (context_for ground of)
context_made ground of map name val page is_map is_val is_page is_name = cc

pub returns : goal.returns
returns c = c.in_ok-new.ensures.ok ∙ context_made c.args.self c.args.page.now _ _ _ _ c.in_ok-clone.ensures.cases
    c.in_ok-val.ensures c.in_ok-copy_id.ensures c.in_ok-clone-2.ensures.cases
