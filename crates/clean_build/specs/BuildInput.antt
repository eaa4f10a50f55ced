-- What a build stands on, in a world (own), and what a page of its plan is made for.
use Rattle.std.specs.Prelude.{◌≡◌, Ok}
use Rattle.std.specs.Option.{option_copied}
use Rattle.dita_doc.specs.declared.plan.Context.{Context}
use Rattle.dita_doc.specs.declared.plan.PagePlan.{PagePlan}
use Rattle.map_spec.specs.PlanOf.{limits, plan_of}
use Rattle.reader_spec.specs.World.{World}
use Rattle.readers.specs.Setting.{Setting}
use Rattle.clean_build.specs.Told.{made_for}
use Rattle.clean_build.specs.declared.build_input.BuildInput.{BuildInput}

abbrev pub context_for : BuildInput → PagePlan → Context
context_for ground page =
    record { map = ground.map.now; val = option_copied ground.val; page = page.id; name = page.name }

-- it is the plan of its map and its DITAVAL, and the reader was made for it
pub record IsReady (world : World) (ground : BuildInput) (setting : Setting) : Type 0 where
  pub is : plan_of limits world ground.map.now (option_copied ground.val) ≡ Ok ground.plan.now
  pub made : setting ≡ made_for ground.plan.now
