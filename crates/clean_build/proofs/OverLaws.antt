-- What a reader of a part says at its end, said of its plan and its sources.
use Rattle.std.specs.Prelude.{◌≡◌, ℕ, List, []}
use Rattle.std.proofs.Common.{sym, ap, subst, ◌∙◌}
use Rattle.dita_doc.specs.Desk.{State}
use Rattle.dita_doc.specs.declared.plan.PagePlan.{PagePlan}
use Rattle.dita_doc.specs.declared.plan.Plan.{Plan}
use Rattle.dita_doc.specs.declared.plan.PlanNode.{PlanNode}
use Rattle.plan_reader.specs.Made as reader
use Rattle.plan_reader.specs.Tables.{GoesOn}
use Rattle.plan_reader.specs.declared.cache.PlanCache.{PlanCache}
use Rattle.reader_spec.specs.World.{World, world_of}
use Rattle.readers.specs.Noted.{told_onto}
use Rattle.readers.specs.Setting.{Setting, Stand}
use Rattle.readers.specs.Told.{Agrees, Told}
use Rattle.readers.specs.declared.questions.Note.{Note}
use Rattle.clean_build.specs.Told.{made_for, told_by_plan}

-- a reader that was made for a plan
pub setting_is : (plan : Plan) (nodes : List PlanNode) (documents : List (List ℕ)) (pages : List PagePlan)
    → nodes ≡ plan.nodes → documents ≡ plan.documents → pages ≡ plan.pages
    → reader.made_for nodes documents pages ≡ made_for plan
setting_is plan nodes documents pages ns ds ps = λ i. record { nodes = ns i; documents = ds i; pages = ps i }

-- it stands where it stood
module _ (sources : State) (plan : Plan) (before after : Stand) (first last asked : List Note) (stood : after ≡ before)
    (here : before.world ≡ world_of sources) (made : before.setting ≡ made_for plan) (none : first ≡ [])
    (kept : asked ≡ last) where
  pub world_then : after.world ≡ world_of sources
  world_then = ap (λ (s : Stand). s.world) stood ∙ here

  setting_then : after.setting ≡ made_for plan
  setting_then = ap (λ (s : Stand). s.setting) stood ∙ made

  told_then : told_onto after.setting [] last ≡ told_by_plan plan asked
  told_then =
      ap (λ (s : Setting). told_onto s [] last) setting_then ∙ ap (told_onto (made_for plan) []) (sym kept)

  -- what is so where it stands is so of the sources and the plan
  pub stands_for : (P : World → Setting → Type 0) → P before.world before.setting → P (world_of sources) (made_for plan)
  stands_for P is = subst (λ (world : World). P world (made_for plan)) here (subst (P before.world) made is)

  told_first : told_onto before.setting [] first ≡ []
  told_first = ap (told_onto before.setting []) none

  -- what is told of both ends
  pub told_moved : (P : List Told → List Told → Type 0)
      → P (told_onto before.setting [] first) (told_onto after.setting [] last) → P [] (told_by_plan plan asked)
  told_moved P is = subst (λ (old : List Told). P old (told_by_plan plan asked)) told_first
      (subst (P (told_onto before.setting [] first)) told_then is)

  pub agrees_then : (world : World) → Agrees world (told_by_plan plan asked)
      → Agrees world (told_onto after.setting [] last)
  agrees_then world = subst (Agrees world) (sym told_then)

  pub agrees_here : Agrees after.world (told_onto after.setting [] last)
      → Agrees (world_of sources) (told_by_plan plan asked)
  agrees_here agrees = subst (λ (world : World). Agrees world (told_by_plan plan asked)) world_then
      (subst (Agrees after.world) told_then agrees)

  pub goes_on_then : (cache : PlanCache) → GoesOn after.world after.setting.documents cache
      → GoesOn (world_of sources) plan.documents cache
  goes_on_then cache goes = subst (λ (s : Setting). GoesOn (world_of sources) s.documents cache) setting_then
      (subst (λ (world : World). GoesOn world after.setting.documents cache) world_then goes)
