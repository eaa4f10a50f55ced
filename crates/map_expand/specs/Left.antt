-- How much is left of the walk over a map: a bound on its steps.
use Rattle.std.specs.Prelude.{◌+◌, ◌-◌, ◌*◌, ◌^◌, ℕ, List, [], ◌∷◌, length}
use Rattle.dita_doc.specs.declared.plan.PlanNode.{PlanNode}
use Rattle.map_expand.specs.declared.work.Walk.{Walk}
use Rattle.map_expand.specs.declared.work.Work.{Work}
use Rattle.map_expand.specs.declared.work.Work.TheVariants as works

-- two steps for each node of a walk, and one for its end
abbrev pub steps_of : Walk → ℕ
steps_of walk = 2 * (walk.end - walk.place) + 1

abbrev pub steps : Work → ℕ
steps (works.Walk walk) = steps_of walk
steps (works.Leave map) = 1

abbrev pub steps_left : List Work → ℕ
steps_left [] = 0
steps_left (work ∷ works) = steps_left works + steps work

-- each node that may still be made brings two walks and the end of a map
abbrev pub left : List PlanNode → List Work → ℕ
left nodes works = (65537 - length nodes) * 2 ^ 36 + steps_left works
