-- How much is left to copy: a bound on the steps.
use Rattle.std.specs.Prelude.{◌+◌, ◌-◌, ◌*◌, ◌^◌, ℕ, List, [], ◌∷◌, length}
use Rattle.dita_doc.specs.declared.plan.PlanNode.{PlanNode}
use Rattle.branch_copies.specs.declared.work.Walk.{Walk}
use Rattle.branch_copies.specs.declared.work.Work.{Work}
use Rattle.branch_copies.specs.declared.work.Work.TheVariants as works

-- two steps for each node of a walk, and one for its end
abbrev pub steps_of : Walk → ℕ
steps_of walk = 2 * (walk.end - walk.at) + 1

-- one step for each copy, and one for the end
abbrev pub steps : Work → ℕ
steps (works.Walk walk) = steps_of walk
steps (works.Copies copies) = copies.count + 1

abbrev pub steps_left : List Work → ℕ
steps_left [] = 0
steps_left (work ∷ works) = steps_left works + steps work

-- each node that may still be made brings a walk and copies
abbrev pub left : List PlanNode → List Work → ℕ
left made works = (65537 - length made) * 2 ^ 68 + steps_left works
