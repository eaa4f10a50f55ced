-- How much is left to copy, as work is put and taken.
use Rattle.std.proofs.Common.{◌≡◌, ◌+◌, ◌<◌, List, [], ◌∷◌, ◌++◌, ap, ◌∙◌, arith}
use Rattle.dita_doc.specs.declared.plan.PlanNode.{PlanNode}
use Rattle.branch_copies.specs.declared.work.Work.{Work}
use Rattle.branch_copies.specs.Left.{left, steps, steps_left}

pub steps_left_push : (works : List Work) (work : Work) → steps_left (works ++ work ∷ []) ≡ steps_left works + steps work
steps_left_push [] work = omega arith
steps_left_push (first ∷ works) work = omega (arith, steps_left_push works work)

-- the last work is taken
taken : (was rest : List Work) (work : Work) → was ≡ rest ++ work ∷ []
    → steps_left was ≡ steps_left rest + steps work
taken was rest work popped = ap steps_left popped ∙ steps_left_push rest work

-- work goes on
pub worked : (made more : List PlanNode) (was rest after : List Work) (work : Work) → was ≡ rest ++ work ∷ []
    → left more after < left made rest + steps work → left more after < left made was
worked made more was rest after work popped less = omega (arith, taken was rest work popped, less)
