-- How much is left of the walk, as work is put and taken.
use Rattle.std.proofs.Common.{◌≡◌, ℕ, ◌+◌, ◌<◌, ◌≤◌, List, [], ◌∷◌, ◌++◌, length, ap, ◌∙◌, arith}
use Rattle.dita_doc.specs.declared.plan.PlanNode.{PlanNode}
use Rattle.map_expand.specs.declared.work.Walk.{Walk}
use Rattle.map_expand.specs.declared.work.Work.{Work}
use Rattle.map_expand.specs.declared.work.Work.TheVariants as works
use Rattle.map_expand.specs.Left.{left, steps, steps_left, steps_of}
use Rattle.map_expand.specs.Making.{behind, content}

pub steps_left_push : (works : List Work) (work : Work) → steps_left (works ++ work ∷ []) ≡ steps_left works + steps work
steps_left_push [] work = omega arith
steps_left_push (first ∷ works) work = omega (arith, steps_left_push works work)

-- the last work is taken
taken : (was rest : List Work) (work : Work) → was ≡ rest ++ work ∷ []
    → steps_left was ≡ steps_left rest + steps work
taken was rest work popped = ap steps_left popped ∙ steps_left_push rest work

-- a walk goes on
pub walked : (nodes more : List PlanNode) (was rest after : List Work) (work : Work) (walk : Walk)
    → was ≡ rest ++ work ∷ [] → work ≡ works.Walk walk → left more after < left nodes rest + steps_of walk
    → left more after < left nodes was
walked nodes more was rest after work walk popped is less =
    omega (arith, taken was rest work popped, ap steps is, less)

-- a map ends
pub ended : (nodes : List PlanNode) (was rest : List Work) (work : Work) (map : ℕ)
    → was ≡ rest ++ work ∷ [] → work ≡ works.Leave map → left nodes rest < left nodes was
ended nodes was rest work map popped is = omega (arith, taken was rest work popped, ap steps is)

-- the first node of a walk is gone over, up to its end
module _ (nodes : List PlanNode) (was now : List Work) (walk : Walk) (end : ℕ)
    (is : now ≡ was ++ works.Walk (behind walk end) ∷ []) (begins : walk.place < end) (ends : end ≤ walk.end) where
  pub behind_less : left nodes now < left nodes was + steps_of walk
  behind_less = omega (arith, begins, ends, ap steps_left is ∙ steps_left_push was (works.Walk (behind walk end)))

  pub content_less : (new : List PlanNode) (more : List Work) → new ≡ nodes
      → more ≡ now ++ works.Walk (content walk end) ∷ [] → left new more < left nodes was + steps_of walk
  content_less new more kept last = omega (
    arith,
    begins,
    ends,
    ap (λ l. length l) kept,
    ap steps_left is ∙ steps_left_push was (works.Walk (behind walk end)),
    ap steps_left last ∙ steps_left_push now (works.Walk (content walk end)),
  )
