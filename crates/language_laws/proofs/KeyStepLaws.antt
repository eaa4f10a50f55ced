-- More steps than the walk to the root and the search for a qualified key take change nothing.
use Rattle.std.specs.Prelude.{◌≡◌, ◌<◌, ◌+◌, ◌==◌, ◌∷◌, ℕ, zero, suc, List, [], length, slice_get}
use Rattle.std.proofs.Common.{refl, ap, arith}
use Rattle.std.proofs.lemmas.Bool.Decides.{nat_tests}
use Rattle.dita_doc.specs.declared.plan.PlanNode.{PlanNode}
use Rattle.map_spec.specs.Cascade.{steps_up}
use Rattle.map_lemmas.proofs.KeyLaws.{qualified_same}
use Rattle.language_laws.proofs.ChoiceLaws.{both_same, map_or_same}
use Rattle.language_laws.specs.Steps.{HasParentsBefore, QualifiedIsWhole, WalkIsWhole}

-- The walk to the root

-- two walks of more steps than the place of their first node are one
walk_same : (n m : ℕ) (nodes : List PlanNode) (at : ℕ) → HasParentsBefore nodes → at < n → at < m
    → steps_up n nodes at ≡ steps_up m nodes at
walk_same zero m nodes at before first second = absurd (omega arith)
walk_same (suc n) zero nodes at before first second = absurd (omega arith)
walk_same (suc n) (suc m) nodes at before first second = ap (λ places. at ∷ places)
    (both_same (at == 0) [] _ [] _ (λ e. refl) (λ e. map_or_same (slice_get nodes at) _ _ []
    (λ node is. let below : node.parent < at = before at node (grind (arith, nat_tests)) is in
    walk_same n m nodes node.parent before (omega arith) (omega arith))))

-- the walk has as many steps as it takes
pub walk_is_whole : WalkIsWhole
walk_is_whole nodes at more before = walk_same (at + 1 + more) (at + 1) nodes at before (omega arith) (omega arith)

-- Qualified keys

-- the search has as many steps as it takes
pub qualified_is_whole : QualifiedIsWhole
qualified_is_whole world nodes scope more key =
    qualified_same (length key + more) (length key) world nodes scope key (omega arith) (omega arith)
