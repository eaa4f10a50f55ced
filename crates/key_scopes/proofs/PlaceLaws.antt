-- What is made of each place before one, and of one more.
use Rattle.std.specs.Prelude.{◌≡◌, ◌+◌, ◌<◌, ℕ, List, [], ◌∷◌, ◌++◌, length, take}
use Rattle.std.specs.List.{flat_map}
use Rattle.std.proofs.Common.{ap, ◌∙◌}
use Rattle.std.proofs.lemmas.List.{append-nil}
use Rattle.std.proofs.lemmas.List.Concat.{flat_map-append}
use Rattle.dita_doc.specs.declared.plan.PlanNode.{PlanNode}
use Rattle.map_spec.specs.Scopes.{places}
use Rattle.plan_nodes.proofs.PlaceLaws.{place_more}

pub all_more : {X : Type 0} (f : ℕ → List X) (nodes : List PlanNode) (at : ℕ) (node : PlanNode) → at < length nodes
    → flat_map f (places (take (at + 1) nodes)) ≡ flat_map f (places (take at nodes)) ++ f at
all_more f nodes at node within =
    ap (flat_map f) (place_more nodes at node within) ∙ flat_map-append f (places (take at nodes)) (at ∷ [])
    ∙ ap (λ last. flat_map f (places (take at nodes)) ++ last) (append-nil (f at))
