-- What nodes carry (own): the values that the cascade gives them, and the numbers of their scopes.
use Rattle.std.specs.Prelude.{◌≡◌, ℕ, List, Some, slice_get}
use Rattle.dita_doc.specs.declared.plan.PlanNode.{PlanNode}
use Rattle.map_spec.specs.Cascade.{cascaded_on, walk}
use Rattle.map_spec.specs.Scopes.{scope_at}
use Rattle.reader_spec.specs.World.{World}

pub record CarryValues (world : World) (nodes : List PlanNode) : Type 0 where
  pub each : (at : ℕ) (node : PlanNode) → slice_get nodes at ≡ Some node
      → node.cascaded ≡ cascaded_on world (walk nodes at)

pub record CarryScopes (nodes : List PlanNode) : Type 0 where
  pub each : (at : ℕ) (node : PlanNode) → slice_get nodes at ≡ Some node → node.scope ≡ scope_at nodes at
