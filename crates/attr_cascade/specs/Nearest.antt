-- The nearest values of all nodes, made from the root downwards (own): a node has its own, else what its parent passes.
use Rattle.std.specs.Prelude.{◌≡◌, ◌&&◌, ◌||◌, ℕ, Bool, List, Option, None, Some, map, codes, bytes_eq, nat_lt, slice_get, if◌then◌else◌}
use Rattle.std.specs.Borrow.{Bor}
use Rattle.std.specs.Option.{option_and_then, option_copied}
use Rattle.dita_doc.specs.declared.plan.PlanNode.{PlanNode}
use Rattle.map_spec.specs.Cascade.{is_included_kind, is_map_kind, nearest, stays_behind, walk}
use Rattle.map_spec.specs.Scopes.{places}
use Rattle.reader_spec.specs.World.{World}
use Rattle.attr_cascade.specs.declared.nearest.Nearest.{Nearest}

abbrev pub Value : Type 0
Value = Option (List ℕ)

abbrev pub seen : List (Option (Bor (List ℕ))) → List Value
seen values = map (λ (value : Option (Bor (List ℕ))). option_copied value) values

-- the value at a place, if there is one
abbrev pub value_at : List Value → ℕ → Value
value_at values at = option_and_then (λ (value : Value). value) (slice_get values at)

-- a parent stands before its node
abbrev pub parent_of : List PlanNode → ℕ → PlanNode → Option PlanNode
parent_of nodes at node = if nat_lt node.parent at then slice_get nodes node.parent else None

-- what a parent passes on by its value
abbrev pub stops : List ℕ → PlanNode → PlanNode → Bool
stops name node parent = (bytes_eq name (codes "format") || bytes_eq name (codes "scope"))
    && is_map_kind node.kind && is_included_kind parent.kind

abbrev pub passed_on : List ℕ → PlanNode → Option PlanNode → List Value → Value
passed_on name node None values = None
passed_on name node (Some parent) values =
    if stops name node parent || stays_behind name (value_at values node.parent) then None
    else value_at values node.parent

-- by the walk to the root
abbrev pub nearest_at : World → List ℕ → List PlanNode → ℕ → Value
nearest_at world name nodes at = nearest world name (walk nodes at)

abbrev pub nearest_of : World → List ℕ → List PlanNode → List Value
nearest_of world name nodes = map (nearest_at world name nodes) (places nodes)

pub record AreNearest (world : World) (nodes : List PlanNode) (values : Nearest) : Type 0 where
  pub linking : seen values.linking.items ≡ nearest_of world (codes "linking") nodes
  pub toc : seen values.toc.items ≡ nearest_of world (codes "toc") nodes
  pub format : seen values.format.items ≡ nearest_of world (codes "format") nodes
  pub scope : seen values.scope.items ≡ nearest_of world (codes "scope") nodes
  pub role : seen values.role.items ≡ nearest_of world (codes "processing-role") nodes
  pub cascade : seen values.cascade.items ≡ nearest_of world (codes "cascade") nodes
