-- Uses as the definition has them (own), and the fault of a page whose name is not the one that was wanted.
use Rattle.std.specs.Prelude.{ℕ, List, [], ◌∷◌, map, slice_get, bytes_eq, if◌then◌else◌}
use Rattle.std.specs.Option.{option_map_or}
use Rattle.dita_doc.specs.declared.fault.Fault.{Fault}
use Rattle.dita_doc.specs.declared.fault.FaultCode.TheVariants as faults
use Rattle.dita_doc.specs.declared.plan.PlanNode.{PlanNode}
use Rattle.map_spec.specs.Pages as pages_spec
use Rattle.map_spec.specs.Scopes.{node_fault}
use Rattle.page_names.specs.declared.page_uses.Use.{Use}

abbrev pub use_shown : Use → pages_spec.Use
use_shown page = record { id = page.id; node = page.node }

abbrev pub uses_shown : List Use → List pages_spec.Use
uses_shown uses = map use_shown uses

abbrev pub changed_fault : List PlanNode → ℕ → List ℕ → List ℕ → List Fault
changed_fault nodes at name wanted = if bytes_eq name wanted then []
    else option_map_or (λ node. node_fault node faults.NameChanged name ∷ []) (slice_get nodes at) []
