-- What is put to nodes one after the other (own): their values, and then the numbers of their scopes; and the plan that
-- holds such nodes.
use Rattle.std.specs.Prelude.{ℕ, List, ◌++◌}
use Rattle.dita_doc.specs.declared.doc.Attribute.{Attribute}
use Rattle.dita_doc.specs.declared.fault.Fault.{Fault}
use Rattle.dita_doc.specs.declared.plan.Plan.{Plan}
use Rattle.dita_doc.specs.declared.plan.PlanNode.{PlanNode}
use Rattle.reader_spec.specs.World.{World}
use Rattle.map_spec.specs.Cascade.{cascaded}
use Rattle.map_spec.specs.Pages.{documents_of, page_faults, pages_of, node_targets}
use Rattle.map_spec.specs.Scopes.{name_faults, scoped, scopes}

abbrev pub with_values : List Attribute → PlanNode → PlanNode
with_values values node = record node { cascaded = values }

abbrev pub with_scope : ℕ → PlanNode → PlanNode
with_scope scope node = record node { scope = scope }

-- nodes with both
abbrev pub made : World → List PlanNode → List PlanNode
made world nodes = scoped (cascaded world nodes)

-- a plan that holds these nodes as they are, and what the definitions say of them
abbrev pub plan_holding : World → List Fault → List PlanNode → Plan
plan_holding world before nodes = record {
  nodes = nodes;
  scopes = scopes nodes;
  pages = pages_of world nodes;
  targets = node_targets world nodes;
  documents = documents_of world nodes;
  faults = before ++ name_faults world nodes ++ page_faults world nodes;
}
