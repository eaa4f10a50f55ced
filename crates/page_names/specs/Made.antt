-- The pages of a map's nodes, with what the nodes lead to and use (own): for nodes whose keys the reader knows, that
-- carry their values and their scopes, and stand behind their parents.
use Rattle.std.specs.Prelude.{◌≡◌, ℕ, List, Result, Ok, Err, IfOk, length, nat_le, if◌then◌else◌}
use Rattle.dita_doc.specs.Gives.{Gives}
use Rattle.dita_doc.specs.declared.plan.PlanNode.{PlanNode}
use Rattle.dita_doc.specs.declared.plan.PlanStop.{PlanStop}
use Rattle.dita_doc.specs.declared.plan.PlanStop.TheVariants as stops
use Rattle.dita_doc.specs.declared.plan.Target.{Target}
use Rattle.dita_doc.specs.declared.stop.NoMemory.{NoMemory}
use Rattle.dita_doc.specs.declared.stop.Stop.{Stop}
use Rattle.map_spec.specs.Pages.{aim_at, documents_of, page_faults, pages_of, node_targets}
use Rattle.plan_nodes.specs.Carried.{CarryScopes, CarryValues}
use Rattle.plan_nodes.specs.Preorder.{HasParentsBefore}
use Rattle.reader_spec.specs.World.{World}
use Rattle.page_names.specs.declared.made.PagesMade.{PagesMade}

abbrev pub all_made : World → List PlanNode → PagesMade
all_made world nodes = record {
  pages = pages_of world nodes;
  targets = node_targets world nodes;
  documents = documents_of world nodes;
  faults = page_faults world nodes;
}

-- if there are more pages than the limit, there are too many
abbrev pub pages_made : ℕ → World → List PlanNode → Result PagesMade PlanStop
pages_made limit world nodes =
    if nat_le (length (pages_of world nodes)) limit then Ok (all_made world nodes) else Err stops.TooManyPages

abbrev pub ArePages : List PlanNode → World → List PlanNode → Result PagesMade (Stop PlanStop) → Type 0
ArePages known world nodes result = known ≡ nodes → HasParentsBefore nodes → CarryValues world nodes → CarryScopes nodes
    → Gives result (pages_made 4096 world nodes)

-- what one of the nodes leads to
abbrev pub IsTarget : List PlanNode → World → List PlanNode → ℕ → Result Target NoMemory → Type 0
IsTarget known world nodes at result = known ≡ nodes → CarryValues world nodes → CarryScopes nodes
    → IfOk result (λ target. target ≡ (aim_at world nodes at).target)
