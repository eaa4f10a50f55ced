-- What the nodes of a map lead to and use, for the first of them (own).
use Rattle.std.specs.Prelude.{◌≡◌, ◌++◌, ◌&&◌, ℕ, Bool, false, List, [], Option, Some, None, map, slice_get, take, unwrap_or, if◌then◌else◌}
use Rattle.std.specs.List.{filter_map, flat_map}
use Rattle.std.specs.Option.{option_and_then, option_map_or}
use Rattle.dita_doc.specs.declared.fault.Fault.{Fault}
use Rattle.dita_doc.specs.declared.plan.PlanNode.{PlanNode}
use Rattle.dita_doc.specs.declared.plan.Target.{Target}
use Rattle.map_spec.specs.Branches.{each_once}
use Rattle.map_spec.specs.Pages as pages_spec
use Rattle.map_spec.specs.Pages.{aim_at, fault_of_use, faults_at, first_uses, is_normal, is_page_kind, use_at, used_at}
use Rattle.map_spec.specs.Scopes.{places}
use Rattle.map_spec.specs.Titles.{kind_in}
use Rattle.map_spec.specs.Written.{Whole}
use Rattle.plan_nodes.specs.Carried.{CarryScopes, CarryValues}
use Rattle.plan_nodes.specs.Preorder.{HasParentsBefore}
use Rattle.reader_spec.specs.World.{World}
use Rattle.page_names.specs.PageUses.{AreFirst, use_by, with_use}
use Rattle.page_names.specs.Used.{AreUsed, with_names}
use Rattle.page_names.specs.declared.uses.Uses.{Uses}

abbrev pub Nodes : Type 0
Nodes = List PlanNode

abbrev pub Wholes : Type 0
Wholes = List (Option Whole)

abbrev pub Texts : Type 0
Texts = List (List ℕ)

-- nodes whose keys are known, that stand behind their parents, and that carry their values and their scopes
pub record AreReady (known : List PlanNode) (world : World) (nodes : List PlanNode) : Type 0 where
  pub keys : known ≡ nodes
  pub before : HasParentsBefore nodes
  pub values : CarryValues world nodes
  pub scopes : CarryScopes nodes

abbrev pub target_at : World → List PlanNode → ℕ → Target
target_at world nodes at = (aim_at world nodes at).target

abbrev pub faults_of : World → List PlanNode → ℕ → List Fault
faults_of world nodes at = option_map_or (faults_at world nodes at) (slice_get nodes at) []

pub record AreUses (world : World) (nodes : List PlanNode) (count : ℕ) (uses : Uses) : Type 0 where
  pub targets : uses.targets ≡ map (target_at world nodes) (take count (places nodes))
  pub documents : AreUsed world (each_once (filter_map (used_at world nodes) (take count (places nodes))))
      uses.documents
  pub pages : AreFirst (first_uses (filter_map (use_at world nodes) (take count (places nodes)))) uses.pages
  pub faults : uses.faults ≡ flat_map (faults_of world nodes) (take count (places nodes))

-- the use of a document by a node, if it makes a page
abbrev pub use_made : World → List PlanNode → ℕ → PlanNode → Option (List ℕ) → Option pages_spec.Use
use_made world nodes at node used = option_and_then (λ name.
    if is_page_kind (kind_in world name) && is_normal world nodes at then Some (use_by at name node) else None) used

abbrev pub with_uses : List pages_spec.Use → Option pages_spec.Use → List pages_spec.Use
with_uses uses None = uses
with_uses uses (Some page) = with_use uses page

-- the use of a document by a node was added, if it uses one
pub record IsAdded (world : World) (nodes : List PlanNode) (at : ℕ) (node : PlanNode) (names : List (List ℕ))
    (uses : List pages_spec.Use) (used : Option (List ℕ)) (old new : Uses) : Type 0 where
  pub targets : new.targets ≡ old.targets
  pub documents : AreUsed world (with_names names used) new.documents
  pub pages : AreFirst (with_uses uses (use_made world nodes at node used)) new.pages
  pub faults : new.faults ≡ old.faults ++ fault_of_use world node used

abbrev pub told_at : List Bool → ℕ → Bool
told_at inside at = unwrap_or (slice_get inside at) false
