-- Branches are read, and put behind those that were read before (own).
use Rattle.std.specs.Prelude.{◌≡◌, ◌+◌, ◌++◌, ℕ, Bool, false, List, [], ◌∷◌, option_map, slice_get, if◌then◌else◌}
use Rattle.std.specs.List.{flat_map}
use Rattle.std.specs.Option.{option_map_or, option_to_list}
use Rattle.dita_doc.specs.declared.plan.PlanNode.{PlanNode}
use Rattle.ditaval_rules.specs.declared.rules.RulesRead.{RulesRead}
use Rattle.map_spec.specs.Branches as branches
use Rattle.map_spec.specs.Branches.{branch_of, ditavalrefs, has_branches, is_ditavalref}
use Rattle.map_spec.specs.Judged.{whole_of}
use Rattle.map_spec.specs.MapTree.{Head, MapTree, count}
use Rattle.reader_spec.specs.World.{World}
use Rattle.plan_nodes.specs.HomeDocs.{Known}
use Rattle.branch_copies.specs.Ditavals.{AreKnown, Longer}
use Rattle.branch_copies.specs.Placed.{faults_in}
use Rattle.branch_copies.specs.Read.{AreRead}
use Rattle.branch_copies.specs.Stands.{StandsAt}
use Rattle.branch_copies.specs.declared.branch.Branch.{Branch}
use Rattle.branch_copies.specs.declared.branches.Branches.{Branches}

-- the branches of ditavalrefs, of each whose element is there
abbrev pub branches_for : World → List Head → List branches.Branch
branches_for world refs =
    flat_map (λ ref. option_to_list (option_map (branch_of world ref) (whole_of world ref))) refs

abbrev pub if_ditavalref : Head → List Head
if_ditavalref head = if is_ditavalref head.kind then head ∷ [] else []

abbrev pub has_branches_at : List PlanNode → ℕ → Bool
has_branches_at nodes at = option_map_or (λ (node : PlanNode). has_branches node.kind) (slice_get nodes at) false

-- these branches were read, by the DITAVALs that are read by now, and their faults appended
pub record AreAppended (world : World) (nodes : List PlanNode) (old new : List RulesRead) (entries : List Known)
    (before after : Branches) (defined : List branches.Branch) : Type 0 where
  pub longer : Longer old new
  pub known : AreKnown world new entries
  pub more : List Branch
  pub branches : after.branches.items ≡ before.branches.items ++ more
  pub are : AreRead new nodes more defined
  pub faults : after.faults ≡ before.faults ++ faults_in defined
  pub spans : after.spans.items ≡ before.spans.items

-- what is left of the nodes below a node: of those before it the ditavalrefs are known
pub record RefsLeft (nodes : List PlanNode) (at end child : ℕ) (below : MapTree) (done : List Head) : Type 0 where
  pub left : MapTree
  pub stands : StandsAt nodes at child left
  pub ends : child + count left ≡ end
  pub all : done ++ ditavalrefs left ≡ ditavalrefs below

-- those of the children before a place were read
pub record AreRefsRead (world : World) (nodes : List PlanNode) (old new : List RulesRead) (entries : List Known)
    (before after : Branches) (at end child : ℕ) (below : MapTree) : Type 0 where
  pub done : List Head
  pub left : RefsLeft nodes at end child below done
  pub read : AreAppended world nodes old new entries before after (branches_for world done)
