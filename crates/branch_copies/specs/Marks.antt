-- What a chain of branches puts on a node (own): the filters and the affixes of its branches, in order.
use Rattle.std.specs.Prelude.{◌++◌, ◌&&◌, ℕ, List, [], ◌∷◌, Option, None, Some, option_map, slice_get, if◌then◌else◌}
use Rattle.std.specs.Option.{option_and_then, option_to_list}
use Rattle.dita_doc.specs.declared.plan.Affix.{Affix}
use Rattle.dita_doc.specs.declared.plan.PlanKind.TheVariants as kinds
use Rattle.dita_doc.specs.declared.plan.PlanNode.{PlanNode}
use Rattle.map_spec.specs.Branches.{is_map_node, is_no_text, names_in_copy}
use Rattle.branch_copies.specs.declared.branch.Branch.{Branch}
use Rattle.branch_copies.specs.BranchRead.{name_of}

abbrev pub filter_at : List Branch → ℕ → Option (List ℕ)
filter_at branches at = option_and_then (λ (branch : Branch). name_of branch.filter) (slice_get branches at)

abbrev pub if_affix : Affix → Option Affix
if_affix affix = if is_no_text affix.prefix && is_no_text affix.suffix then None else Some affix

abbrev pub affix_at : List Branch → ℕ → Option Affix
affix_at branches at = option_and_then (λ (branch : Branch). if_affix branch.resource) (slice_get branches at)

abbrev pub filters_of : List Branch → List ℕ → List (List ℕ)
filters_of branches [] = []
filters_of branches (at ∷ chain) = option_to_list (filter_at branches at) ++ filters_of branches chain

abbrev pub affixes_of : List Branch → List ℕ → List Affix
affixes_of branches [] = []
affixes_of branches (at ∷ chain) = option_to_list (affix_at branches at) ++ affixes_of branches chain

-- a copy of a node within a chain, below the node at this place; its end is not known yet
abbrev pub copied_node : List Branch → List ℕ → PlanNode → List (List ℕ) → ℕ → PlanNode
copied_node branches chain node names parent = record node {
  parent = parent;
  end = 0;
  scope_names = names;
  filters = node.filters ++ filters_of branches chain;
  affixes = node.affixes ++ affixes_of branches chain;
}

-- the group for a branch of a map, of the ditavalref
abbrev pub group_of : PlanNode → PlanNode → PlanNode
group_of map ditavalref = record ditavalref { kind = kinds.Group; level = map.level }

-- the top of the copy of a node for a branch; of a map it is a group, if the ditavalref is there
abbrev pub top_node : List PlanNode → List Branch → List ℕ → PlanNode → List (List ℕ) → ℕ → Branch → Option PlanNode
top_node nodes branches chain node names parent branch =
    if is_map_node node.kind
    then option_map (λ (ditavalref : PlanNode).
    copied_node branches chain (group_of node ditavalref) (names_in_copy branch.keyscope []) parent)
    (slice_get nodes branch.place)
    else Some (copied_node branches chain node (names_in_copy branch.keyscope names) parent)
