-- Which documents a plan asks for (own): the map and the DITAVAL of a build; the maps that a document names which was
-- told; and the DITAVALs that its ditavalrefs name. And which its nodes name.
use Rattle.std.specs.Prelude.{ℕ, List, ◌∷◌, ◌++◌, Option}
use Rattle.std.specs.List.{flat_map}
use Rattle.std.specs.Option.{option_to_list}
use Rattle.branch_copies.specs.Ditavalrefs.{ditaval_targets}
use Rattle.dita_doc.specs.declared.plan.PlanNode.{PlanNode}
use Rattle.map_expand.specs.Telling.{map_targets}
use Rattle.readers.specs.Documents.{Follows}
use Rattle.readers.specs.Founded.{homes}

-- the map and the DITAVAL of a build
abbrev pub build_names : List ℕ → Option (List ℕ) → List (List ℕ)
build_names map val = map ∷ option_to_list val

-- the maps and the DITAVALs that follow from what was told
abbrev pub plan_targets : Follows
plan_targets t = map_targets t ++ ditaval_targets t

-- the DITAVALs by which nodes are filtered
abbrev pub filters_of : List PlanNode → List (List ℕ)
filters_of nodes = flat_map (λ (node : PlanNode). node.filters) nodes

-- the documents in which nodes stand, and these DITAVALs
abbrev pub names_of_nodes : List PlanNode → List (List ℕ)
names_of_nodes nodes = homes nodes ++ filters_of nodes
