-- The plan of a build (own): the nodes of its map with their submaps, filtered, with branches copied, cascaded and in
-- scopes; and its pages.
use Rattle.std.specs.Prelude.{ℕ, List, [], ◌++◌, Option, Some, None, Result, Ok, Err, length, nat_le, if◌then◌else◌}
use Rattle.dita_doc.specs.declared.fault.Fault.{Fault}
use Rattle.dita_doc.specs.declared.plan.Plan.{Plan}
use Rattle.dita_doc.specs.declared.plan.PlanNode.{PlanNode}
use Rattle.dita_doc.specs.declared.plan.PlanStop.{PlanStop}
use Rattle.dita_doc.specs.declared.plan.PlanStop.TheVariants as stops
use Rattle.ditaval_rules.specs.declared.rules.RulesRead.{RulesRead}
use Rattle.reader_spec.specs.World.{World}
use Rattle.map_spec.specs.Branches.{branched, ditaval_in}
use Rattle.map_spec.specs.Cascade.{cascaded}
use Rattle.map_spec.specs.Included.{included_from, is_map, map_node_limit, root_in}
use Rattle.map_spec.specs.Judged.{filtered}
use Rattle.map_spec.specs.MapTree.{Grown, plan_nodes}
use Rattle.map_spec.specs.Pages.{documents_of, page_faults, pages_of, node_targets}
use Rattle.map_spec.specs.Scopes.{name_faults, scoped, scopes}
use Rattle.map_spec.specs.Written.{Whole}

-- what a plan has room for
pub record Limits : Type 0 where
  pub nodes : ℕ
  pub pages : ℕ

abbrev pub limits : Limits
limits = record { nodes = map_node_limit; pages = 4096 }

-- The DITAVAL of a build: none, or one that must be there

abbrev pub no_rules : RulesRead
no_rules = record { rules = []; faults = [] }

abbrev pub rules_there : Option RulesRead → Result RulesRead PlanStop
rules_there None = Err stops.NoDitaval
rules_there (Some read) = Ok read

abbrev pub build_rules : World → Option (List ℕ) → Result RulesRead PlanStop
build_rules world None = Ok no_rules
build_rules world (Some val) = rules_there (ditaval_in world val)

-- The steps, each with the faults of those before

abbrev pub then_plan : {X Y : Type 0} → Result X PlanStop → (X → Result Y PlanStop) → Result Y PlanStop
then_plan (Ok x) next = next x
then_plan (Err stop) next = Err stop

-- the plan of nodes that are cascaded and in scopes
abbrev pub plan_with : World → List Fault → List PlanNode → Plan
plan_with world before nodes = record {
  nodes = scoped nodes;
  scopes = scopes nodes;
  pages = pages_of world nodes;
  targets = node_targets world nodes;
  documents = documents_of world nodes;
  faults = before ++ name_faults world nodes ++ page_faults world nodes;
}

abbrev pub few_pages : ℕ → Plan → Result Plan PlanStop
few_pages limit plan = if nat_le (length plan.pages) limit then Ok plan else Err stops.TooManyPages

-- of a tree with its branches copied
abbrev pub plan_of_tree : Limits → World → List Fault → Grown → Result Plan PlanStop
plan_of_tree most world before grown =
    few_pages most.pages (plan_with world (before ++ grown.faults) (cascaded world (plan_nodes grown.tree)))

-- of a tree with all submaps
abbrev pub plan_of_map : Limits → World → RulesRead → Grown → Result Plan PlanStop
plan_of_map most world read grown =
    let judged = filtered world read.rules grown.tree in
    then_plan (branched most.nodes world judged.tree)
    (plan_of_tree most world (read.faults ++ grown.faults ++ judged.faults))

abbrev pub grown_from : Limits → World → List ℕ → Whole → Result Grown PlanStop
grown_from most world map root = included_from most.nodes world map (Some root)

abbrev pub plan_of_root : Limits → World → List ℕ → Option (List ℕ) → Option Whole → Result Plan PlanStop
plan_of_root most world map val None = Err stops.NoMap
plan_of_root most world map val (Some root) = if is_map root
    then then_plan (build_rules world val)
    (λ read. then_plan (grown_from most world map root) (plan_of_map most world read))
    else Err stops.NotMap

-- the plan of a map with a DITAVAL or without, or why there is none
unfoldable pub plan_of : Limits → World → List ℕ → Option (List ℕ) → Result Plan PlanStop
plan_of most world map val = plan_of_root most world map val (root_in world map)
