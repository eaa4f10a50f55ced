-- Filtering a map by a DITAVAL (DITA 1.3, "Conditional processing (profiling)", "Filtering based on metadata
-- attributes"). A node that is excluded goes with all below it; that the root is never judged is our own.
use Rattle.std.specs.Prelude.{◌&&◌, ℕ, Bool, true, false, List, [], ◌++◌, Option, None, filter, map, if◌then◌else◌}
use Rattle.std.specs.Option.{option_map_or}
use Rattle.dita_doc.specs.declared.content.Rule.{Rule}
use Rattle.dita_doc.specs.declared.doc.Attribute.{Attribute}
use Rattle.dita_doc.specs.declared.fault.Fault.{Fault}
use Rattle.dita_doc.specs.declared.fault.FaultCode.TheVariants as faults
use Rattle.dita_doc.specs.declared.plan.PlanKind.{PlanKind}
use Rattle.dita_doc.specs.declared.plan.PlanKind.TheVariants as kinds
use Rattle.dita_doc.specs.Tree.{Content}
use Rattle.ditaval_rules.specs.Domains.{declared_at}
use Rattle.ditaval_rules.specs.Verdict.{excluded, is_conditional_among, is_grouped}
use Rattle.reader_spec.specs.World.{World}
use Rattle.map_spec.specs.Elements.{fault_at}
use Rattle.map_spec.specs.MapTree.{Grown, Head, MapTree, NoNodes, MapNode, beside, no_growth, with_faults}
use Rattle.map_spec.specs.Written.{Element, Whole, element_in}

-- the element for which a node stands; a group has none
abbrev pub has_element : PlanKind → Bool
has_element kinds.Group = false
has_element _ = true

abbrev pub whole_of : World → Head → Option Whole
whole_of world head = if has_element head.kind then element_in world head.doc head.place else None

-- the names of conditional attributes that are declared for this element
abbrev pub declared_in : World → List ℕ → ℕ → List (List ℕ)
declared_in world doc place = option_map_or (λ (tree : Content). declared_at [] tree place) (world doc) []

abbrev pub declared_of : World → Head → List (List ℕ)
declared_of world head = declared_in world head.doc head.place

-- a value of groups counts as absent, with a fault
abbrev pub has_groups : List (List ℕ) → Attribute → Bool
has_groups declared written = is_conditional_among declared written.name && is_grouped written.value

abbrev pub group_faults : List (List ℕ) → Element → List Fault
group_faults declared element = map (λ (written : Attribute). fault_at element faults.GroupValue written.name)
    (filter (has_groups declared) element.attributes)

abbrev pub group_faults_of : World → Head → List Fault
group_faults_of world head =
    option_map_or (λ (whole : Whole). group_faults (declared_of world head) whole.0) (whole_of world head) []

abbrev pub is_excluded : World → List Rule → Head → Bool
is_excluded world rules head = option_map_or
    (λ (whole : Whole). excluded rules (declared_of world head) whole.0.attributes) (whole_of world head) false

-- the nodes that rules leave
abbrev pub kept : World → List Rule → MapTree → MapTree
kept world rules NoNodes = NoNodes
kept world rules (MapNode head below more) =
    if is_excluded world rules head then kept world rules more
    else MapNode head (kept world rules below) (kept world rules more)

-- the same with the faults of each node that is judged
abbrev pub judged : World → List Rule → MapTree → Grown
judged world rules NoNodes = no_growth
judged world rules (MapNode head below more) = with_faults (group_faults_of world head)
    (if is_excluded world rules head then judged world rules more
    else beside (record {
      tree = MapNode head (judged world rules below).tree NoNodes;
      faults = (judged world rules below).faults;
    }) (judged world rules more))

-- a whole map: its root stays, with its own faults
abbrev pub filtered : World → List Rule → MapTree → Grown
filtered world rules NoNodes = no_growth
filtered world rules (MapNode head below more) = record {
  tree = MapNode head (judged world rules below).tree more;
  faults = group_faults_of world head ++ (judged world rules below).faults;
}
