-- What is copied (own): nodes with their elements, the names that are declared for these and the names of their scopes,
-- and their branches with the rules of these, each as a world has it.
use Rattle.std.specs.Prelude.{◌≡◌, ◌+◌, ◌≤◌, ◌&&◌, ℕ, Bool, false, not, List, Option, Some, None, length, map, slice_get}
use Rattle.std.specs.Option.{option_and_then}
use Rattle.dita_doc.specs.declared.content.Rule.{Rule}
use Rattle.dita_doc.specs.declared.plan.PlanNode.{PlanNode}
use Rattle.ditaval_rules.specs.Verdict.{excluded}
use Rattle.ditaval_rules.specs.declared.rules.RulesRead.{RulesRead}
use Rattle.map_spec.specs.Branches as branches
use Rattle.map_spec.specs.Branches.{branches_of, is_ditavalref, scope_names_of}
use Rattle.map_spec.specs.Cascade.{whole_at}
use Rattle.map_spec.specs.MapTree.{Head, MapTree, MapNode, NoNodes, count, node_of}
use Rattle.map_spec.specs.Written.{Whole}
use Rattle.plan_nodes.specs.Home as home
use Rattle.reader_spec.specs.World.{World}
use Rattle.branch_copies.specs.BranchRead.{place_of}
use Rattle.node_filter.specs.Domains.{names_at, shown}
use Rattle.branch_copies.specs.Read.{AreRead, HaveBranches, branches_in}
use Rattle.branch_copies.specs.Stands.{StandsAt, is_map_at}
use Rattle.branch_copies.specs.declared.branch.Branch.{Branch}
use Rattle.branch_copies.specs.declared.branches.Span.{Span}
use Rattle.branch_copies.specs.declared.node.Original.{Original}
use Rattle.branch_copies.specs.declared.node.Seen.{Seen}
use Rattle.branch_copies.specs.declared.node.Originals.{Originals}

pub record IsSource (world : World) (source : Originals) (defined : List branches.Branch) : Type 0 where
  pub ditavals : List RulesRead
  pub homes : source.homes.now ≡ map (whole_at world) source.nodes.now
  pub declared : shown source.declared.items ≡ map (names_at world) source.nodes.now
  pub names : (parent at : ℕ) (head : Head) (below more : MapTree)
      → StandsAt source.nodes.now parent at (MapNode head below more)
      → slice_get source.names.now at ≡ Some (scope_names_of world head below head.kind)
  pub read : AreRead ditavals source.nodes.now source.branches.now defined
  pub tables : source.tables.items ≡ map (λ (read : RulesRead). read.rules) ditavals

-- the rules of the branch at a place, if it filters
abbrev pub table_at : List Branch → List (List Rule) → ℕ → Option (List Rule)
table_at branches tables at =
    option_and_then (λ (place : ℕ). slice_get tables place)
    (option_and_then (λ (branch : Branch). place_of branch.filter) (slice_get branches at))

abbrev pub branch_excludes : Option (List (List ℕ)) → Option Whole → Option (List Rule) → Bool
branch_excludes None whole rules = false
branch_excludes (Some declared) None rules = false
branch_excludes (Some declared) (Some whole) None = false
branch_excludes (Some declared) (Some whole) (Some rules) = excluded rules declared whole.0.attributes

-- whether a branch excludes the element of the node at a place
abbrev pub excludes_at : Originals → ℕ → ℕ → Bool
excludes_at source at branch = branch_excludes (slice_get (shown source.declared.items) at)
    (home.whole_at source.homes.now at) (table_at source.branches.now source.tables.items branch)

abbrev pub excludes_top_at : Originals → ℕ → ℕ → Bool
excludes_top_at source at branch = not (is_map_at source.nodes.now at) && excludes_at source at branch

-- a node with the names of its scope, if both are there
abbrev pub node_with : Option PlanNode → Option (List (List ℕ)) → Option (PlanNode × List (List ℕ))
node_with None names = None
node_with (Some node) None = None
node_with (Some node) (Some names) = Some (node, names)

abbrev pub parts_of : Original → PlanNode × List (List ℕ)
parts_of original = (original.node.now, original.names.now)

-- The first of the nodes of a walk

abbrev pub no_span : Span
no_span = record { first = 0; count = 0 }

-- these are its branches
pub record HasSpan (world : World) (defined : List branches.Branch) (span : Span) (head : Head) (below : MapTree)
    : Type 0 where
  pub fits : span.first + span.count ≤ length defined
  pub are : branches_in defined span ≡ branches_of world head below

pub record IsFirst (world : World) (source : Originals) (defined : List branches.Branch) (at : ℕ) (seen : Seen)
    (head : Head) (below : MapTree) : Type 0 where
  pub above : ℕ
  pub stands : StandsAt source.nodes.now above at (MapNode head below NoNodes)
  pub end : seen.end ≡ at + 1 + count below
  pub node : seen.original.node.now ≡ node_of head above (at + 1 + count below)
  pub names : seen.original.names.now ≡ scope_names_of world head below head.kind
  pub branches : is_ditavalref head.kind ≡ false → HasSpan world defined seen.span head below
  pub inside : is_ditavalref head.kind ≡ false → HaveBranches world source.spans.now defined (at + 1) below

abbrev pub SeesFirst : World → Originals → List branches.Branch → ℕ → Head → MapTree → Option Seen → Type 0
SeesFirst world source defined at head below None = ⊥
SeesFirst world source defined at head below (Some seen) = IsFirst world source defined at seen head below
