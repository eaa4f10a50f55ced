-- Bounds of recursions (own): more steps than the definitions take change nothing.
use Rattle.std.specs.Prelude.{◌≡◌, ◌<◌, ◌+◌, ◌^◌, ℕ, false, List, [], Some, length, slice_get}
use Rattle.dita_doc.specs.declared.plan.Plan.{Plan}
use Rattle.dita_doc.specs.declared.plan.PlanNode.{PlanNode}
use Rattle.reader_spec.specs.World.{World}
use Rattle.map_spec.specs.Cascade.{places_up, steps_up}
use Rattle.map_spec.specs.Included.{limited, map_included}
use Rattle.map_spec.specs.Keys.{chain, chain_from}
use Rattle.map_spec.specs.Pages.{free_from}
use Rattle.map_spec.specs.Scopes.{definition_found, found_from, qualified}
use Rattle.map_spec.specs.Written.{Element, Whole, Written}
use Rattle.conref_spec.specs.Content.{ContentAround, Place, ResolveInput, followed_from, path_limit, resolved_from}
use Rattle.html_spec.specs.Contents.{items, items_from}

-- a map with its submaps within a limit, or that it has too many nodes
abbrev pub IncludedIsWhole : Type 0
IncludedIsWhole = (limit more : ℕ) (world : World) (path : List (List ℕ)) (level : ℕ) (root : Whole)
    → limited limit (map_included (limit + 1 + more) world path level root)
    ≡ limited limit (map_included (limit + 1) world path level root)

-- nodes whose parents stand before them
abbrev pub HasParentsBefore : List PlanNode → Type 0
HasParentsBefore nodes = (at : ℕ) (node : PlanNode) → 0 < at → slice_get nodes at ≡ Some node → node.parent < at

abbrev pub WalkIsWhole : Type 0
WalkIsWhole = (nodes : List PlanNode) (at more : ℕ) → HasParentsBefore nodes
    → steps_up (at + 1 + more) nodes at ≡ places_up nodes at

abbrev pub QualifiedIsWhole : Type 0
QualifiedIsWhole = (world : World) (nodes : List PlanNode) (scope more : ℕ) (key : List ℕ)
    → qualified (length key + more) world nodes scope key ≡ qualified (length key) world nodes scope key

-- the search of a scope and of those around it
abbrev pub FoundIsWhole : Type 0
FoundIsWhole = (world : World) (nodes : List PlanNode) (scope more : ℕ) (key : List ℕ) → HasParentsBefore nodes
    → found_from (scope + more) world nodes scope key ≡ definition_found world nodes scope key

-- the first free name of a page
abbrev pub FreeIsWhole : Type 0
FreeIsWhole = (taken : List (List ℕ)) (base : List ℕ) (more : ℕ) → 2 + length taken < 2 ^ 64
    → free_from (length taken + more) 2 taken base ≡ free_from (length taken) 2 taken base

-- the items of the contents page
abbrev pub ItemsIsWhole : Type 0
ItemsIsWhole = (world : World) (plan : Plan) (more : ℕ) → HasParentsBefore plan.nodes
    → items_from (length plan.nodes + more) world plan 0 ≡ items world plan

abbrev pub ChainIsWhole : Type 0
ChainIsWhole = (world : World) (nodes : List PlanNode) (scope more : ℕ) (key : List ℕ)
    → chain_from (length nodes + 1 + more) world nodes [] scope key ≡ chain world nodes scope key

abbrev pub FollowedIsWhole : Type 0
FollowedIsWhole = (setting : ResolveInput) (topic : List ℕ) (depth more : ℕ) (path : List Place) (element : Element)
    (inside : Written)
    → followed_from (path_limit + 1 + more) setting topic depth path element inside
    ≡ followed_from (path_limit + 1) setting topic depth path element inside

abbrev pub ResolvedIsWhole : Type 0
ResolvedIsWhole = (setting : ResolveInput) (around : ContentAround) (depth more : ℕ) (nodes : Written)
    → resolved_from (path_limit + 1 + more) setting false around depth [] nodes
    ≡ resolved_from (path_limit + 1) setting false around depth [] nodes
