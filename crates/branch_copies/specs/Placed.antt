-- The branches of all nodes by their places (own): those of each node in preorder, and none of a ditavalref and of what
-- stands below it. A span says which of all branches a node has.
use Rattle.std.specs.Prelude.{◌+◌, ℕ, List, [], ◌∷◌, ◌++◌, length, replicate, if◌then◌else◌}
use Rattle.std.specs.List.{flat_map}
use Rattle.dita_doc.specs.declared.fault.Fault.{Fault}
use Rattle.map_spec.specs.Branches.{Branch, branches_of, is_ditavalref}
use Rattle.map_spec.specs.MapTree.{MapTree, MapNode, NoNodes, count}
use Rattle.reader_spec.specs.World.{World}
use Rattle.branch_copies.specs.declared.branches.Span.{Span}

abbrev pub placed : World → MapTree → List (List Branch)
placed world NoNodes = []
placed world (MapNode head below more) =
    if is_ditavalref head.kind then ([] ∷ replicate (count below) []) ++ placed world more
    else branches_of world head below ∷ (placed world below ++ placed world more)

-- one list behind the other
abbrev pub branches_joined : List (List Branch) → List Branch
branches_joined lists = flat_map (λ (own : List Branch). own) lists

-- the faults of branches
abbrev pub faults_in : List Branch → List Fault
faults_in branches = flat_map (λ (branch : Branch). branch.filter.faults) branches

abbrev pub span_of : ℕ → List Branch → Span
span_of first own = record { first = first; count = length own }

-- the spans of lists that are joined, of which the first begins here
abbrev pub spans_of : ℕ → List (List Branch) → List Span
spans_of first [] = []
spans_of first (own ∷ more) = span_of first own ∷ spans_of (first + length own) more
