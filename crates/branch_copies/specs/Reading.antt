-- The branches of all nodes are read, from the first node to the last (own). Before a place all is read, and from it on
-- trees are left, one behind the other; of the nodes that stand below a ditavalref some may be passed over first.
use Rattle.std.specs.Prelude.{◌≡◌, ◌+◌, ◌-◌, ℕ, List, [], ◌∷◌, ◌++◌, length, replicate, if◌then◌else◌}
use Rattle.dita_doc.specs.declared.plan.PlanNode.{PlanNode}
use Rattle.ditaval_rules.specs.declared.rules.RulesRead.{RulesRead}
use Rattle.map_spec.specs.Branches as branches
use Rattle.map_spec.specs.Branches.{is_ditavalref}
use Rattle.map_spec.specs.MapTree.{Head, MapTree, count}
use Rattle.reader_spec.specs.World.{World}
use Rattle.plan_nodes.specs.HomeDocs.{Known}
use Rattle.branch_copies.specs.Ditavals.{AreKnown}
use Rattle.branch_copies.specs.Placed.{faults_in, branches_joined, placed, spans_of}
use Rattle.branch_copies.specs.Read.{AreRead}
use Rattle.branch_copies.specs.Stands.{StandsAt}
use Rattle.branch_copies.specs.declared.branches.Branches.{Branches}

-- trees, each with the place of its parent
abbrev pub Trees : Type 0
Trees = List (ℕ × MapTree)

abbrev pub StandAll : List PlanNode → ℕ → Trees → Type 0
StandAll nodes at [] = Unit {0}
StandAll nodes at (first ∷ more) = StandsAt nodes first.0 at first.1 × StandAll nodes (at + count first.1) more

abbrev pub count_all : Trees → ℕ
count_all [] = 0
count_all (first ∷ more) = count first.1 + count_all more

abbrev pub placed_all : World → Trees → List (List branches.Branch)
placed_all world [] = []
placed_all world (first ∷ more) = placed world first.1 ++ placed_all world more

-- the place up to which nodes are passed over behind a node
abbrev pub next_behind : ℕ → Head → MapTree → ℕ
next_behind at head below = if is_ditavalref head.kind then at + 1 + count below else at

-- what is left from a place on
pub record AreLeft (world : World) (nodes : List PlanNode) (at next : ℕ) (left : List (List branches.Branch)) : Type 0
  where
    pub trees : Trees
    pub stand : StandAll nodes (at + (next - at)) trees
    pub ends : at + (next - at) + count_all trees ≡ length nodes
    pub is : left ≡ replicate (next - at) [] ++ placed_all world trees

-- what was read so far
pub record AreDone (world : World) (nodes : List PlanNode) (read : List RulesRead) (entries : List Known)
    (made : Branches) (done : List (List branches.Branch)) : Type 0 where
  pub known : AreKnown world read entries
  pub are : AreRead read nodes made.branches.items (branches_joined done)
  pub spans : made.spans.items ≡ spans_of 0 done
  pub faults : made.faults ≡ faults_in (branches_joined done)

pub record IsReading (world : World) (nodes : List PlanNode) (tree : MapTree) (read : List RulesRead)
    (entries : List Known) (made : Branches) (at next : ℕ) : Type 0 where
  pub done : List (List branches.Branch)
  pub left : List (List branches.Branch)
  pub all : placed world tree ≡ done ++ left
  pub before : AreDone world nodes read entries made done
  pub behind : AreLeft world nodes at next left
