-- The copying of all nodes is begun and ended.
use Rattle.std.specs.Prelude.{◌≡◌, ◌≤◌, ℕ, Bool, true, false, List, [], ◌∷◌, Result, Ok, Err, length, map, nat_le, if◌then◌else◌}
use Rattle.std.specs.Result.{result_map_both}
use Rattle.std.proofs.Common.{refl, sym, ap, subst, ◌∙◌, arith}
use Rattle.std.proofs.lemmas.Bool.{le-leb, lt-leb}
use Rattle.dita_doc.specs.Gives.{Gives}
use Rattle.dita_doc.specs.declared.fault.Fault.{Fault}
use Rattle.dita_doc.specs.declared.plan.Expanded.{Expanded}
use Rattle.dita_doc.specs.declared.plan.PlanKind.TheVariants as kinds
use Rattle.dita_doc.specs.declared.plan.PlanNode.{PlanNode}
use Rattle.dita_doc.specs.declared.plan.PlanStop.{PlanStop}
use Rattle.dita_doc.specs.declared.plan.PlanStop.TheVariants as stops
use Rattle.dita_doc.specs.declared.stop.Stop.{Stop}
use Rattle.dita_doc.specs.declared.stop.Stop.TheVariants as stop
use Rattle.map_spec.specs.Branches.{Branch, all_beside, branch_faults, branches_of, branched, copied, copies, group_for, is_ditavalref, is_map_node, copy_for, with_scope_names}
use Rattle.map_spec.specs.Included.{expanded, map_node_limit}
use Rattle.map_spec.specs.MapTree.{Grown, Head, MapTree, MapNode, NoNodes, count, plan_nodes, trees_beside}
use Rattle.plan_nodes.specs.Preorder.{HasOneRoot, without_end}
use Rattle.reader_spec.specs.World.{World}
use Rattle.map_lemmas.proofs.TreeLaws.{length_below}
use Rattle.plan_nodes.proofs.EndLaws.{cleared_twice}
use Rattle.branch_copies.specs.Going.{Going, IsOver, chains_of}
use Rattle.branch_copies.specs.Leaves.{Leaves, WalkMakes}
use Rattle.branch_copies.specs.Read.{HaveBranches}
use Rattle.branch_copies.specs.declared.copying.Copying.{Copying}
use Rattle.branch_copies.specs.declared.node.Originals.{Originals}
use Rattle.branch_copies.specs.declared.work.Walk.{Walk}
use Rattle.branch_copies.specs.declared.work.Work.TheVariants as works
use Rattle.branch_copies.proofs.FirstLaws as firsts
use Rattle.branch_copies.proofs.LeavesLaws.{pushed}
use Rattle.branch_copies.proofs.StandLaws.{count_all, stands_all}
use Rattle.branch_copies.proofs.TreeLaws.{length_without}

-- all nodes are left
pub begun : (world : World) (source : Originals) (defined : List Branch) (tree : MapTree) (x : Copying) (end : ℕ)
    → x.made.items ≡ [] → chains_of x ≡ [] ∷ []
    → x.left.items ≡ works.Walk (record { at = 0; end = end; parent = 0; chain = 0 }) ∷ []
    → source.nodes.now ≡ plan_nodes tree → end ≡ length source.nodes.now
    → HaveBranches world source.spans.now defined 0 tree
    → Going world source defined x x.made.items (map without_end (plan_nodes (copied world tree)))
begun world source defined tree x end made chains left are ended have =
    let walk : Walk = record { at = 0; end = end; parent = 0; chain = 0 } in
    let all : List PlanNode = map without_end (plan_nodes (copied world tree)) in
    let makes : WalkMakes world source defined ([] ∷ []) walk (copied world tree) = record {
      above = 0;
      original = tree;
      stands = stands_all tree source.nodes.now are;
      have = have;
      ends = omega (arith, ended, count_all tree source.nodes.now are);
      chain = omega arith;
      is = refl;
    } in
    let whole : Leaves world source defined ([] ∷ []) (works.Walk walk ∷ []) [] all =
    pushed world source defined ([] ∷ []) [] (works.Walk walk) (copied world tree) [] all makes refl in
    record {
      few = omega (arith, ap (λ l. length l) made);
      leaves = subst (λ cs. Leaves world source defined cs x.left.items x.made.items all) (sym chains)
          (subst (λ l. Leaves world source defined ([] ∷ []) l x.made.items all) (sym left)
          (subst (λ m. Leaves world source defined ([] ∷ []) (works.Walk walk ∷ []) m all) (sym made) whole));
    }

-- nothing is left
pub ended_all : (world : World) (source : Originals) (defined : List Branch) (x : Copying) (all : List PlanNode)
    → x.left.items ≡ [] → Going world source defined x x.made.items all → x.made.items ≡ all
ended_all world source defined x all none going =
    subst (λ l. Leaves world source defined (chains_of x) l x.made.items all) none going.leaves

-- the copies of a map have one root

root_beside : (tree : MapTree) → HasOneRoot tree → HasOneRoot (trees_beside tree NoNodes)
root_beside NoNodes one = tt
root_beside (MapNode head below more) one = ap (λ m. trees_beside m NoNodes) one

root_copies : (world : World) (head : Head) (below : MapTree) (branches : List Branch) → is_map_node head.kind ≡ true
    → HasOneRoot (copies world head below branches)
root_copies world head below [] is = refl
root_copies world head below (branch ∷ branches) is =
    subst (λ b. HasOneRoot (if b then MapNode head (all_beside (map (group_for world head below)
    (branch ∷ branches))) NoNodes
    else all_beside (map (copy_for world head below) (branch ∷ branches)))) (sym is) refl

pub one_root : (world : World) (head : Head) (below : MapTree) → head.kind ≡ kinds.Map
    → HasOneRoot (copied world (MapNode head below NoNodes))
one_root world head below is =
    let other : is_ditavalref head.kind ≡ false = ap is_ditavalref is in
    let map_is : is_map_node head.kind ≡ true = ap is_map_node is in
    subst HasOneRoot (sym (firsts.copied_node world head below NoNodes other))
    (root_beside (copies world (with_scope_names world head below) (copied world below) (branches_of world head below))
    (root_copies world (with_scope_names world head below) (copied world below) (branches_of world head below) map_is))

-- The answer

abbrev given : Result Grown PlanStop → Result (List PlanNode) PlanStop
given grown = result_map_both (λ (g : Grown). plan_nodes g.tree) (λ stop. stop) grown

long_all : (tree : MapTree) → length (map without_end (plan_nodes tree)) ≡ count tree
long_all tree = length_without (plan_nodes tree) ∙ length_below 0 0 tree

pub finished : (world : World) (tree : MapTree) (made nodes : List PlanNode)
    → made ≡ map without_end (plan_nodes (copied world tree)) → length made ≤ map_node_limit
    → nodes ≡ plan_nodes (copied world tree) → given (branched map_node_limit world tree) ≡ Ok nodes
finished world tree made nodes all few are =
    let grown : Grown = record { tree = copied world tree; faults = branch_faults world tree } in
    ap (λ (t : Bool). given (if t then Ok grown else Err stops.TooManyNodes))
    (le-leb (count (copied world tree)) map_node_limit
    (omega (arith, ap (λ l. length l) all, long_all (copied world tree), few)))
    ∙ ap Ok (sym are)

pub stopped : (world : World) (tree : MapTree) (end : Stop PlanStop)
    → IsOver end (map without_end (plan_nodes (copied world tree)))
    → Gives {A = List PlanNode} (Err end) (given (branched map_node_limit world tree))
stopped world tree (stop.Fault fault) over =
    let grown : Grown = record { tree = copied world tree; faults = branch_faults world tree } in
    ap (λ (t : Bool). given (if t then Ok grown else Err stops.TooManyNodes))
    (lt-leb (count (copied world tree)) map_node_limit (omega (arith, long_all (copied world tree), over.1)))
    ∙ ap Err (sym over.0)
stopped world tree stop.NoMemory over = tt

pub ends_of : (made : List PlanNode) (tree : MapTree) → made ≡ map without_end (plan_nodes tree)
    → map without_end made ≡ map without_end (plan_nodes tree)
ends_of made tree is = ap (map without_end) is ∙ cleared_twice (plan_nodes tree)

-- With the faults

seen_by : (grown : Result Grown PlanStop) (nodes : List PlanNode) (faults : List Fault)
    → ((one : Grown) → grown ≡ Ok one → one.faults ≡ faults) → given grown ≡ Ok nodes
    → result_map_both expanded (λ stop. stop) grown ≡ Ok (record { nodes = nodes; faults = faults })
seen_by (Ok grown) nodes faults same is =
    let nodes_are : plan_nodes grown.tree ≡ nodes = cc in
    ap (λ n. Ok (let made : Expanded = record { nodes = n; faults = grown.faults } in made)) nodes_are
    ∙ ap (λ f. Ok (let made : Expanded = record { nodes = nodes; faults = f } in made)) (same grown refl)
seen_by (Err end) nodes faults same is = absurd (cc)

faults_are : (world : World) (tree : MapTree) (one : Grown) → branched map_node_limit world tree ≡ Ok one
    → one.faults ≡ branch_faults world tree
faults_are world tree one is = by_test (nat_le (count (copied world tree)) map_node_limit) is
  where
    by_test : (test : Bool)
        → (if test then Ok (let grown : Grown = record { tree = copied world tree; faults = branch_faults world tree } in grown)
        else Err stops.TooManyNodes) ≡ Ok one → one.faults ≡ branch_faults world tree
    by_test true e = cc
    by_test false e = absurd (cc)

pub with_faults : (world : World) (tree : MapTree) (nodes : List PlanNode) (faults : List Fault)
    → faults ≡ branch_faults world tree → given (branched map_node_limit world tree) ≡ Ok nodes
    → result_map_both expanded (λ stop. stop) (branched map_node_limit world tree)
    ≡ Ok (record { nodes = nodes; faults = faults })
with_faults world tree nodes faults are is =
    seen_by (branched map_node_limit world tree) nodes faults (λ one same. faults_are world tree one same ∙ sym are) is

stop_by : (grown : Result Grown PlanStop) (stop : PlanStop) → given grown ≡ Err stop
    → result_map_both expanded (λ stop. stop) grown ≡ Err stop
stop_by (Ok grown) stop is = absurd (cc)
stop_by (Err end) stop is = let same : end ≡ stop = cc in ap Err same

pub stop_same : (grown : Result Grown PlanStop) (end : Stop PlanStop)
    → Gives {A = List PlanNode} (Err end) (given grown)
    → Gives {A = Expanded} (Err end) (result_map_both expanded (λ stop. stop) grown)
stop_same grown (stop.Fault fault) is = stop_by grown fault is
stop_same grown stop.NoMemory is = tt
