-- The nodes of a plan: none but the first is excluded by the rules of the build, or by those of its filters.
use Rattle.std.specs.Prelude.{◌≡◌, ◌+◌, ◌++◌, ℕ, zero, suc, false, List, [], ◌∷◌, Option, Ok}
use Rattle.std.specs.List.{list_any}
use Rattle.std.proofs.Common.{sym, subst, arith}
use Rattle.dita_doc.specs.declared.content.Rule.{Rule}
use Rattle.dita_doc.specs.declared.plan.Plan.{Plan}
use Rattle.dita_doc.specs.declared.plan.PlanNode.{PlanNode}
use Rattle.ditaval_rules.specs.declared.rules.RulesRead.{RulesRead}
use Rattle.reader_spec.specs.World.{World}
use Rattle.map_spec.specs.Cascade.{cascaded, cascaded_from}
use Rattle.map_spec.specs.MapTree.{Head, MapTree, NoNodes, MapNode, count, nodes_below, plan_nodes}
use Rattle.map_spec.specs.PlanOf.{Limits, build_rules, plan_of}
use Rattle.map_spec.specs.Scopes.{scoped, scoped_from}
use Rattle.language_laws.specs.Kept.{AreKept, are_excluding, is_excluded_by}
use Rattle.map_lemmas.proofs.HeadLaws.{AllHeads}
use Rattle.language_laws.proofs.KeptLaws.{IsKept}
use Rattle.language_laws.proofs.ListLaws.{AllFrom, at_place}
use Rattle.language_laws.proofs.TreeLaws.{node_with}
use Rattle.language_laws.proofs.PlanLaws.{plan_made}

-- neither the rules of the build nor those of a filter exclude a node
record IsNodeKept (world : World) (rules : List Rule) (at : ℕ) (node : PlanNode) : Type 0 where
  pub by_rules : are_excluding world node rules ≡ false
  pub by_filters : list_any (is_excluded_by world node) node.filters ≡ false

module _ (world : World) (rules : List Rule) where
  -- the nodes of a tree whose heads are kept
  nodes_kept : (parent place : ℕ) (tree : MapTree) → AllHeads (IsKept world rules) tree
      → AllFrom (IsNodeKept world rules) place (nodes_below parent place tree)
  nodes_kept parent place NoNodes all = tt
  nodes_kept parent place (MapNode head below more) all = (
    record { by_rules = all.0.by_rules; by_filters = all.0.by_filters },
    node_with (IsNodeKept world rules) parent place below more (nodes_kept place (place + 1) below all.1)
        (nodes_kept parent (place + 1 + count below) more all.2),
  )

  -- with cascaded values
  cascaded_kept : (nodes : List PlanNode) (at place : ℕ) (own : List PlanNode)
      → AllFrom (IsNodeKept world rules) place own
      → AllFrom (IsNodeKept world rules) place (cascaded_from world nodes at own)
  cascaded_kept nodes at place [] all = tt
  cascaded_kept nodes at place (node ∷ own) all = (
    record { by_rules = all.0.by_rules; by_filters = all.0.by_filters },
    cascaded_kept nodes (at + 1) (place + 1) own all.1,
  )

  -- with scopes
  scoped_kept : (nodes : List PlanNode) (at place : ℕ) (own : List PlanNode)
      → AllFrom (IsNodeKept world rules) place own
      → AllFrom (IsNodeKept world rules) place (scoped_from nodes at own)
  scoped_kept nodes at place [] all = tt
  scoped_kept nodes at place (node ∷ own) all = (
    record { by_rules = all.0.by_rules; by_filters = all.0.by_filters },
    scoped_kept nodes (at + 1) (place + 1) own all.1,
  )

  -- of a list whose nodes behind the first are kept, none but the first is excluded
  behind_kept : (first : PlanNode) (nodes : List PlanNode) → AllFrom (IsNodeKept world rules) 1 nodes
      → AreKept world rules (first ∷ nodes)
  behind_kept first nodes all zero node after is = absurd (omega arith)
  behind_kept first nodes all (suc k) node after is =
      let own = at_place (IsNodeKept world rules) 1 nodes all k node is in (own.by_rules, own.by_filters)

  -- the nodes of a map in a plan
  root_kept : (head : Head) (below : MapTree) → AllHeads (IsKept world rules) below
      → AreKept world rules (scoped (cascaded world (plan_nodes (MapNode head below NoNodes))))
  root_kept head below all =
      let nodes = plan_nodes (MapNode head below NoNodes) in
      let values = cascaded world nodes in
      let own = nodes_below 0 1 below ++ [] in
      let inside = node_with (IsNodeKept world rules) 0 0 below NoNodes (nodes_kept 0 1 below all) tt in
      behind_kept _ (scoped_from values 1 (cascaded_from world nodes 1 own))
      (scoped_kept values 1 1 (cascaded_from world nodes 1 own) (cascaded_kept nodes 1 1 own inside))

-- no node but the first is excluded
pub plan_kept : (most : Limits) (world : World) (map : List ℕ) (val : Option (List ℕ)) (read : RulesRead)
    (plan : Plan) → build_rules world val ≡ Ok read → plan_of most world map val ≡ Ok plan
    → AreKept world read.rules plan.nodes
plan_kept most world map val read plan rules e =
    let by = plan_made most world map val plan e in
    let same : by.read ≡ read = cc (by.rules, rules) in
    let whole = by.made.whole in
    subst (λ (read : RulesRead). AreKept world read.rules plan.nodes) same
    (subst (AreKept world by.read.rules) (sym by.made.nodes)
    (subst (λ tree. AreKept world by.read.rules (scoped (cascaded world (plan_nodes tree)))) (sym whole.is)
    (root_kept world by.read.rules whole.head whole.below whole.all)))
