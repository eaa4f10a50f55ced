-- The nodes of the plan of a map, whatever its map: they stand as those of a tree, and carry their values and scopes.
use Rattle.std.specs.Prelude.{◌≡◌, ℕ, List, Option, Ok}
use Rattle.std.proofs.Common.{refl, sym, subst}
use Rattle.dita_doc.specs.declared.plan.Plan.{Plan}
use Rattle.dita_doc.specs.declared.plan.PlanNode.{PlanNode}
use Rattle.map_spec.specs.Cascade.{cascaded}
use Rattle.map_spec.specs.Judged.{filtered}
use Rattle.map_spec.specs.MapTree.{plan_nodes}
use Rattle.map_spec.specs.PlanOf.{Limits, plan_of}
use Rattle.map_spec.specs.Scopes.{scoped}
use Rattle.map_lemmas.proofs.CarriedLaws.{made_shapes, made_values}
use Rattle.plan_nodes.specs.Carried.{CarryScopes, CarryValues}
use Rattle.plan_nodes.specs.Preorder.{IsTree}
use Rattle.reader_spec.specs.World.{World}
use Rattle.build_plan.proofs.CarryLaws.{scopes_scoped}
use Rattle.build_plan.proofs.PlanPagesLaws.{plan_made, tree_left}
use Rattle.build_plan.proofs.TreeLaws.{copied_tree, filtered_tree, included_tree, one_root}

pub record AreReady (world : World) (nodes : List PlanNode) : Type 0 where
  pub tree : IsTree nodes
  pub values : CarryValues world nodes
  pub scopes : CarryScopes nodes

pub nodes_ready : (most : Limits) (world : World) (name : List ℕ) (val : Option (List ℕ)) (plan : Plan)
    → plan_of most world name val ≡ Ok plan → AreReady world plan.nodes
nodes_ready most world name val plan is =
    let made = plan_made most world name val plan is in
    let tree = tree_left world made.read made.grown in
    let nodes = cascaded world (plan_nodes tree) in
    let whole = copied_tree world (filtered world made.read.rules made.grown.tree).tree
    (filtered_tree world made.read.rules made.grown.tree
    (included_tree most.nodes world name made.grown made.was)) in
    subst (λ (p : Plan). AreReady world p.nodes) (sym made.of.is) (record {
      tree = record { tree = tree; one = one_root tree whole; is = made_shapes world (plan_nodes tree) };
      values = record { each = made_values world (plan_nodes tree) };
      scopes = scopes_scoped nodes (scoped nodes) refl;
    })
