-- What is known of the plan of a map, whatever its map: its nodes are those of a tree and carry their values and their
-- scopes, each page is the first for its own context and that of a document of topics, and no document stands in it twice.
use Rattle.std.specs.Prelude.{◌≡◌, ℕ, List, Option, Ok}
use Rattle.std.specs.List.{filter_map}
use Rattle.std.proofs.Common.{refl, sym, ap, subst}
use Rattle.dita_doc.specs.declared.fault.Fault.{Fault}
use Rattle.dita_doc.specs.declared.plan.Plan.{Plan}
use Rattle.dita_doc.specs.declared.plan.PlanNode.{PlanNode}
use Rattle.map_spec.specs.Cascade.{cascaded}
use Rattle.map_spec.specs.MapTree.{plan_nodes}
use Rattle.map_spec.specs.Pages.{documents_of, pages_of, node_targets, used_at}
use Rattle.map_spec.specs.PlanOf.{limits, plan_of, plan_with}
use Rattle.map_spec.specs.Scopes.{places}
use Rattle.map_lemmas.proofs.CarriedLaws as carried_laws
use Rattle.plan_nodes.specs.Carried.{CarryScopes, CarryValues}
use Rattle.plan_nodes.specs.Preorder.{IsTree}
use Rattle.reader_spec.specs.World.{World}
use Rattle.build_plan.proofs.PlanPagesLaws.{plan_made, tree_left}
use Rattle.build_plan.proofs.ReadyLaws.{AreReady, nodes_ready}
use Rattle.build_plan.proofs.UseLaws.{pages_own}
use Rattle.build_plan.specs.PageNames.{IsItsOwn}
use Rattle.toc_page.specs.Made.{AreOnce}
use Rattle.clean_build.proofs.TopicLaws.{AreOfTopics, pages_of_topics}

-- what a plan names is what is defined of its own nodes
pub record IsOfNodes (world : World) (plan : Plan) : Type 0 where
  pub targets : plan.targets ≡ node_targets world plan.nodes
  pub documents : plan.documents ≡ documents_of world plan.nodes
  pub pages : plan.pages ≡ pages_of world plan.nodes

pub record IsPlanIn (world : World) (plan : Plan) : Type 0 where
  pub tree : IsTree plan.nodes
  pub values : CarryValues world plan.nodes
  pub scopes : CarryScopes plan.nodes
  pub own : IsItsOwn plan.pages
  pub topics : AreOfTopics world plan.pages
  pub once : AreOnce plan.documents
  pub names : IsOfNodes world plan

of_nodes : (world : World) (before : List Fault) (nodes : List PlanNode) (plan : Plan)
    → plan ≡ plan_with world before nodes → AreReady world plan.nodes → IsPlanIn world plan
of_nodes world before nodes plan is ready =
    let held = carried_laws.plan_made world before nodes in
    let here = subst (λ (p : Plan). AreReady world p.nodes) is ready in
    subst (IsPlanIn world) (sym is) (record {
      tree = here.tree;
      values = here.values;
      scopes = here.scopes;
      own = pages_own world nodes;
      topics = pages_of_topics world nodes;
      once = record { all = filter_map (used_at world nodes) (places nodes); is = refl };
      names = record {
        targets = ap (λ (p : Plan). p.targets) held;
        documents = ap (λ (p : Plan). p.documents) held;
        pages = ap (λ (p : Plan). p.pages) held;
      };
    })

pub plan_facts : (world : World) (name : List ℕ) (val : Option (List ℕ)) (plan : Plan)
    → plan_of limits world name val ≡ Ok plan → IsPlanIn world plan
plan_facts world name val plan is =
    let made = plan_made limits world name val plan is in
    of_nodes world made.of.before (cascaded world (plan_nodes (tree_left world made.read made.grown))) plan made.of.is
    (nodes_ready limits world name val plan is)
