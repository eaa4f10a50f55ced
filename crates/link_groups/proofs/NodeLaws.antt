-- The nodes that links go from and to, and those that were found before.
use Rattle.std.specs.Prelude.{◌≡◌, ℕ, Bool, true, false, List, ◌++◌, Option, Some, IsTrue, cond, codes, option_map, slice_get, unwrap_or}
use Rattle.std.specs.BTreeMap.{is_at}
use Rattle.std.specs.List.{filter_map}
use Rattle.std.specs.Map.{lookup}
use Rattle.std.specs.Option.{option_and_then}
use Rattle.std.specs.Ordering.{nat_cmp}
use Rattle.std.proofs.Common.{refl, sym, ap, subst, ◌∙◌}
use Rattle.std.proofs.lemmas.Bool.{eqb-true}
use Rattle.std.proofs.lemmas.Option.{same_Some}
use Rattle.dita_doc.specs.ClassValue.{value_of}
use Rattle.dita_doc.specs.declared.plan.PagePlan.{PagePlan}
use Rattle.dita_doc.specs.declared.plan.Plan.{Plan}
use Rattle.dita_doc.specs.declared.plan.PlanNode.{PlanNode}
use Rattle.dita_doc.proofs.Orders.{at_number}
use Rattle.map_spec.specs.Cascade.{cascaded_on, cascaded_value, walk}
use Rattle.map_spec.specs.Pages.{local_name, page_for}
use Rattle.link_spec.specs.Links.{context_of, page_of_node, plan_target}
use Rattle.plan_nodes.specs.Carried.{CarryValues}
use Rattle.reader_spec.specs.World.{World}
use Rattle.readers.specs.Founded.{StaysFounded, homes, is_among}
use Rattle.readers.specs.Told.{Told}
use Rattle.readers.proofs.AmongLaws.{among_back, among_front, among_targets}
use Rattle.readers.proofs.FoundedLaws.{stays_among}
use Rattle.link_groups.specs.LinkNodes.{AreLinkNodes, IsLinkNode, link_node_at, link_node_of, linking_of, names_of_pages, plan_names, with_linking}
use Rattle.link_groups.specs.declared.link_nodes.LinkNode.{LinkNode}
use Rattle.link_groups.specs.declared.link_nodes.LinkNodes.{LinkNodes}

linking_carried : (world : World) (around : List PlanNode)
    → value_of (codes "linking") (cascaded_on world around) ≡ Some (cascaded_value world (codes "linking") around)
linking_carried world around = refl

-- the value that a node carries is the one that cascades to it
carried_is : (world : World) (around : List PlanNode) (node : PlanNode) → node.cascaded ≡ cascaded_on world around
    → linking_of node ≡ cascaded_value world (codes "linking") around
carried_is world around node carried =
    ap (λ found. unwrap_or found (codes "normal"))
    (ap (value_of (codes "linking")) carried ∙ linking_carried world around)

page_is : (plan : Plan) (at : ℕ) (name : List ℕ) (node : PlanNode) → local_name (plan_target plan at) ≡ Some name
    → slice_get plan.nodes at ≡ Some node → page_of_node plan at ≡ page_for plan.pages name (context_of node name)
page_is plan at name node named there =
    ap (option_and_then (λ n. option_and_then (λ (found : PlanNode). page_for plan.pages n (context_of found n))
    (slice_get plan.nodes at))) named
    ∙ ap (option_and_then (λ (found : PlanNode). page_for plan.pages name (context_of found name))) there

-- a node that was asked for is the one of the definition
pub asked_is : (world : World) (plan : Plan) (pages : List PagePlan) (at : ℕ) (name : List ℕ) (node : PlanNode)
    (found : Option LinkNode) → CarryValues world plan.nodes → pages ≡ plan.pages
    → local_name (plan_target plan at) ≡ Some name → slice_get plan.nodes at ≡ Some node
    → found ≡ link_node_of (page_for pages name (context_of node name)) at node → found ≡ link_node_at world plan at
asked_is world plan pages at name node found carry same named there is =
    is ∙ ap (λ ps. link_node_of (page_for ps name (context_of node name)) at node) same
    ∙ ap (λ page. link_node_of page at node) (sym (page_is plan at name node named there))
    ∙ ap (λ linking. option_map (with_linking at linking) (page_of_node plan at))
    (carried_is world (walk plan.nodes at) node (carry.each at node there))

put_each : (world : World) (plan : Plan) (key q : ℕ) (made found : Option LinkNode) (rest : Option (Option LinkNode))
    → made ≡ link_node_at world plan key → (rest ≡ Some found → found ≡ link_node_at world plan q) → (test : Bool)
    → is_at (nat_cmp key) q ≡ test → cond test (Some made) rest ≡ Some found → found ≡ link_node_at world plan q
put_each world plan key q made found rest is before true e there =
    sym (same_Some made found there) ∙ is
    ∙ ap (link_node_at world plan) (eqb-true key q (sym (at_number key q) ∙ e))
put_each world plan key q made found rest is before false e there = before there

-- a node that was put into the table
pub found_put : (world : World) (plan : Plan) (at place : ℕ) (found : Option LinkNode) (old new : LinkNodes)
    → AreLinkNodes world plan old → place ≡ at → found ≡ link_node_at world plan place
    → ((q : ℕ) → lookup (is_at (nat_cmp q)) new.known.entries
    ≡ cond (is_at (nat_cmp place) q) (Some found) (lookup (is_at (nat_cmp q)) old.known.entries))
    → IsLinkNode world plan at found new
found_put world plan at place found old new are same is put = record {
  is = is ∙ ap (link_node_at world plan) same;
  kept = record {
    each = λ q other there. put_each world plan place q found other (lookup (is_at (nat_cmp q)) old.known.entries) is
        (are.each q other) (is_at (nat_cmp place) q) refl (sym (put q) ∙ there);
  };
}

-- a node that was asked for, and put into the table
pub found_asked : (world : World) (plan : Plan) (pages : List PagePlan) (at place : ℕ) (name : List ℕ) (node : PlanNode)
    (found : Option LinkNode) (old new : LinkNodes) → CarryValues world plan.nodes → pages ≡ plan.pages
    → Some name ≡ local_name (plan_target plan at) → Some node ≡ slice_get plan.nodes at → place ≡ at
    → found ≡ link_node_of (page_for pages name (context_of node name)) place node → AreLinkNodes world plan old
    → ((q : ℕ) → lookup (is_at (nat_cmp q)) new.known.entries
    ≡ cond (is_at (nat_cmp place) q) (Some found) (lookup (is_at (nat_cmp q)) old.known.entries))
    → IsLinkNode world plan at found new
found_asked world plan pages at place name node found old new carry pages_are named there same is are put =
    found_put world plan at place found old new are same
    (asked_is world plan pages place name node found carry pages_are
    (ap (λ k. local_name (plan_target plan k)) same ∙ sym named) (ap (slice_get plan.nodes) same ∙ sym there) is) put

-- The documents that links are about

pub named_among : (plan : Plan) (at : ℕ) (name : List ℕ) → local_name (plan_target plan at) ≡ Some name
    → IsTrue (is_among (plan_names plan) name)
named_among plan at name named =
    among_back (homes plan.nodes) (filter_map local_name plan.targets ++ names_of_pages plan.pages) name
    (among_front (filter_map local_name plan.targets) (names_of_pages plan.pages) name
    (among_targets plan.targets at name named))

pub pages_among : (plan : Plan) (pages : List PagePlan) (m : List ℕ) → pages ≡ plan.pages
    → IsTrue (is_among (names_of_pages pages) m) → IsTrue (is_among (plan_names plan) m)
pages_among plan pages m same among =
    among_back (homes plan.nodes) (filter_map local_name plan.targets ++ names_of_pages plan.pages) m
    (among_back (filter_map local_name plan.targets) (names_of_pages plan.pages) m
    (subst (λ ps. IsTrue (is_among (names_of_pages ps) m)) same among))

-- the documents of a plan's nodes are among those that its links are about
pub homes_stay : (plan : Plan) (nodes : List PlanNode) (old new : List Told) → nodes ≡ plan.nodes
    → StaysFounded (homes nodes) old new → StaysFounded (plan_names plan) old new
homes_stay plan nodes old new same stays =
    stays_among (homes plan.nodes) (plan_names plan) old new
    (λ m among. among_front (homes plan.nodes)
    (filter_map local_name plan.targets ++ names_of_pages plan.pages) m among)
    (subst (λ l. StaysFounded (homes l) old new) same stays)
