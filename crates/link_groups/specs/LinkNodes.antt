-- The nodes that links go from and to (own; DITA 1.3, "The @linking attribute"), and those that were found before.
use Rattle.std.specs.Prelude.{◌≡◌, ◌⊎◌, ℕ, Bool, List, [], ◌∷◌, ◌++◌, Option, Some, map, option_map, slice_get, unwrap_or, codes}
use Rattle.std.specs.BTreeMap.{is_at}
use Rattle.std.specs.List.{filter_map}
use Rattle.std.specs.Map.{lookup}
use Rattle.std.specs.Ordering.{nat_cmp}
use Rattle.dita_doc.specs.ClassValue.{value_of}
use Rattle.dita_doc.specs.declared.plan.Context.{Context}
use Rattle.dita_doc.specs.declared.plan.PagePlan.{PagePlan}
use Rattle.dita_doc.specs.declared.plan.Plan.{Plan}
use Rattle.dita_doc.specs.declared.plan.PlanNode.{PlanNode}
use Rattle.link_groups.specs.declared.link_nodes.LinkNode.{LinkNode}
use Rattle.link_groups.specs.declared.link_nodes.LinkNodes.{LinkNodes}
use Rattle.map_spec.specs.Pages.{local_name}
use Rattle.link_spec.specs.Links.{cascaded_at, is_one_of, page_of_node, plan_target, use_of}
use Rattle.reader_spec.specs.World.{World}
use Rattle.readers.specs.Founded.{homes}
use Rattle.readers.specs.Told.{Told, page_of}

-- links may go from the node's page, or lead to it
abbrev pub is_source_at : World → Plan → ℕ → Bool
is_source_at world plan at =
    is_one_of (codes "normal" ∷ codes "sourceonly" ∷ []) (cascaded_at world plan (codes "linking") at)

abbrev pub is_target_at : World → Plan → ℕ → Bool
is_target_at world plan at =
    is_one_of (codes "normal" ∷ codes "targetonly" ∷ []) (cascaded_at world plan (codes "linking") at)

abbrev pub with_page : World → Plan → ℕ → ℕ → LinkNode
with_page world plan at page = record {
  at = at;
  page = page;
  is_source = is_source_at world plan at;
  is_target = is_target_at world plan at;
}

-- the node at a place, if it has a page
abbrev pub link_node_at : World → Plan → ℕ → Option LinkNode
link_node_at world plan at = option_map (with_page world plan at) (page_of_node plan at)

-- the same by the page that was found, and by the value that the node carries
abbrev pub linking_of : PlanNode → List ℕ
linking_of node = unwrap_or (value_of (codes "linking") node.cascaded) (codes "normal")

abbrev pub with_linking : ℕ → List ℕ → ℕ → LinkNode
with_linking at linking page = record {
  at = at;
  page = page;
  is_source = is_one_of (codes "normal" ∷ codes "sourceonly" ∷ []) linking;
  is_target = is_one_of (codes "normal" ∷ codes "targetonly" ∷ []) linking;
}

abbrev pub link_node_of : Option ℕ → ℕ → PlanNode → Option LinkNode
link_node_of page at node = option_map (with_linking at (linking_of node)) page

-- What was asked

-- one question was put: for the page of this document in this context
pub record AsksPage (pages : List PagePlan) (name : List ℕ) (context : Context) (old new : List Told) : Type 0 where
  pub place : Option ℕ
  pub is : new ≡ page_of pages name context place ∷ old

-- this node leads to this document, and one question was put: for the document's page as the node uses it
pub record AsksOf (plan : Plan) (at : ℕ) (pages : List PagePlan) (old new : List Told) : Type 0 where
  pub node : PlanNode
  pub name : List ℕ
  pub there : Some node ≡ slice_get plan.nodes at
  pub leads : Some name ≡ local_name (plan_target plan at)
  pub asked : AsksPage pages name (use_of plan node name) old new

-- none was put, or this one
abbrev pub AsksOfNode : Plan → ℕ → List PagePlan → List Told → List Told → Type 0
AsksOfNode plan at pages old new = (new ≡ old) ⊎ AsksOf plan at pages old new

-- What was found before is so

pub record AreLinkNodes (world : World) (plan : Plan) (nodes : LinkNodes) : Type 0 where
  pub each : (at : ℕ) (found : Option LinkNode) → lookup (is_at (nat_cmp at)) nodes.known.entries ≡ Some found
      → found ≡ link_node_at world plan at

-- a node was found, and is kept
pub record IsLinkNode (world : World) (plan : Plan) (at : ℕ) (found : Option LinkNode) (nodes : LinkNodes) : Type 0 where
  pub is : found ≡ link_node_at world plan at
  pub kept : AreLinkNodes world plan nodes

-- The documents that links of a plan are about: those in which its nodes stand, those that its nodes lead to, and those
-- of its pages

abbrev pub names_of_pages : List PagePlan → List (List ℕ)
names_of_pages pages = map (λ (page : PagePlan). page.id.doc) pages

abbrev pub plan_names : Plan → List (List ℕ)
plan_names plan = homes plan.nodes ++ (filter_map local_name plan.targets ++ names_of_pages plan.pages)
