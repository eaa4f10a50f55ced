-- The contents page of a plan, as a reader makes it (own), and the documents that it may ask about.
use Rattle.std.specs.Prelude.{◌≡◌, ◌++◌, ◌||◌, ℕ, Bool, false, List, Option, Some, slice_get}
use Rattle.std.specs.List.{filter_map, list_any}
use Rattle.dita_doc.specs.declared.fact.Html.{Html}
use Rattle.dita_doc.specs.declared.fault.Fault.{Fault}
use Rattle.dita_doc.specs.declared.plan.Plan.{Plan}
use Rattle.dita_doc.specs.declared.plan.PlanNode.{PlanNode}
use Rattle.map_spec.specs.Branches.{each_once}
use Rattle.link_spec.specs.Links.{context_of, map_of, plan_target}
use Rattle.map_spec.specs.Pages.{local_name}
use Rattle.html_spec.specs.Contents.{contents}
use Rattle.map_spec.specs.Pushes.{all_pushes, pushes_into}
use Rattle.map_spec.specs.Scopes.{places}
use Rattle.plan_nodes.specs.Preorder.{IsTree}
use Rattle.reader_spec.specs.World.{World}
use Rattle.readers.specs.Founded.{homes}
use Rattle.readers.specs.Only.{is_document_of, is_page_in, is_pushes_of, is_title_among}
use Rattle.readers.specs.Setting.{Setting}
use Rattle.readers.specs.Told.{Told}

-- each of some names, once
pub record AreOnce (names : List (List ℕ)) : Type 0 where
  pub all : List (List ℕ)
  pub is : names ≡ each_once all

-- a plan whose pages and documents the reader knows, whose nodes are those of a tree, with no document twice
pub record IsReady (plan : Plan) (setting : Setting) : Type 0 where
  pub pages : setting.pages ≡ plan.pages
  pub documents : setting.documents ≡ plan.documents
  pub tree : IsTree plan.nodes
  pub once : AreOnce plan.documents

-- the page, with the faults of all pushes
pub record IsContents (world : World) (plan : Plan) (made : Html) : Type 0 where
  pub bytes : made.bytes ≡ contents world plan
  pub faults : made.faults ≡ (all_pushes world plan.documents).faults

-- the documents in which nodes stand, those that nodes lead to, and those of the plan
abbrev pub contents_names : Plan → List (List ℕ)
contents_names plan = homes plan.nodes ++ (filter_map local_name plan.targets ++ plan.documents)

-- it asks for the title of a document that a node leads to
abbrev pub is_title_of_targets : Plan → Told → Bool
is_title_of_targets plan t = is_title_among (filter_map local_name plan.targets) t

-- it asks for the page of the document that a node leads to, in the node's own context, of a build of the plan's map
abbrev pub is_page_by : Plan → Option PlanNode → Option (List ℕ) → Told → Bool
is_page_by plan (Some node) (Some name) t = is_page_in (map_of plan node) name (context_of node name) t
is_page_by plan _ _ t = false

abbrev pub is_page_at : Plan → Told → ℕ → Bool
is_page_at plan t at = is_page_by plan (slice_get plan.nodes at) (local_name (plan_target plan at)) t

abbrev pub is_page_of_nodes : Plan → Told → Bool
is_page_of_nodes plan t = list_any (is_page_at plan t) (places plan.nodes)

-- it asks for a document in which a node stands, for the title or the page of one that a node leads to, or for the
-- pushes into one of the plan; so for no key, no kind and no first topic
abbrev pub is_of_contents : Plan → Told → Bool
is_of_contents plan t = is_document_of (homes plan.nodes) t
    || (is_title_of_targets plan t || (is_page_of_nodes plan t || is_pushes_of plan.documents t))

-- the faults of the pushes that stand in a document
abbrev pub faults_in : World → List (List ℕ) → List ℕ → List Fault
faults_in world documents name = (pushes_into world documents name).faults
