-- Which questions are put for the links of a plan (own). `Made` of `toc_page`, which stands beside this crate, says in
-- the same words which pages are asked for.
use Rattle.std.specs.Prelude.{◌||◌, ℕ, Bool, false, List, Option, Some, slice_get}
use Rattle.std.specs.List.{list_any}
use Rattle.dita_doc.specs.declared.plan.Plan.{Plan}
use Rattle.dita_doc.specs.declared.plan.PlanNode.{PlanNode}
use Rattle.link_groups.specs.LinkNodes.{names_of_pages}
use Rattle.link_spec.specs.Links.{context_of, map_of, plan_target}
use Rattle.map_spec.specs.Pages.{local_name}
use Rattle.map_spec.specs.Scopes.{places}
use Rattle.readers.specs.Founded.{homes}
use Rattle.readers.specs.Only.{is_document_of, is_page_in, is_title_among}
use Rattle.readers.specs.Told.{Told}

-- it asks for the page of the document that a node leads to, in the node's own context, of a build of the plan's map
abbrev pub is_page_by : Plan → Option PlanNode → Option (List ℕ) → Told → Bool
is_page_by plan (Some node) (Some name) t = is_page_in (map_of plan node) name (context_of node name) t
is_page_by plan _ _ t = false

abbrev pub is_page_at : Plan → Told → ℕ → Bool
is_page_at plan t at = is_page_by plan (slice_get plan.nodes at) (local_name (plan_target plan at)) t

abbrev pub is_page_of_nodes : Plan → Told → Bool
is_page_of_nodes plan t = list_any (is_page_at plan t) (places plan.nodes)

-- it asks for a document in which a node stands, or for the page of one that a node leads to; so for no key, no pushes,
-- no kind, no title and no first topic
abbrev pub is_of_links : Plan → Told → Bool
is_of_links plan t = is_document_of (homes plan.nodes) t || is_page_of_nodes plan t

-- it asks for the title of the document of a page of the plan
abbrev pub is_title_of_pages : Plan → Told → Bool
is_title_of_pages plan t = is_title_among (names_of_pages plan.pages) t
