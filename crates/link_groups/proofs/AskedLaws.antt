-- The questions that are put for the links of a plan, told by the calls that find its nodes and write its links.
use Rattle.std.specs.Prelude.{◌≡◌, ℕ, List, [], ◌∷◌, Option, Some, IsTrue, slice_get}
use Rattle.std.proofs.Common.{sym, subst}
use Rattle.std.proofs.Math.Logic.{⊎_elim}
use Rattle.std.proofs.lemmas.Bool.{or_left, or_right}
use Rattle.dita_doc.specs.declared.plan.PagePlan.{PagePlan}
use Rattle.dita_doc.specs.declared.plan.Plan.{Plan}
use Rattle.dita_doc.specs.declared.plan.PlanNode.{PlanNode}
use Rattle.link_groups.specs.Asked.{is_of_links, is_page_at, is_page_by, is_page_of_nodes, is_title_of_pages}
use Rattle.link_groups.specs.LinkNodes.{AsksOf, AsksOfNode, names_of_pages}
use Rattle.link_groups.proofs.ListLaws.{page_among}
use Rattle.link_spec.specs.Links.{context_of, map_of, plan_target, use_of}
use Rattle.map_spec.specs.Pages.{local_name}
use Rattle.plan_nodes.proofs.PlaceLaws.{any_at}
use Rattle.readers.specs.Founded.{homes, is_among}
use Rattle.readers.specs.Only.{TellsOnly, is_document_of, is_title_among}
use Rattle.readers.specs.Told.{Told, title, page_of}
use Rattle.readers.proofs.FoundedLaws.{among_one}
use Rattle.readers.proofs.OnlyLaws.{only_same, only_told, only_weaker, page_is_in, title_is_among, titles_among}

-- The page of a node

-- the question as the node puts it
page_by : (plan : Plan) (node : PlanNode) (name : List ℕ) (pages : List PagePlan) (place : Option ℕ)
    → IsTrue (is_page_by plan (Some node) (Some name) (page_of pages name (use_of plan node name) place))
page_by plan node name pages place = page_is_in pages (map_of plan node) name (context_of node name) place

page_asked : (plan : Plan) (at : ℕ) (pages : List PagePlan) (old new : List Told) → AsksOf plan at pages old new
    → TellsOnly (is_page_of_nodes plan) old new
page_asked plan at pages old new asks =
    let t = page_of pages asks.name (use_of plan asks.node asks.name) asks.asked.place in
    only_told (is_page_of_nodes plan) t old new
    (any_at (is_page_at plan t) plan.nodes at asks.node (sym asks.there)
    (subst (λ found. IsTrue (is_page_by plan found (local_name (plan_target plan at)) t)) asks.there
    (subst (λ found. IsTrue (is_page_by plan (Some asks.node) found t)) asks.leads
    (page_by plan asks.node asks.name pages asks.asked.place)))) asks.asked.is

-- a node that was looked for
pub node_asked : (plan : Plan) (at : ℕ) (pages : List PagePlan) (old new : List Told) → AsksOfNode plan at pages old new
    → TellsOnly (is_page_of_nodes plan) old new
node_asked plan at pages old new =
    ⊎_elim (λ same. only_same (is_page_of_nodes plan) old new same) (λ asks. page_asked plan at pages old new asks)

-- The links of a plan

module _ (plan : Plan) (old new : List Told) where
  pub pages_asked : TellsOnly (is_page_of_nodes plan) old new → TellsOnly (is_of_links plan) old new
  pages_asked = only_weaker _ _ old new (λ t here. or_right (is_document_of (homes plan.nodes) t) _ here)

  pub nodes_asked : (nodes : List PlanNode) → nodes ≡ plan.nodes → TellsOnly (is_document_of (homes nodes)) old new
      → TellsOnly (is_of_links plan) old new
  nodes_asked nodes same only = only_weaker _ _ old new (λ t here. or_left (is_document_of (homes plan.nodes) t) _ here)
      (subst (λ (all : List PlanNode). TellsOnly (is_document_of (homes all)) old new) same only)

-- Titles

-- the title of a document, by the empty text
pub title_asked : (name topic text : List ℕ) (old new : List Told) → topic ≡ [] → new ≡ title name topic text ∷ old
    → TellsOnly (is_title_among (name ∷ [])) old new
title_asked name topic text old new none = only_told (is_title_among (name ∷ [])) (title name topic text) old new
    (subst (λ (t : List ℕ). IsTrue (is_title_among (name ∷ []) (title name t text))) (sym none)
    (title_is_among name text))

-- that of the document of a page
pub page_titled : (pages : List PagePlan) (place : ℕ) (page : PagePlan) (old new : List Told)
    → Some page ≡ slice_get pages place → TellsOnly (is_title_among (page.id.doc ∷ [])) old new
    → TellsOnly (is_title_among (names_of_pages pages)) old new
page_titled pages place page old new there = only_weaker _ (is_title_among (names_of_pages pages)) old new
    (titles_among (page.id.doc ∷ []) (names_of_pages pages)
    (record {
      each = λ m here. subst (λ n. IsTrue (is_among (names_of_pages pages) n)) (among_one page.id.doc m here)
          (page_among pages place page there);
    }))

pub pages_titled : (plan : Plan) (pages : List PagePlan) (old new : List Told) → pages ≡ plan.pages
    → TellsOnly (is_title_among (names_of_pages pages)) old new → TellsOnly (is_title_of_pages plan) old new
pages_titled plan pages old new same =
    subst (λ (all : List PagePlan). TellsOnly (is_title_among (names_of_pages all)) old new) same
