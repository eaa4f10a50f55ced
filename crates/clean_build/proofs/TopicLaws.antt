-- A page of a plan is that of a document of topics, so the document has a root.
use Rattle.std.specs.Prelude.{◌≡◌, ◌&&◌, ℕ, Bool, true, false, List, [], ◌∷◌, Option, Some, None, option_map, slice_get, if◌then◌else◌}
use Rattle.std.specs.List.{filter_map, list_all}
use Rattle.std.specs.Option.{option_and_then, option_map_or}
use Rattle.std.proofs.Common.{refl, sym, ap, ◌∙◌}
use Rattle.std.proofs.lemmas.Bool.{and_from, and_parts}
use Rattle.dita_doc.specs.declared.plan.PageId.{PageId}
use Rattle.dita_doc.specs.declared.plan.PagePlan.{PagePlan}
use Rattle.dita_doc.specs.declared.plan.PlanNode.{PlanNode}
use Rattle.dita_doc.specs.declared.question.DocKind.TheVariants as kinds
use Rattle.map_spec.specs.Included.{root_in}
use Rattle.map_spec.specs.Pages.{Use, contents_name, first_uses, is_normal, is_page_kind, pages_of, use_at, use_of, used_at, uses_of}
use Rattle.map_spec.specs.Scopes.{places}
use Rattle.map_spec.specs.Titles.{kind_in, kind_of_document, kind_of_root}
use Rattle.map_spec.specs.Written.{Whole, Written, document, first_sibling}
use Rattle.reader_spec.specs.World.{World}
use Rattle.build_plan.proofs.UseLaws.{all_that_stay, page_holds}

-- a document of topics
abbrev pub is_of_topics : World → List ℕ → Bool
is_of_topics world name = is_page_kind (kind_in world name)

abbrev pub AreOfTopics : World → List PagePlan → Type 0
AreOfTopics world pages = (at : ℕ) (page : PagePlan) → slice_get pages at ≡ Some page
    → is_of_topics world page.id.doc ≡ true

-- It has a root

pub record HasRoot (world : World) (name : List ℕ) : Type 0 where
  pub root : Whole
  pub there : root_in world name ≡ Some root

first_of_kind : (first : Option Whole)
    → is_page_kind (option_map_or (λ (root : Whole). kind_of_root root.0) first kinds.Absent) ≡ true
    → (root : Whole) × (first ≡ Some root)
first_of_kind None is = cc
first_of_kind (Some root) is = (root, refl)

root_of_kind : (found : Option Written) → is_page_kind (option_map_or kind_of_document found kinds.Absent) ≡ true
    → (root : Whole) × (option_and_then first_sibling found ≡ Some root)
root_of_kind None is = cc
root_of_kind (Some nodes) is = first_of_kind (first_sibling nodes) is

pub topics_root : (world : World) (name : List ℕ) → is_of_topics world name ≡ true → HasRoot world name
topics_root world name is =
    let found = root_of_kind (document world name) is in record { root = found.0; there = found.1 }

-- The uses that make pages

module _ (world : World) (nodes : List PlanNode) where
  abbrev of_topics : Use → Bool
  of_topics made = is_of_topics world made.id.doc

  made_of : (at : ℕ) (name : List ℕ) (node : Option PlanNode) (made : Use) → is_of_topics world name ≡ true
      → option_map (use_of nodes at name) node ≡ Some made → of_topics made ≡ true
  made_of at name None made topics is = cc
  made_of at name (Some node) made topics is =
      let same : use_of nodes at name node ≡ made = cc in
      ap (λ (other : Use). of_topics other) (sym same) ∙ topics

  use_made : (at : ℕ) (name : List ℕ) (made : Use) (page : Bool)
      → (is_of_topics world name && is_normal world nodes at) ≡ page
      → option_and_then (λ n. option_map (use_of nodes at n) (slice_get nodes at)) (if page then Some name else None)
      ≡ Some made → of_topics made ≡ true
  use_made at name made true test is = made_of at name (slice_get nodes at) made
      (and_parts (is_of_topics world name) (is_normal world nodes at) test).0 is
  use_made at name made false test is = cc

  use_by : (at : ℕ) (used : Option (List ℕ)) (made : Use)
      → option_and_then (λ n. option_map (use_of nodes at n) (slice_get nodes at)) (option_and_then
      (λ name. if is_of_topics world name && is_normal world nodes at then Some name else None) used)
      ≡ Some made → of_topics made ≡ true
  use_by at None made is = cc
  use_by at (Some name) made is = use_made at name made (is_of_topics world name && is_normal world nodes at) refl is

  all_uses : (all : List ℕ) → list_all of_topics (filter_map (use_at world nodes) all) ≡ true
  all_uses [] = refl
  all_uses (at ∷ all) = by_use (use_at world nodes at) refl (all_uses all)
    where
      by_use : (made : Option Use) → use_at world nodes at ≡ made
          → list_all of_topics (filter_map (use_at world nodes) all) ≡ true
          → list_all of_topics (filter_map (use_at world nodes) (at ∷ all)) ≡ true
      by_use None e behind = rw e behind
      by_use (Some made) e behind = rw e
          (and_from (of_topics made) _ (use_by at (used_at world nodes at) made e) behind)

  all_first : (uses : List Use) → list_all of_topics uses ≡ true → list_all of_topics (first_uses uses) ≡ true
  all_first [] all = refl
  all_first (first ∷ uses) all =
      let parts = and_parts (of_topics first) (list_all of_topics uses) all in
      and_from (of_topics first) _ parts.0 (all_that_stay of_topics _ (first_uses uses) (all_first uses parts.1))

  pub pages_of_topics : AreOfTopics world (pages_of world nodes)
  pages_of_topics at page there =
      page_holds (λ (id : PageId). is_of_topics world id.doc) 0 (contents_name ∷ []) (uses_of world nodes) at page
      (all_first (filter_map (use_at world nodes) (places nodes)) (all_uses (places nodes))) there
