-- The questions of the contents page, told by its parts.
use Rattle.std.specs.Prelude.{◌≡◌, ℕ, List, [], ◌∷◌, Option, Some, None, IsTrue, IfOk, OnOk, Result, slice_get, unwrap_or}
use Rattle.std.specs.List.{filter_map}
use Rattle.std.specs.Option.{option_to_list}
use Rattle.std.proofs.Common.{refl, sym, ap, subst, ◌∙◌}
use Rattle.std.proofs.lemmas.Bool.{false≢true, or_left, or_right}
use Rattle.std.proofs.lemmas.Result.{on_ok_weaker}
use Rattle.dita_doc.specs.declared.content.PushList.{PushList}
use Rattle.dita_doc.specs.declared.plan.Context.{Context}
use Rattle.dita_doc.specs.declared.plan.PageId.{PageId}
use Rattle.dita_doc.specs.declared.plan.PagePlan.{PagePlan}
use Rattle.dita_doc.specs.declared.plan.Plan.{Plan}
use Rattle.dita_doc.specs.declared.plan.PlanNode.{PlanNode}
use Rattle.dita_doc.specs.declared.plan.Reference.{Reference}
use Rattle.dita_doc.specs.declared.plan.Target.{Target}
use Rattle.dita_doc.specs.declared.plan.Target.TheVariants as targets
use Rattle.link_spec.specs.Links.{context_of, map_of, plan_target}
use Rattle.map_spec.specs.Pages.{local_name}
use Rattle.plan_nodes.proofs.PlaceLaws.{any_at}
use Rattle.readers.specs.Founded.{AreAmong, homes, is_among}
use Rattle.readers.specs.Only.{TellsOnly, is_document_of, is_page_in, is_pushes_of, is_title_among}
use Rattle.readers.specs.Told.{Told, title, pushes, page_of}
use Rattle.readers.proofs.AmongLaws.{among_targets}
use Rattle.readers.proofs.FoundedLaws.{among_one}
use Rattle.readers.proofs.OnlyLaws.{only_after, only_answered, only_told, only_weaker, page_is_in, title_is_among, titles_among}
use Rattle.toc_page.specs.Made.{is_of_contents, is_page_at, is_page_by, is_page_of_nodes, is_title_of_targets}

-- Some documents among others

-- the document of a target is among those to which nodes lead
name_there : (plan : Plan) (at : ℕ) (target : Target) (name : Option (List ℕ))
    → Some target ≡ slice_get plan.targets at → local_name target ≡ name
    → AreAmong (option_to_list name) (filter_map local_name plan.targets)
name_there plan at target None there is = record { each = λ m here. absurd (false≢true here) }
name_there plan at target (Some name) there is = record {
  each = λ m here. subst (λ n. IsTrue (is_among (filter_map local_name plan.targets) n)) (among_one name m here)
      (among_targets plan.targets at name
      (ap (λ found. local_name (unwrap_or found targets.Nothing)) (sym there) ∙ is));
}

module _ {A E : Type 0} (r : Result A E) (plan : Plan) (at : ℕ) (target : Target) (old new : List Told)
    (there : Some target ≡ slice_get plan.targets at) where
  pub titles_there : OnOk r (TellsOnly (is_title_among (option_to_list (local_name target))) old new)
      → OnOk r (TellsOnly (is_title_of_targets plan) old new)
  titles_there = on_ok_weaker r (only_weaker _ _ old new
      (titles_among _ _ (name_there plan at target (local_name target) there refl)))

-- One question

pub page_asked : (pages : List PagePlan) (map name : List ℕ) (own : PageId) (context : Context) (place : Option ℕ)
    (old new : List Told) → context ≡ record { map = map; val = None; page = own; name = name }
    → new ≡ page_of pages name context place ∷ old → TellsOnly (is_page_in map name own) old new
page_asked pages map name own context place old new same =
    only_told (is_page_in map name own) (page_of pages name context place) old new
    (subst (λ (u : Context). IsTrue (is_page_in map name own (page_of pages name u place))) (sym same)
    (page_is_in pages map name own place))

pub page_local : {A E : Type 0} (r : Result A E) (plan : Plan) (node : PlanNode) (target : Target) (name : List ℕ)
    (reference : Reference) (old new : List Told) → target ≡ targets.Local name reference
    → OnOk r (TellsOnly (is_page_in (map_of plan node) name (context_of node name)) old new)
    → OnOk r (TellsOnly (is_page_by plan (Some node) (local_name target)) old new)
page_local r plan node target name reference old new is =
    subst (λ t. OnOk r (TellsOnly (is_page_by plan (Some node) (local_name t)) old new)) (sym is)

pub page_there : {A E : Type 0} (r : Result A E) (plan : Plan) (at : ℕ) (node : PlanNode) (target : Target)
    (old new : List Told) → slice_get plan.nodes at ≡ Some node → Some target ≡ slice_get plan.targets at
    → OnOk r (TellsOnly (is_page_by plan (Some node) (local_name target)) old new)
    → OnOk r (TellsOnly (is_page_of_nodes plan) old new)
page_there r plan at node target old new there leads = on_ok_weaker r (only_weaker _ (is_page_of_nodes plan) old new
    (λ t here. any_at (is_page_at plan t) plan.nodes at node there (at_place t here)))
  where
    at_place : (t : Told) → IsTrue (is_page_by plan (Some node) (local_name target) t) → IsTrue (is_page_at plan t at)
    at_place t here = subst (λ found. IsTrue (is_page_by plan found (local_name (plan_target plan at)) t)) (sym there)
        (subst (λ found. IsTrue (is_page_by plan (Some node) (local_name (unwrap_or found targets.Nothing)) t)) leads here)

-- the title of the first topic is asked for by the empty text
pub title_empty : {E : Type 0} (r : Result (List ℕ) E) (name topic : List ℕ) (old new : List Told) → topic ≡ []
    → IfOk r (λ text. new ≡ title name topic text ∷ old) → IfOk r (λ text. new ≡ title name [] text ∷ old)
title_empty r name topic old new none =
    subst (λ (t : List ℕ). IfOk r (λ text. new ≡ title name t text ∷ old)) none

pub title_local : {E : Type 0} (r : Result (List ℕ) E) (target : Target) (name : List ℕ) (reference : Reference)
    (old new : List Told) → target ≡ targets.Local name reference
    → IfOk r (λ text. new ≡ title name [] text ∷ old)
    → OnOk r (TellsOnly (is_title_among (option_to_list (local_name target))) old new)
title_local r target name reference old new is told =
    subst (λ t. OnOk r (TellsOnly (is_title_among (option_to_list (local_name t))) old new)) (sym is)
    (only_answered r (is_title_among (name ∷ [])) (title name []) old new (title_is_among name) told)

-- The parts of the page

module _ (plan : Plan) (old new : List Told) where
  pub documents_asked : TellsOnly (is_document_of (homes plan.nodes)) old new → TellsOnly (is_of_contents plan) old new
  documents_asked = only_weaker _ _ old new (λ t here. or_left (is_document_of (homes plan.nodes) t) _ here)

  pub titles_asked : TellsOnly (is_title_of_targets plan) old new → TellsOnly (is_of_contents plan) old new
  titles_asked = only_weaker _ _ old new (λ t here. or_right (is_document_of (homes plan.nodes) t) _
      (or_left (is_title_of_targets plan t) _ here))

  pub pages_asked : TellsOnly (is_page_of_nodes plan) old new → TellsOnly (is_of_contents plan) old new
  pages_asked = only_weaker _ _ old new (λ t here. or_right (is_document_of (homes plan.nodes) t) _
      (or_right (is_title_of_targets plan t) _ (or_left (is_page_of_nodes plan t) _ here)))

  pub pushes_asked : (documents : List (List ℕ)) → documents ≡ plan.documents
      → TellsOnly (is_pushes_of documents) old new → TellsOnly (is_of_contents plan) old new
  pushes_asked documents same only = only_weaker (is_pushes_of plan.documents) _ old new
      (λ t here. or_right (is_document_of (homes plan.nodes) t) _
      (or_right (is_title_of_targets plan t) _ (or_right (is_page_of_nodes plan t) _ here)))
      (subst (λ names. TellsOnly (is_pushes_of names) old new) same only)

  pub nodes_asked : (nodes : List PlanNode) → nodes ≡ plan.nodes → TellsOnly (is_document_of (homes nodes)) old new
      → TellsOnly (is_of_contents plan) old new
  nodes_asked nodes same only =
      documents_asked (subst (λ (all : List PlanNode). TellsOnly (is_document_of (homes all)) old new) same only)

-- the pushes into one document more
pub push_asked : (names documents : List (List ℕ)) (name : List ℕ) (answer : PushList) (start old new : List Told)
    → IsTrue (is_among names name) → TellsOnly (is_pushes_of names) start old → new ≡ pushes documents name answer ∷ old
    → TellsOnly (is_pushes_of names) start new
push_asked names documents name answer start old new among before told =
    only_after _ start old new before (only_told _ (pushes documents name answer) old new among told)
