-- The documents that the contents page of a plan is about.
use Rattle.std.specs.Prelude.{◌≡◌, ℕ, List, [], ◌∷◌, Option, Some, None, slice_get, unwrap_or}
use Rattle.std.specs.List.{filter_map}
use Rattle.std.specs.Option.{option_to_list}
use Rattle.std.proofs.Common.{refl, sym, ap, subst, ◌∙◌}
use Rattle.std.proofs.lemmas.Bool.{false≢true}
use Rattle.dita_doc.specs.declared.plan.Plan.{Plan}
use Rattle.dita_doc.specs.declared.plan.PlanNode.{PlanNode}
use Rattle.dita_doc.specs.declared.plan.Reference.{Reference}
use Rattle.dita_doc.specs.declared.plan.Target.{Target}
use Rattle.dita_doc.specs.declared.plan.Target.TheVariants as targets
use Rattle.map_spec.specs.Pages.{local_name}
use Rattle.link_spec.specs.Links.{plan_target}
use Rattle.readers.specs.Founded.{StaysFounded, homes}
use Rattle.readers.specs.Told.{Told}
use Rattle.readers.proofs.AmongLaws.{among_back, among_front, among_targets}
use Rattle.readers.proofs.FoundedLaws.{stays_among, stays_one}
use Rattle.toc_page.specs.Made.{contents_names}

-- a call about the document to which a node leads
pub target_stays : (plan : Plan) (at : ℕ) (name : List ℕ) (old new : List Told)
    → local_name (plan_target plan at) ≡ Some name → StaysFounded (name ∷ []) old new
    → StaysFounded (contents_names plan) old new
target_stays plan at name old new named = stays_one name (contents_names plan) old new
    (among_back (homes plan.nodes) _ name
    (among_front (filter_map local_name plan.targets) plan.documents name (among_targets plan.targets at name named)))

target_named : (plan : Plan) (at : ℕ) (target : Target) (name : Option (List ℕ)) (old new : List Told)
    → plan_target plan at ≡ target → local_name target ≡ name → StaysFounded (option_to_list name) old new
    → StaysFounded (contents_names plan) old new
target_named plan at target None old new same is =
    stays_among [] (contents_names plan) old new (λ m here. absurd (false≢true here))
target_named plan at target (Some name) old new same is = target_stays plan at name old new (ap local_name same ∙ is)

-- a call about the document of a target, if it has one
pub targets_stay : (plan : Plan) (at : ℕ) (target : Target) (old new : List Told)
    → Some target ≡ slice_get plan.targets at → StaysFounded (option_to_list (local_name target)) old new
    → StaysFounded (contents_names plan) old new
targets_stay plan at target old new there =
    target_named plan at target (local_name target) old new
    (ap (λ found. unwrap_or found targets.Nothing) (sym there)) refl

-- a call about the document of a target that is one
pub local_stays : (target : Target) (name : List ℕ) (reference : Reference) (old new : List Told)
    → target ≡ targets.Local name reference → StaysFounded (name ∷ []) old new
    → StaysFounded (option_to_list (local_name target)) old new
local_stays target name reference old new is =
    subst (λ (one : Target). StaysFounded (option_to_list (local_name one)) old new) (sym is)

-- a call about the documents in which nodes stand
pub homes_stay : (plan : Plan) (nodes : List PlanNode) (old new : List Told) → nodes ≡ plan.nodes
    → StaysFounded (homes nodes) old new → StaysFounded (contents_names plan) old new
homes_stay plan nodes old new is stays = stays_among (homes plan.nodes) (contents_names plan) old new
    (λ m here. among_front (homes plan.nodes) _ m here) (subst (λ l. StaysFounded (homes l) old new) is stays)

-- a call about the documents of the plan
pub documents_stay : (plan : Plan) (documents : List (List ℕ)) (old new : List Told) → documents ≡ plan.documents
    → StaysFounded documents old new → StaysFounded (contents_names plan) old new
documents_stay plan documents old new is stays = stays_among plan.documents (contents_names plan) old new
    (λ m here. among_back (homes plan.nodes) _ m (among_back (filter_map local_name plan.targets) plan.documents m here))
    (subst (λ l. StaysFounded l old new) is stays)
