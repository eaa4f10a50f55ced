-- The target of a definition's href: that of the world, and one whose document may be asked about.
use Rattle.std.specs.Prelude.{◌≡◌, ℕ, List, [], Option, Some, None, Result, Ok, Err, IfOk, codes, map, option_map, slice_get, unwrap_or}
use Rattle.std.specs.Option.{option_and_then, option_map_or, option_to_list}
use Rattle.std.proofs.Common.{refl, sym, ap, subst, ◌∙◌}
use Rattle.std.proofs.lemmas.Option.{slice_get-map}
use Rattle.dita_doc.specs.ClassValue.{value_of}
use Rattle.dita_doc.specs.declared.content.KeyAnswer.{KeyAnswer}
use Rattle.dita_doc.specs.declared.plan.PlanNode.{PlanNode}
use Rattle.dita_doc.specs.declared.plan.Target.{Target}
use Rattle.dita_doc.specs.declared.plan.Target.TheVariants as targets
use Rattle.dita_doc.specs.declared.stop.NoMemory.{NoMemory}
use Rattle.map_spec.specs.Cascade as cascade
use Rattle.map_spec.specs.Cascade.{attribute_at, cascaded_on, cascaded_value, walk}
use Rattle.map_spec.specs.Elements.{attribute}
use Rattle.map_spec.specs.Keys.{href_target, last_of, target_of_definition, target_of_chain}
use Rattle.map_spec.specs.Pages.{local_name}
use Rattle.map_spec.specs.Target.{default_format, default_scope, target_by}
use Rattle.map_spec.specs.Written.{Element, Whole}
use Rattle.plan_nodes.specs.Carried.{CarryValues}
use Rattle.plan_nodes.specs.Given.{AreTold, IsTold}
use Rattle.plan_nodes.proofs.GivenLaws.{may_target}
use Rattle.plan_nodes.proofs.TargetLaws.{doc_there}
use Rattle.reader_spec.specs.World.{World}
use Rattle.readers.specs.Founded.{AreAllowed, Grows, StaysFounded}
use Rattle.readers.specs.Told.{Told}
use Rattle.readers.proofs.GrowthLaws.{are_allowed_before}
use Rattle.readers.proofs.FoundedLaws.{none_allowed, one_allowed, stays_by, stays_grows, stays_when}
use Rattle.key_answers.specs.Seen.{href_seen, last_target, target_carried, target_seen}

-- An element of a document was written in it

-- The target in a world

format_carried : (world : World) (around : List PlanNode)
    → value_of (codes "format") (cascaded_on world around) ≡ Some (cascaded_value world (codes "format") around)
format_carried world around = refl

scope_carried : (world : World) (around : List PlanNode)
    → value_of (codes "scope") (cascaded_on world around) ≡ Some (cascaded_value world (codes "scope") around)
scope_carried world around = refl

module _ (world : World) (node : PlanNode) (around : List PlanNode)
    (carried : node.cascaded ≡ cascaded_on world around) where
  carried_same : (href doc : List ℕ) → doc ≡ node.doc → target_carried node href doc
      ≡ unwrap_or (target_by href (cascaded_value world (codes "format") around)
      (cascaded_value world (codes "scope") around) node.doc) targets.Nothing
  carried_same href doc same =
      let format = ap (value_of (codes "format")) carried ∙ format_carried world around in
      let scope = ap (value_of (codes "scope")) carried ∙ scope_carried world around in
      ap (λ f. unwrap_or (target_by href (unwrap_or f default_format)
      (unwrap_or (value_of (codes "scope") node.cascaded) default_scope) doc) targets.Nothing) format
      ∙ ap (λ s. unwrap_or (target_by href (cascaded_value world (codes "format") around)
      (unwrap_or s default_scope) doc) targets.Nothing) scope
      ∙ ap (λ d. unwrap_or (target_by href (cascaded_value world (codes "format") around)
      (cascaded_value world (codes "scope") around) d) targets.Nothing) same

  by_href : (doc : List ℕ) (href : Option (List ℕ)) → doc ≡ node.doc
      → option_map_or (λ value. target_carried node value doc) href targets.Nothing
      ≡ unwrap_or (option_and_then (λ value. target_by value (cascaded_value world (codes "format") around)
      (cascaded_value world (codes "scope") around) node.doc) href) targets.Nothing
  by_href doc None same = refl
  by_href doc (Some href) same = carried_same href doc same

  by_whole : (whole : Option Whole) → cascade.whole_at world node ≡ whole
      → option_map_or (href_seen node) (option_map (λ (w : Whole). w.0) whole) targets.Nothing
      ≡ unwrap_or (option_and_then (λ value. target_by value (cascaded_value world (codes "format") around)
      (cascaded_value world (codes "scope") around) node.doc)
      (option_and_then (λ (w : Whole). attribute (codes "href") w.0) whole)) targets.Nothing
  by_whole None is = refl
  by_whole (Some whole) is = by_href whole.0.doc (attribute (codes "href") whole.0) (doc_there world node whole is)

target_same : (world : World) (homes : List (Option Whole)) (nodes : List PlanNode) (at : ℕ)
    → homes ≡ map (cascade.whole_at world) nodes → CarryValues world nodes
    → target_seen homes nodes at ≡ unwrap_or (href_target world nodes at) targets.Nothing
target_same world homes nodes at same carry =
    ap (λ all. target_seen all nodes at) same
    ∙ rw (slice_get-map (cascade.whole_at world) nodes at) (by_node (slice_get nodes at) refl)
  where
    by_node : (node : Option PlanNode) → slice_get nodes at ≡ node
        → option_map_or (λ (n : PlanNode). option_map_or (href_seen n) (option_map (λ (w : Whole). w.0)
        (option_and_then (λ (w : Option Whole). w) (option_map (cascade.whole_at world) node))) targets.Nothing)
        node targets.Nothing
        ≡ unwrap_or (option_and_then (λ n. target_of_definition world n (walk nodes at)) node) targets.Nothing
    by_node None is = refl
    by_node (Some node) is =
        by_whole world node (walk nodes at) (carry.each at node is) (cascade.whole_at world node) refl

pub last_same : (world : World) (homes : List (Option Whole)) (nodes : List PlanNode) (met : List ℕ)
    → homes ≡ map (cascade.whole_at world) nodes → CarryValues world nodes
    → last_target homes nodes met ≡ target_of_chain world nodes met
last_same world homes nodes met same carry = by_last (last_of met)
  where
    by_last : (last : Option ℕ) → option_map_or (target_seen homes nodes) last targets.Nothing
        ≡ unwrap_or (option_and_then (href_target world nodes) last) targets.Nothing
    by_last None = refl
    by_last (Some at) = target_same world homes nodes at same carry

-- Its document

module _ (roots : List (List ℕ)) (told : List Told) where
  abbrev IsGiven : Target → Type 0
  IsGiven target = AreAllowed roots told (option_to_list (local_name target))

  by_target : (element : Element) (href format scope : List ℕ) (target : Option Target)
      → IsTold told element → attribute (codes "href") element ≡ Some href
      → target_by href format scope element.doc ≡ target → IsGiven (unwrap_or target targets.Nothing)
  by_target element href format scope None was is e = none_allowed roots told
  by_target element href format scope (Some targets.Nothing) was is e = none_allowed roots told
  by_target element href format scope (Some (targets.Local name reference)) was is e =
      one_allowed roots told name (may_target told element href format scope name reference was is e roots)
  by_target element href format scope (Some (targets.File name rest)) was is e = none_allowed roots told
  by_target element href format scope (Some (targets.Other value)) was is e = none_allowed roots told

  href_given : (node : PlanNode) (element : Element) (href : Option (List ℕ)) → IsTold told element
      → attribute (codes "href") element ≡ href
      → IsGiven (option_map_or (λ value. target_carried node value element.doc) href targets.Nothing)
  href_given node element None was is = none_allowed roots told
  href_given node element (Some href) was is = by_target element href
      (unwrap_or (value_of (codes "format") node.cascaded) default_format)
      (unwrap_or (value_of (codes "scope") node.cascaded) default_scope) _ was is refl

  target_given : (homes : List (Option Whole)) (nodes : List PlanNode) (at : ℕ) → AreTold told homes
      → IsGiven (target_seen homes nodes at)
  target_given homes nodes at told_all = by_node (slice_get nodes at) (slice_get homes at) refl
    where
      by_node : (node : Option PlanNode) (found : Option (Option Whole)) → slice_get homes at ≡ found
          → IsGiven (option_map_or (λ (n : PlanNode). option_map_or (href_seen n) (option_map (λ (w : Whole). w.0)
          (option_and_then (λ (w : Option Whole). w) found)) targets.Nothing) node targets.Nothing)
      by_node None found is = none_allowed roots told
      by_node (Some node) None is = none_allowed roots told
      by_node (Some node) (Some None) is = none_allowed roots told
      by_node (Some node) (Some (Some whole)) is =
          href_given node whole.0 (attribute (codes "href") whole.0) (told_all.each at whole is) refl

  pub last_given : (homes : List (Option Whole)) (nodes : List PlanNode) (met : List ℕ) → AreTold told homes
      → IsGiven (last_target homes nodes met)
  last_given homes nodes met told_all = by_last (last_of met)
    where
      by_last : (last : Option ℕ) → IsGiven (option_map_or (target_seen homes nodes) last targets.Nothing)
      by_last None = none_allowed roots told
      by_last (Some at) = target_given homes nodes at told_all

-- a question about the title of the target stays founded
pub title_founded : (told new : List Told) (homes : List (Option Whole)) (nodes : List PlanNode) (met : List ℕ)
    (target : Target) → target ≡ last_target homes nodes met → AreTold told homes
    → StaysFounded (option_to_list (local_name target)) told new → StaysFounded [] told new
title_founded told new homes nodes met target is are stays = stays_when [] told new (stays_grows _ told new stays)
    (λ roots none founded. stays_by _ told new stays roots
    (subst (λ t. AreAllowed roots told (option_to_list (local_name t))) (sym is)
    (last_given roots told homes nodes met are)) founded)

pub target_allowed : (roots : List (List ℕ)) (told new : List Told) (homes : List (Option Whole))
    (nodes : List PlanNode) (met : List ℕ) (target : Target) → target ≡ last_target homes nodes met
    → AreTold told homes → Grows told new → AreAllowed roots new (option_to_list (local_name target))
target_allowed roots told new homes nodes met target is are grows =
    are_allowed_before roots told new (option_to_list (local_name target)) grows
    (subst (λ t. AreAllowed roots told (option_to_list (local_name t))) (sym is)
    (last_given roots told homes nodes met are))

pub answer_allowed : (roots : List (List ℕ)) (told new : List Told) (homes : List (Option Whole))
    (nodes : List PlanNode) (met : List ℕ) (target : Target) (result : Result KeyAnswer NoMemory)
    → IfOk result (λ answer. answer.target ≡ target) → target ≡ last_target homes nodes met → AreTold told homes
    → Grows told new → IfOk result (λ answer. AreAllowed roots new (option_to_list (local_name answer.target)))
answer_allowed roots told new homes nodes met target (Err stop) same is are grows = tt
answer_allowed roots told new homes nodes met target (Ok answer) same is are grows =
    target_allowed roots told new homes nodes met answer.target (same ∙ is) are grows
