-- What keys give among nodes is the same in two worlds in which the nodes have the same elements, and the documents to
-- which definitions lead are the same. And to those documents alone keys lead.
use Rattle.std.specs.Prelude.{◌≡◌, ◌+◌, ◌==◌, ◌++◌, ℕ, zero, suc, List, [], ◌∷◌, Option, Some, None, bytes_eq, codes, find, is_some, length, map, slice_get, unwrap_or, if◌then◌else◌}
use Rattle.std.specs.List.{cons_option, filter_map, flat_map, list_any}
use Rattle.std.specs.Option.{option_and_then, option_map_or, option_or, option_map}
use Rattle.std.proofs.Common.{refl, ap, subst, ◌∙◌}
use Rattle.dita_doc.specs.Tree.{Content}
use Rattle.dita_doc.specs.declared.fault.FaultCode.TheVariants as faults
use Rattle.dita_doc.specs.declared.plan.PlanNode.{PlanNode}
use Rattle.dita_doc.specs.declared.plan.Reference.{Reference}
use Rattle.dita_doc.specs.declared.plan.Scope.{Scope}
use Rattle.dita_doc.specs.declared.plan.Target.{Target}
use Rattle.dita_doc.specs.declared.plan.Target.TheVariants as targets
use Rattle.map_spec.specs.Cascade.{attribute_at, cascaded_value, default_of, nearest, passed, places_up, walk, whole_at}
use Rattle.map_spec.specs.Elements.{attribute}
use Rattle.map_spec.specs.Keys.{Chain, answer_of_chain, attribute_of, chain, chain_at, chain_from, fault_of_place, href_target, key_answer, key_of, label_or, last_of, met_again, metadata_texts, target_of_chain, target_of_definition, text_of_chain, text_of_definition, texts_of_node, title_of_target, undefined, undefined_at, untitled_at}
use Rattle.map_spec.specs.Pages.{local_name}
use Rattle.map_spec.specs.Scopes.{behind, child_scopes, definition_found, first_found, found_from, node_fault, own, own_or_qualified, own_places, parent_of, qualified, scope_at}
use Rattle.map_spec.specs.Target.{target_by}
use Rattle.map_spec.specs.Titles.{first_text, title_in, title_of_document}
use Rattle.map_spec.specs.Written.{Whole, written_in}
use Rattle.plan_nodes.proofs.WorldLaws.{same_at, same_keys_defined}
use Rattle.reader_spec.specs.World.{World}

-- The title of a document is that of the document alone

pub same_title : (a b : World) (name topic : List ℕ) → a name ≡ b name → title_in a name topic ≡ title_in b name topic
same_title a b name topic same = ap (λ (found : Option Content).
    option_map_or (title_of_document name topic) (option_map (written_in name) found) name) same

module _ (a b : World) (nodes : List PlanNode) (same : map (whole_at a) nodes ≡ map (whole_at b) nodes) where
  -- What the element of a node says

  attribute_same : (name : List ℕ) (node : PlanNode) → whole_at a node ≡ whole_at b node
      → attribute_at a name node ≡ attribute_at b name node
  attribute_same name node is = ap (option_and_then (λ (whole : Whole). attribute name whole.0)) is

  module _ {X : Type 0} (in_a in_b : PlanNode → X) (none : X)
      (each : (node : PlanNode) → whole_at a node ≡ whole_at b node → in_a node ≡ in_b node) where
    by_node : (found : Option PlanNode)
        → ((node : PlanNode) → found ≡ Some node → whole_at a node ≡ whole_at b node)
        → option_map_or in_a found none ≡ option_map_or in_b found none
    by_node None own = refl
    by_node (Some node) own = each node (own node refl)

    -- what is taken from the node at a place
    at_place : (at : ℕ) → option_map_or in_a (slice_get nodes at) none ≡ option_map_or in_b (slice_get nodes at) none
    at_place at = by_node (slice_get nodes at) (same_at a b nodes same at)

  module _ {X : Type 0} (in_a in_b : PlanNode → Option X)
      (each : (node : PlanNode) → whole_at a node ≡ whole_at b node → in_a node ≡ in_b node) where
    if_node : (found : Option PlanNode)
        → ((node : PlanNode) → found ≡ Some node → whole_at a node ≡ whole_at b node)
        → option_and_then in_a found ≡ option_and_then in_b found
    if_node None own = refl
    if_node (Some node) own = each node (own node refl)

    if_place : (at : ℕ) → option_and_then in_a (slice_get nodes at) ≡ option_and_then in_b (slice_get nodes at)
    if_place at = if_node (slice_get nodes at) (same_at a b nodes same at)

  value_same : (name : List ℕ) (at : ℕ) → attribute_of a nodes name at ≡ attribute_of b nodes name at
  value_same name = if_place (attribute_at a name) (attribute_at b name) (attribute_same name)

  -- What cascades on the walk from it

  abbrev AreSame : List PlanNode → Type 0
  AreSame [] = Unit {0}
  AreSame (node ∷ around) = (whole_at a node ≡ whole_at b node) × AreSame around

  in_front : (found : Option PlanNode) (around : List PlanNode)
      → ((node : PlanNode) → found ≡ Some node → whole_at a node ≡ whole_at b node) → AreSame around
      → AreSame (cons_option found around)
  in_front None around each behind = behind
  in_front (Some node) around each behind = (each node refl, behind)

  places_same : (at : List ℕ) → AreSame (filter_map (slice_get nodes) at)
  places_same [] = tt
  places_same (at ∷ more) = in_front (slice_get nodes at) (filter_map (slice_get nodes) more)
      (same_at a b nodes same at) (places_same more)

  nearest_same : (name : List ℕ) (around : List PlanNode) → AreSame around
      → nearest a name around ≡ nearest b name around
  nearest_same name [] each = refl
  nearest_same name (node ∷ around) each = λ i. option_or (attribute_same name node each.0 i)
      (passed name node around (nearest_same name around each.1 i))

  cascaded_same : (name : List ℕ) (at : ℕ)
      → cascaded_value a name (walk nodes at) ≡ cascaded_value b name (walk nodes at)
  cascaded_same name at = ap (λ (value : Option (List ℕ)). unwrap_or value (default_of name (walk nodes at)))
      (nearest_same name (walk nodes at) (places_same (places_up nodes at)))

  -- The definition of a key

  own_same : (scope : ℕ) (key : List ℕ) → own a nodes scope key ≡ own b nodes scope key
  own_same scope key = λ i.
      find (λ at. list_any (bytes_eq key) (same_keys_defined a b nodes same at i)) (own_places nodes scope)

  qualified_same : (steps scope : ℕ) (key : List ℕ)
      → qualified steps a nodes scope key ≡ qualified steps b nodes scope key
  unfolding qualified
  qualified_same zero scope key = refl
  qualified_same (suc steps) scope key = λ i. first_found (flat_map (λ (child : Scope × ℕ).
      map (λ name. option_and_then (λ rest.
      option_or (own_same child.1 rest i) (qualified_same steps child.1 rest i))
      (behind (name ++ codes ".") key)) child.0.names) (child_scopes nodes scope))

  either_same : (scope : ℕ) (key : List ℕ)
      → own_or_qualified a nodes scope key ≡ own_or_qualified b nodes scope key
  either_same scope key = λ i. option_or (own_same scope key i) (qualified_same (length key) scope key i)

  found_same : (steps scope : ℕ) (key : List ℕ)
      → found_from steps a nodes scope key ≡ found_from steps b nodes scope key
  unfolding found_from
  found_same zero scope key = either_same scope key
  found_same (suc steps) scope key = λ i. if scope == 0 then either_same scope key i
      else option_or (found_same steps (parent_of nodes scope) key i) (either_same scope key i)

  -- The chain of definitions

  undefined_same : (key : List ℕ) (last : Option ℕ) → undefined_at a nodes key last ≡ undefined_at b nodes key last
  undefined_same key None = refl
  undefined_same key (Some at) = λ i. if is_some (value_same (codes "href") at i) then []
      else fault_of_place nodes at (λ node. node_fault node faults.KeyUndefined key)

  step_same : (f g : List ℕ → ℕ → List ℕ → Chain)
      → ((met : List ℕ) (scope : ℕ) (key : List ℕ) → f met scope key ≡ g met scope key)
      → (met key : List ℕ) (found : Option ℕ) → chain_at f a nodes met key found ≡ chain_at g b nodes met key found
  step_same f g each met key None = λ i. record { met = met; faults = undefined_same key (last_of met) i }
  step_same f g each met key (Some at) = λ i. if list_any (λ other. other == at) met then met_again nodes met key at
      else option_map_or (λ keyref. each (met ++ at ∷ []) (scope_at nodes at) (key_of keyref) i)
      (value_same (codes "keyref") at i) (record { met = met ++ at ∷ []; faults = [] })

  chain_same : (steps : ℕ) (met : List ℕ) (scope : ℕ) (key : List ℕ)
      → chain_from steps a nodes met scope key ≡ chain_from steps b nodes met scope key
  unfolding chain_from
  chain_same zero met scope key = refl
  chain_same (suc steps) met scope key =
      step_same (chain_from steps a nodes) (chain_from steps b nodes) (chain_same steps) met key
      (definition_found a nodes scope key)
      ∙ ap (chain_at (chain_from steps b nodes) b nodes met key) (found_same scope scope key)

  -- Its target and its text

  definition_same : (at : ℕ) (node : PlanNode) → whole_at a node ≡ whole_at b node
      → target_of_definition a node (walk nodes at) ≡ target_of_definition b node (walk nodes at)
  definition_same at node is = λ i. option_and_then (λ href.
      target_by href (cascaded_same (codes "format") at i) (cascaded_same (codes "scope") at i) node.doc)
      (attribute_same (codes "href") node is i)

  place_same : (at : ℕ) → href_target a nodes at ≡ href_target b nodes at
  place_same at = if_place (λ node. target_of_definition a node (walk nodes at))
      (λ node. target_of_definition b node (walk nodes at)) (definition_same at) at

  target_same : (met : List ℕ) → target_of_chain a nodes met ≡ target_of_chain b nodes met
  target_same met = λ i. unwrap_or (option_and_then (λ at. place_same at i) (last_of met)) targets.Nothing

  texts_same : (node : PlanNode) → whole_at a node ≡ whole_at b node
      → first_text (texts_of_node a node) ≡ first_text (texts_of_node b node)
  texts_same node is = ap (λ (found : Option Whole). first_text
      (option_map_or (λ (whole : Whole). metadata_texts whole.1) found []
      ++ unwrap_or (option_and_then (λ (whole : Whole). attribute (codes "navtitle") whole.0) found) [] ∷ [])) is

  own_text_same : (at : ℕ) → text_of_definition a nodes at ≡ text_of_definition b nodes at
  own_text_same = at_place (λ node. first_text (texts_of_node a node)) (λ node. first_text (texts_of_node b node)) []
      texts_same

  title_same : (target : Target) → ((name : List ℕ) → local_name target ≡ Some name → a name ≡ b name)
      → title_of_target a target ≡ title_of_target b target
  title_same targets.Nothing each = refl
  title_same (targets.Local name reference) each = same_title a b name reference.topic (each name refl)
  title_same (targets.File name rest) each = refl
  title_same (targets.Other value) each = refl

  module _ (each : (met name : List ℕ) → local_name (target_of_chain a nodes met) ≡ Some name → a name ≡ b name) where
    text_same : (met : List ℕ) → text_of_chain a nodes met ≡ text_of_chain b nodes met
    text_same met = let title = title_same (target_of_chain a nodes met) (each met)
        ∙ ap (title_of_target b) (target_same met) in
        λ i. first_text (map (λ at. own_text_same at i) met ++ title i ∷ [])

    answer_same : (key : List ℕ) (made : Chain)
        → answer_of_chain a nodes key made ≡ answer_of_chain b nodes key made
    answer_same key made = λ i. option_map_or (λ first.
        let text = text_same made.met i in
        record {
          node = Some first;
          target = target_same made.met i;
          label = label_or key text;
          faults = made.faults ++ untitled_at nodes first key text;
        }) (slice_get made.met 0) undefined

    pub same_key : (scope : ℕ) (key : List ℕ) → key_answer a nodes scope key ≡ key_answer b nodes scope key
    same_key scope key = answer_same key (chain a nodes scope key)
        ∙ ap (answer_of_chain b nodes key) (chain_same (length nodes + 1) [] scope key)

-- The documents to which keys lead are those to which definitions of nodes do

module _ (world : World) (nodes : List PlanNode) (P : List ℕ → Type 0)
    (given : (at : ℕ) (node : PlanNode) (name : List ℕ) (reference : Reference) → slice_get nodes at ≡ Some node
    → target_of_definition world node (walk nodes at) ≡ Some (targets.Local name reference) → P name) where
  abbrev Leads : Target → Type 0
  Leads target = (name : List ℕ) → local_name target ≡ Some name → P name

  leads_nowhere : Leads targets.Nothing
  leads_nowhere name is = cc

  by_found : (found : Option Target) → ((target : Target) → found ≡ Some target → Leads target)
      → Leads (unwrap_or found targets.Nothing)
  by_found None each = leads_nowhere
  by_found (Some target) each = each target refl

  by_target : (at : ℕ) (node : PlanNode) (target : Target) → slice_get nodes at ≡ Some node
      → target_of_definition world node (walk nodes at) ≡ Some target → Leads target
  by_target at node targets.Nothing there is name named = cc
  by_target at node (targets.Local own reference) there is name named =
      let same : own ≡ name = cc in subst P same (given at node own reference there is)
  by_target at node (targets.File own rest) there is name named = cc
  by_target at node (targets.Other value) there is name named = cc

  by_definition : (at : ℕ) (found : Option PlanNode) → slice_get nodes at ≡ found → (target : Target)
      → option_and_then (λ node. target_of_definition world node (walk nodes at)) found ≡ Some target → Leads target
  by_definition at None is target leads = cc
  by_definition at (Some node) is target leads = by_target at node target is leads

  by_last : (last : Option ℕ) (target : Target) → option_and_then (href_target world nodes) last ≡ Some target
      → Leads target
  by_last None target leads = cc
  by_last (Some at) target leads = by_definition at (slice_get nodes at) refl target leads

  pub chain_leads : (met name : List ℕ) → local_name (target_of_chain world nodes met) ≡ Some name → P name
  chain_leads met = by_found (option_and_then (href_target world nodes) (last_of met)) (by_last (last_of met))

  pub key_leads : (scope : ℕ) (key name : List ℕ) → local_name (key_answer world nodes scope key).target ≡ Some name
      → P name
  key_leads scope key name = by_met (slice_get (chain world nodes scope key).met 0) refl
    where
      by_met : (first : Option ℕ) → slice_get (chain world nodes scope key).met 0 ≡ first
          → local_name (key_answer world nodes scope key).target ≡ Some name → P name
      by_met None e = rw e (leads_nowhere name)
      by_met (Some at) e = rw e (chain_leads (chain world nodes scope key).met name)
