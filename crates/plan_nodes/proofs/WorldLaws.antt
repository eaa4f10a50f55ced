-- What nodes carry, and the keys that they define, are the same in each world in which they have the same elements.
use Rattle.std.specs.Prelude.{◌≡◌, ◌++◌, ℕ, not, List, [], ◌∷◌, Option, Some, None, bytes_eq, codes, drop, map, slice_get, unwrap_or, if◌then◌else◌}
use Rattle.std.specs.List.{cons_option, filter_map}
use Rattle.std.specs.Option.{option_and_then, option_map_or, option_or, option_map}
use Rattle.std.proofs.Common.{refl, sym, ap, ◌∙◌, get_or}
use Rattle.std.proofs.lemmas.Option.{slice_get-map}
use Rattle.dita_doc.specs.declared.plan.PlanNode.{PlanNode}
use Rattle.ditaval_rules.specs.Verdict.{conditional_names}
use Rattle.map_spec.specs.Branches.{words_written}
use Rattle.map_spec.specs.Cascade.{attribute_at, cascaded_on, cascaded_value, default_of, if_not_grouped, is_in_table, merged_tokens, named_tokens, nearest, nearest_names, passed, places_up, tokens_on, walk, whole_at}
use Rattle.map_spec.specs.Elements.{attribute}
use Rattle.map_spec.specs.Scopes.{good_names, keys_defined, keys_of, may_define}
use Rattle.map_spec.specs.Written.{Whole}
use Rattle.reader_spec.specs.World.{World}
use Rattle.plan_nodes.specs.Carried.{CarryValues}

module _ (a b : World) where
  -- these nodes have the same elements in both worlds
  abbrev AreSame : List PlanNode → Type 0
  AreSame nodes = map (whole_at a) nodes ≡ map (whole_at b) nodes

  -- One node

  first_same : (node : PlanNode) (around : List PlanNode) → AreSame (node ∷ around) → whole_at a node ≡ whole_at b node
  first_same node around same = ap (λ all. get_or all 0 (whole_at a node)) same

  rest_same : (node : PlanNode) (around : List PlanNode) → AreSame (node ∷ around) → AreSame around
  rest_same node around same = ap (drop 1) same

  same_element : (found : Option PlanNode) → option_map (whole_at a) found ≡ option_map (whole_at b) found
      → (node : PlanNode) → found ≡ Some node → whole_at a node ≡ whole_at b node
  same_element None same node is = cc
  same_element (Some other) same node is = cc

  -- the element of the node at a place
  pub same_at : (nodes : List PlanNode) → AreSame nodes → (at : ℕ) (node : PlanNode) → slice_get nodes at ≡ Some node
      → whole_at a node ≡ whole_at b node
  same_at nodes same at = same_element (slice_get nodes at)
      (sym (slice_get-map (whole_at a) nodes at) ∙ ap (λ all. slice_get all at) same
      ∙ slice_get-map (whole_at b) nodes at)

  same_attribute : (name : List ℕ) (node : PlanNode) → whole_at a node ≡ whole_at b node
      → attribute_at a name node ≡ attribute_at b name node
  same_attribute name node same = ap (option_and_then (λ (whole : Whole). attribute name whole.0)) same

  -- The walk from a node

  in_front : (found : Option PlanNode) (around : List PlanNode)
      → ((node : PlanNode) → found ≡ Some node → whole_at a node ≡ whole_at b node) → AreSame around
      → AreSame (cons_option found around)
  in_front None around each same = same
  in_front (Some node) around each same = λ i. each node refl i ∷ same i

  same_places : (nodes : List PlanNode) → AreSame nodes → (places : List ℕ)
      → AreSame (filter_map (slice_get nodes) places)
  same_places nodes same [] = refl
  same_places nodes same (at ∷ places) = in_front (slice_get nodes at) (filter_map (slice_get nodes) places)
      (same_at nodes same at) (same_places nodes same places)

  same_walk : (nodes : List PlanNode) → AreSame nodes → (at : ℕ) → AreSame (walk nodes at)
  same_walk nodes same at = same_places nodes same (places_up nodes at)

  -- What cascades on a walk

  same_nearest : (name : List ℕ) (around : List PlanNode) → AreSame around → nearest a name around ≡ nearest b name around
  same_nearest name [] same = refl
  same_nearest name (node ∷ around) same = λ i. option_or (same_attribute name node (first_same node around same) i)
      (passed name node around (same_nearest name around (rest_same node around same) i))

  same_value : (name : List ℕ) (around : List PlanNode) → AreSame around
      → cascaded_value a name around ≡ cascaded_value b name around
  same_value name around same = λ i. unwrap_or (same_nearest name around same i) (default_of name around)

  same_tokens : (name : List ℕ) (around : List PlanNode) → AreSame around → tokens_on a name around ≡ tokens_on b name around
  same_tokens name [] same = refl
  same_tokens name (node ∷ around) same = λ i.
      merged_tokens (not (bytes_eq (same_value (codes "cascade") (node ∷ around) same i) (codes "nomerge")))
      (option_and_then if_not_grouped (same_attribute name node (first_same node around same) i))
      (same_tokens name around (rest_same node around same) i)

  same_cascaded : (around : List PlanNode) → AreSame around → cascaded_on a around ≡ cascaded_on b around
  same_cascaded around same = λ i.
      map (λ name. record { name = name; value = same_value name around same i }) nearest_names
      ++ filter_map (λ name. named_tokens name (same_tokens name around same i)) conditional_names

  -- The keys that a node defines

  same_keys : (found : Option PlanNode) → ((node : PlanNode) → found ≡ Some node → whole_at a node ≡ whole_at b node)
      → option_map_or (λ (node : PlanNode). if may_define node.kind then good_names (keys_of a node) else []) found []
      ≡ option_map_or (λ (node : PlanNode). if may_define node.kind then good_names (keys_of b node) else []) found []
  same_keys None each = refl
  same_keys (Some node) each = λ i.
      if may_define node.kind then good_names (words_written (same_attribute (codes "keys") node (each node refl) i))
      else []

  pub same_keys_defined : (nodes : List PlanNode) → AreSame nodes → (at : ℕ)
      → keys_defined a nodes at ≡ keys_defined b nodes at
  same_keys_defined nodes same at = λ i. if is_in_table (walk nodes at) then []
      else same_keys (slice_get nodes at) (same_at nodes same at) i

  -- The values of the cascade are carried in both worlds

  pub values_over : (nodes : List PlanNode) → map (whole_at a) nodes ≡ map (whole_at b) nodes → CarryValues a nodes
      → CarryValues b nodes
  values_over nodes same carry = record {
    each = λ at node is. carry.each at node is ∙ same_cascaded (walk nodes at) (same_walk nodes same at);
  }
