-- The walk from a node to the root, and what cascades on it, are the same for nodes that are alike.
use Rattle.std.specs.Prelude.{◌≡◌, ◌+◌, ◌==◌, ◌||◌, ℕ, zero, suc, not, List, [], ◌∷◌, ◌++◌, map, slice_get, unwrap_or, codes, bytes_eq, if◌then◌else◌}
use Rattle.std.specs.List.{filter_map}
use Rattle.std.specs.Option.{option_or}
use Rattle.std.proofs.Common.{refl, ap}
use Rattle.dita_doc.specs.declared.plan.PlanNode.{PlanNode}
use Rattle.ditaval_rules.specs.Verdict.{conditional_names}
use Rattle.reader_spec.specs.World.{World}
use Rattle.map_spec.specs.Cascade.{attribute_at, cascaded_on, cascaded_value, default_of, is_in_table, merged_tokens, named_tokens, nearest, nearest_names, own_tokens, passed, places_up, steps_up, tokens_on, walk}
use Rattle.map_spec.specs.Included.{is_table}
use Rattle.map_lemmas.specs.Alike.{AreAlike, IsLike, plain}
use Rattle.map_lemmas.proofs.AlikeLaws.{alike_front, by_plain, same_node, same_read_or}

-- The walk

module _ (nodes others : List PlanNode) (alike : AreAlike nodes others) where
  -- as many steps from a place
  pub same_steps_up : (steps at : ℕ) → steps_up steps nodes at ≡ steps_up steps others at
  same_steps_up zero at = refl
  same_steps_up (suc steps) at = λ i. at ∷ (if at == 0 then []
      else same_read_or nodes others alike (λ (node : PlanNode). steps_up steps nodes node.parent)
      (λ (node : PlanNode). steps_up steps others node.parent) [] at
      (λ node other like j. same_steps_up steps (like j).parent j) i)

  -- the places on it
  pub same_places_up : (at : ℕ) → places_up nodes at ≡ places_up others at
  same_places_up at = same_steps_up (at + 1) at

  -- the nodes at some places
  alike_places : (places : List ℕ)
      → AreAlike (filter_map (slice_get nodes) places) (filter_map (slice_get others) places)
  alike_places [] = refl
  alike_places (at ∷ places) =
      alike_front (slice_get nodes at) (slice_get others at) (filter_map (slice_get nodes) places)
      (filter_map (slice_get others) places) (same_node nodes others alike at) (alike_places places)

  -- its nodes are alike
  pub same_walk : (at : ℕ) → AreAlike (walk nodes at) (walk others at)
  same_walk at = λ i. alike_places (same_places_up at i) i

-- What an element says

-- two nodes that are alike have one element
pub same_attribute_at : (world : World) (name : List ℕ) (node other : PlanNode) → IsLike node other
    → attribute_at world name node ≡ attribute_at world name other
same_attribute_at world name node other like = λ i. attribute_at world name (like i)

-- What cascades on lists that are alike: first, on a list and on its nodes without what they carry

plain_table : (nodes : List PlanNode) → is_in_table (map plain nodes) ≡ is_in_table nodes
plain_table [] = refl
plain_table (node ∷ nodes) = ap (λ rest. is_table node.kind || rest) (plain_table nodes)

pub same_table : (nodes others : List PlanNode) → AreAlike nodes others → is_in_table nodes ≡ is_in_table others
same_table = by_plain is_in_table plain_table

-- a default asks for the table alone
plain_default : (name : List ℕ) (nodes : List PlanNode) → default_of name (map plain nodes) ≡ default_of name nodes
plain_default name nodes = rw (plain_table nodes) refl

module _ (world : World) where
  plain_nearest : (name : List ℕ) (nodes : List PlanNode)
      → nearest world name (map plain nodes) ≡ nearest world name nodes
  plain_nearest name [] = refl
  plain_nearest name (node ∷ []) = refl
  plain_nearest name (node ∷ next ∷ around) =
      ap (λ value. option_or (attribute_at world name node) (passed name node (next ∷ around) value))
      (plain_nearest name (next ∷ around))

  plain_value : (name : List ℕ) (nodes : List PlanNode)
      → cascaded_value world name (map plain nodes) ≡ cascaded_value world name nodes
  plain_value name nodes = λ i. unwrap_or (plain_nearest name nodes i) (plain_default name nodes i)

  plain_tokens : (name : List ℕ) (nodes : List PlanNode)
      → tokens_on world name (map plain nodes) ≡ tokens_on world name nodes
  plain_tokens name [] = refl
  plain_tokens name (node ∷ around) = λ i.
      merged_tokens (not (bytes_eq (plain_value (codes "cascade") (node ∷ around) i) (codes "nomerge")))
      (own_tokens world name node) (plain_tokens name around i)

  plain_carried : (nodes : List PlanNode) → cascaded_on world (map plain nodes) ≡ cascaded_on world nodes
  plain_carried nodes = λ i.
      map (λ name. record { name = name; value = plain_value name nodes i }) nearest_names
      ++ filter_map (λ name. named_tokens name (plain_tokens name nodes i)) conditional_names

  -- The nearest value, the value that holds, the tokens, and all values

  pub same_nearest : (name : List ℕ) (nodes others : List PlanNode) → AreAlike nodes others
      → nearest world name nodes ≡ nearest world name others
  same_nearest name = by_plain (nearest world name) (plain_nearest name)

  pub same_cascaded_value : (name : List ℕ) (nodes others : List PlanNode) → AreAlike nodes others
      → cascaded_value world name nodes ≡ cascaded_value world name others
  same_cascaded_value name = by_plain (cascaded_value world name) (plain_value name)

  pub same_tokens_on : (name : List ℕ) (nodes others : List PlanNode) → AreAlike nodes others
      → tokens_on world name nodes ≡ tokens_on world name others
  same_tokens_on name = by_plain (tokens_on world name) (plain_tokens name)

  pub same_cascaded_on : (nodes others : List PlanNode) → AreAlike nodes others
      → cascaded_on world nodes ≡ cascaded_on world others
  same_cascaded_on = by_plain (cascaded_on world) plain_carried

-- What cascades to a node

module _ (nodes others : List PlanNode) (alike : AreAlike nodes others) where
  pub same_table_at : (at : ℕ) → is_in_table (walk nodes at) ≡ is_in_table (walk others at)
  same_table_at at = same_table (walk nodes at) (walk others at) (same_walk nodes others alike at)

module _ (world : World) (nodes others : List PlanNode) (alike : AreAlike nodes others) where
  pub same_value_at : (name : List ℕ) (at : ℕ)
      → cascaded_value world name (walk nodes at) ≡ cascaded_value world name (walk others at)
  same_value_at name at =
      same_cascaded_value world name (walk nodes at) (walk others at) (same_walk nodes others alike at)

  pub same_values_at : (at : ℕ) → cascaded_on world (walk nodes at) ≡ cascaded_on world (walk others at)
  same_values_at at = same_cascaded_on world (walk nodes at) (walk others at) (same_walk nodes others alike at)
