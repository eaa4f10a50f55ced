-- Scopes, and the search for the definition of a key, are the same for nodes that are alike.
use Rattle.std.specs.Prelude.{◌≡◌, ◌+◌, ◌==◌, ◌&&◌, ℕ, zero, suc, false, not, List, [], ◌∷◌, ◌++◌, Option, Some, None, cond, count_by, drop, filter, find, fold, length, map, option_map, slice_get, take, codes, bytes_eq, if◌then◌else◌}
use Rattle.std.specs.List.{filter_map, flat_map, list_any}
use Rattle.std.specs.Option.{option_and_then, option_map_or, option_or}
use Rattle.std.proofs.Common.{refl, ap, ◌∙◌}
use Rattle.std.proofs.lemmas.List.{drop-map, take-map}
use Rattle.dita_doc.specs.declared.fault.FaultCode.TheVariants as faults
use Rattle.dita_doc.specs.declared.plan.PlanNode.{PlanNode}
use Rattle.dita_doc.specs.declared.plan.Scope.{Scope}
use Rattle.reader_spec.specs.World.{World}
use Rattle.map_spec.specs.Scopes.{bad_names, begins, behind, child_scopes, first_found, definition_found, found_from, good_names, has_scope_name, is_at_level, is_child_of, key_name_faults, keys_defined, keys_of, may_define, name_faults, node_fault, number_of, numbered, own, own_or_qualified, own_places, parent_of, places, places_from, qualified, root_scope, scope_at, scope_begun, scope_faults, scope_on, scopes}
use Rattle.map_lemmas.specs.Alike.{AreAlike, IsLike, plain}
use Rattle.map_lemmas.proofs.AlikeLaws.{by_plain, same_read_map, same_read_or}
use Rattle.map_lemmas.proofs.WalkLaws.{same_places_up, same_table_at}

-- Places and counts, of a list and of its nodes without what they carry

plain_places : (at : ℕ) (nodes : List PlanNode) → places_from at (map plain nodes) ≡ places_from at nodes
plain_places at [] = refl
plain_places at (node ∷ nodes) = ap (λ more. at ∷ more) (plain_places (at + 1) nodes)

plain_count : (before : ℕ) (nodes : List PlanNode)
    → fold (λ sum node. sum + cond (has_scope_name node) 1 0) before (map plain nodes)
    ≡ fold (λ sum node. sum + cond (has_scope_name node) 1 0) before nodes
plain_count before [] = refl
plain_count before (node ∷ nodes) = plain_count (before + cond (has_scope_name node) 1 0) nodes

plain_number : (at : ℕ) (nodes : List PlanNode) → number_of (map plain nodes) at ≡ number_of nodes at
plain_number at nodes =
    ap (λ front. 1 + count_by has_scope_name (drop 1 front)) (take-map plain at nodes)
    ∙ ap (λ rest. 1 + count_by has_scope_name rest) (drop-map plain 1 (take at nodes))
    ∙ ap (λ count. 1 + count) (plain_count 0 (drop 1 (take at nodes)))

-- Scopes

module _ (nodes others : List PlanNode) (alike : AreAlike nodes others) where
  pub same_places : places nodes ≡ places others
  same_places = by_plain places (plain_places 0) nodes others alike

  pub same_begins : (at : ℕ) → begins nodes at ≡ begins others at
  same_begins at = λ i. not (at == 0) && same_read_or nodes others alike has_scope_name has_scope_name false at
      (λ node other like j. has_scope_name (like j)) i

  pub same_number_of : (at : ℕ) → number_of nodes at ≡ number_of others at
  same_number_of at = by_plain (λ all. number_of all at) (plain_number at) nodes others alike

  same_scope_on : (found : Option ℕ) → scope_on nodes found ≡ scope_on others found
  same_scope_on None = refl
  same_scope_on (Some at) = same_number_of at

  pub same_scope_at : (at : ℕ) → scope_at nodes at ≡ scope_at others at
  same_scope_at at = λ i.
      same_scope_on (find (λ place. same_begins place i) (same_places_up nodes others alike at i)) i

  same_scope_begun : (at : ℕ)
      → option_map (scope_begun nodes at) (slice_get nodes at)
      ≡ option_map (scope_begun others at) (slice_get others at)
  same_scope_begun at = same_read_map nodes others alike (scope_begun nodes at) (scope_begun others at) at
      (λ node other like i. record {
        parent = same_scope_at (like i).parent i;
        node = at;
        names = good_names (like i).scope_names;
      })

  pub same_scopes : scopes nodes ≡ scopes others
  same_scopes = λ i. root_scope
      ∷ filter_map (λ at. same_scope_begun at i) (filter (λ at. same_begins at i) (same_places i))

  pub same_child_scopes : (scope : ℕ) → child_scopes nodes scope ≡ child_scopes others scope
  same_child_scopes scope = λ i. filter (is_child_of scope) (numbered 0 (same_scopes i))

  same_parent_of : (scope : ℕ) → parent_of nodes scope ≡ parent_of others scope
  same_parent_of scope = λ i. option_map_or (λ (found : Scope). found.parent) (slice_get (same_scopes i) scope) 0

  same_level : (level at : ℕ) → is_at_level nodes level at ≡ is_at_level others level at
  same_level level at = same_read_or nodes others alike (λ (node : PlanNode). node.level == level)
      (λ (node : PlanNode). node.level == level) false at (λ node other like i. (like i).level == level)

  pub same_own_places : (scope : ℕ) → own_places nodes scope ≡ own_places others scope
  same_own_places scope = λ i.
      flat_map (λ level. filter (λ at. same_level level at i)
      (filter (λ at. same_scope_at at i == scope) (same_places i))) (same_places i)

-- Keys

module _ (world : World) (nodes others : List PlanNode) (alike : AreAlike nodes others) where
  -- Definitions

  pub same_keys_defined : (at : ℕ) → keys_defined world nodes at ≡ keys_defined world others at
  same_keys_defined at = λ i. if same_table_at nodes others alike at i then [] else same_read_or nodes others alike
      (λ (node : PlanNode). if may_define node.kind then good_names (keys_of world node) else [])
      (λ (node : PlanNode). if may_define node.kind then good_names (keys_of world node) else []) [] at
      (λ node other like j. if may_define (like j).kind then good_names (keys_of world (like j)) else []) i

  pub same_own : (scope : ℕ) (key : List ℕ) → own world nodes scope key ≡ own world others scope key
  same_own scope key = λ i.
      find (λ at. list_any (bytes_eq key) (same_keys_defined at i)) (same_own_places nodes others alike scope i)

  -- The search

  pub same_qualified : (steps scope : ℕ) (key : List ℕ)
      → qualified steps world nodes scope key ≡ qualified steps world others scope key
  unfolding qualified
  same_qualified zero scope key = refl
  same_qualified (suc steps) scope key = λ i. first_found (flat_map (λ (child : Scope × ℕ).
      map (λ name. option_and_then (λ rest.
      option_or (same_own child.1 rest i) (same_qualified steps child.1 rest i))
      (behind (name ++ codes ".") key)) child.0.names) (same_child_scopes nodes others alike scope i))

  same_own_or_qualified : (scope : ℕ) (key : List ℕ)
      → own_or_qualified world nodes scope key ≡ own_or_qualified world others scope key
  same_own_or_qualified scope key = λ i. option_or (same_own scope key i) (same_qualified (length key) scope key i)

  same_found_from : (steps scope : ℕ) (key : List ℕ)
      → found_from steps world nodes scope key ≡ found_from steps world others scope key
  unfolding found_from
  same_found_from zero scope key = same_own_or_qualified scope key
  same_found_from (suc steps) scope key = λ i. if scope == 0 then same_own_or_qualified scope key i
      else option_or (same_found_from steps (same_parent_of nodes others alike scope i) key i)
      (same_own_or_qualified scope key i)

  pub same_found : (scope : ℕ) (key : List ℕ)
      → definition_found world nodes scope key ≡ definition_found world others scope key
  same_found scope key = same_found_from scope scope key

  -- Faults

  same_key_faults : (at : ℕ) (node other : PlanNode) → IsLike node other
      → key_name_faults world nodes at node ≡ key_name_faults world others at other
  same_key_faults at node other like = λ i.
      if may_define (like i).kind && not (same_table_at nodes others alike at i)
      then map (node_fault (like i) faults.BadKeyName) (bad_names (keys_of world (like i))) else []

  pub same_name_faults : name_faults world nodes ≡ name_faults world others
  same_name_faults = λ i. flat_map (λ at. same_read_or nodes others alike
      (λ (node : PlanNode). scope_faults at node ++ key_name_faults world nodes at node)
      (λ (node : PlanNode). scope_faults at node ++ key_name_faults world others at node) [] at
      (λ node other like j. scope_faults at (like j) ++ same_key_faults at node other like j) i)
      (same_places nodes others alike i)
