-- The table of scopes and keys is the same in each world in which the nodes have the same elements.
use Rattle.std.specs.Prelude.{◌≡◌, ◌==◌, ◌++◌, ℕ, zero, suc, List, bytes_eq, codes, find, length, map, if◌then◌else◌}
use Rattle.std.specs.List.{flat_map, list_any}
use Rattle.std.specs.Option.{option_and_then, option_or}
use Rattle.std.proofs.Common.{refl, ◌∙◌}
use Rattle.dita_doc.specs.declared.plan.PlanNode.{PlanNode}
use Rattle.dita_doc.specs.declared.plan.Scope.{Scope}
use Rattle.key_scopes.specs.Made.{IsTableOf}
use Rattle.key_scopes.specs.OwnKeys.{first_of_each, own_keys}
use Rattle.key_scopes.specs.Table.{Table}
use Rattle.map_spec.specs.Cascade.{whole_at}
use Rattle.map_spec.specs.Scopes.{behind, child_scopes, first_found, found_from, own, own_places, parent_of, places_from, qualified, scopes}
use Rattle.plan_nodes.proofs.WorldLaws.{same_keys_defined}
use Rattle.reader_spec.specs.World.{World}

module _ (a b : World) (nodes : List PlanNode) (same : map (whole_at a) nodes ≡ map (whole_at b) nodes) where
  -- a scope's own definition of a key
  same_own : (scope : ℕ) (key : List ℕ) → own a nodes scope key ≡ own b nodes scope key
  same_own scope key = λ i.
      find (λ at. list_any (bytes_eq key) (same_keys_defined a b nodes same at i)) (own_places nodes scope)

  -- the definition of a key
  same_qualified : (steps scope : ℕ) (key : List ℕ)
      → qualified steps a nodes scope key ≡ qualified steps b nodes scope key
  unfolding qualified
  same_qualified zero scope key = refl
  same_qualified (suc steps) scope key = λ i. first_found (flat_map (λ (child : Scope × ℕ).
      map (λ name. option_and_then (λ rest.
      option_or (same_own child.1 rest i) (same_qualified steps child.1 rest i))
      (behind (name ++ codes ".") key)) child.0.names) (child_scopes nodes scope))

  same_found_from : (steps scope : ℕ) (key : List ℕ)
      → found_from steps a nodes scope key ≡ found_from steps b nodes scope key
  unfolding found_from
  same_found_from zero scope key = λ i.
      option_or (same_own scope key i) (same_qualified (length key) scope key i)
  same_found_from (suc steps) scope key = λ i. if scope == 0
      then option_or (same_own scope key i) (same_qualified (length key) scope key i)
      else option_or (same_found_from steps (parent_of nodes scope) key i)
      (option_or (same_own scope key i) (same_qualified (length key) scope key i))

  -- the keys of all scopes
  same_own_keys : own_keys a nodes ≡ own_keys b nodes
  same_own_keys = λ i. map (λ scope. first_of_each (flat_map (λ at.
      map (λ key. (key, at)) (same_keys_defined a b nodes same at i)) (own_places nodes scope)))
      (places_from 0 (scopes nodes))

  pub table_over : (table : Table) → IsTableOf a nodes table → IsTableOf b nodes table
  table_over table is = record {
    scopes = is.scopes;
    found = λ scope key. is.found scope key ∙ same_found_from scope scope key;
    own_keys = is.own_keys ∙ same_own_keys;
  }
