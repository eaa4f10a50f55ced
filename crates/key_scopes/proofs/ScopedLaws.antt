-- The scopes and the definitions of nodes do not look at the scopes that stand in the nodes, so that those of the nodes
-- that were made are the same again.
use Rattle.std.specs.List.{flat_map}
use Rattle.std.proofs.Common.{◌≡◌, ◌+◌, ◌∙◌, ℕ, List, [], ◌∷◌, ap, map, refl, subst, sym}
use Rattle.dita_doc.specs.declared.plan.PlanNode.{PlanNode}
use Rattle.key_scopes.specs.Made.{AreScopes, IsTableOf}
use Rattle.key_scopes.specs.OwnKeys.{first_of_each, own_keys}
use Rattle.key_scopes.specs.Table.{Table}
use Rattle.key_scopes.specs.declared.made.ScopesMade.{ScopesMade}
use Rattle.map_lemmas.specs.Alike.{AreAlike}
use Rattle.map_lemmas.proofs.CarriedLaws.{alike_scoped}
use Rattle.map_lemmas.proofs.ScopeLaws.{same_found, same_keys_defined, same_name_faults, same_own_places, same_scope_at, same_scopes}
use Rattle.map_spec.specs.Scopes.{name_faults, places_from, scoped, scoped_from}
use Rattle.reader_spec.specs.World.{World}

same_own_keys : (world : World) (nodes others : List PlanNode) → AreAlike nodes others
    → own_keys world nodes ≡ own_keys world others
same_own_keys world nodes others alike = λ i.
    map (λ scope. first_of_each (flat_map
    (λ at. map (λ key. (key, at)) (same_keys_defined world nodes others alike at i))
    (same_own_places nodes others alike scope i))) (places_from 0 (same_scopes nodes others alike i))

-- the table of nodes is that of the nodes with their scopes
pub table_of_scoped : (world : World) (nodes : List PlanNode) (table : Table) → IsTableOf world nodes table
    → IsTableOf world (scoped nodes) table
table_of_scoped world nodes table is = record {
  scopes = is.scopes ∙ same_scopes nodes (scoped nodes) (alike_scoped nodes);
  found = λ scope key. is.found scope key ∙ same_found world nodes (scoped nodes) (alike_scoped nodes) scope key;
  own_keys = is.own_keys ∙ same_own_keys world nodes (scoped nodes) (alike_scoped nodes);
}

-- nodes with their scopes have these scopes again
scoped_again : (nodes others : List PlanNode) → AreAlike nodes others → (at : ℕ) (more : List PlanNode)
    → scoped_from others at (scoped_from nodes at more) ≡ scoped_from nodes at more
scoped_again nodes others alike at [] = refl
scoped_again nodes others alike at (node ∷ more) = let same = sym (same_scope_at nodes others alike at) in λ i.
    record node { scope = same i } ∷ scoped_again nodes others alike (at + 1) more i

-- what is made of nodes is made of the nodes that came out
pub made_again : (world : World) (given : List PlanNode) (made : ScopesMade) → AreScopes world given made
    → AreScopes world made.nodes made
made_again world given made is = record {
  nodes = is.nodes ∙ sym (scoped_again given (scoped given) (alike_scoped given) 0 given) ∙ ap scoped (sym is.nodes);
  faults = is.faults ∙ same_name_faults world given (scoped given) (alike_scoped given)
      ∙ ap (name_faults world) (sym is.nodes);
  table = subst (λ nodes. IsTableOf world nodes made.table) (sym is.nodes)
      (table_of_scoped world given made.table is.table);
}
