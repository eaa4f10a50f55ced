-- What is made of nodes: the table of their scopes, the nodes with their scopes, and the faults of names.
use Rattle.std.specs.Prelude.{◌≡◌, ℕ, List}
use Rattle.dita_doc.specs.declared.plan.PlanNode.{PlanNode}
use Rattle.key_scopes.specs.declared.made.ScopesMade.{ScopesMade}
use Rattle.key_scopes.specs.Found.{found_in}
use Rattle.key_scopes.specs.OwnKeys.{own_keys}
use Rattle.key_scopes.specs.Table.{Table}
use Rattle.map_spec.specs.Scopes.{definition_found, name_faults, scoped, scopes}
use Rattle.reader_spec.specs.World.{World}

-- the table has the scopes; in it each key is found as the definition of the search finds it; and it has each scope's keys
-- by level and place
pub record IsTableOf (world : World) (nodes : List PlanNode) (table : Table) : Type 0 where
  pub scopes : table.scopes ≡ scopes nodes
  pub found : (scope : ℕ) (key : List ℕ) → found_in table scope key ≡ definition_found world nodes scope key
  pub own_keys : table.own_keys ≡ own_keys world nodes

pub record AreScopes (world : World) (given : List PlanNode) (made : ScopesMade) : Type 0 where
  pub nodes : made.nodes ≡ scoped given
  pub faults : made.faults ≡ name_faults world given
  pub table : IsTableOf world given made.table
