-- What is known in a world of nodes whose keys are asked for (own): their elements, the values and scopes that they
-- carry, and the table of their scopes.
use Rattle.std.specs.Prelude.{◌≡◌, List, Option, map}
use Rattle.std.specs.Coded.{Coded, Coded-set, codes}
use Rattle.std.proofs.Props.{props}
use Rattle.dita_doc.specs.declared.doc.Attribute.{Attribute}
use Rattle.dita_doc.specs.declared.plan.PlanNode.{PlanNode}
use Rattle.key_scopes.specs.Made.{IsTableOf}
use Rattle.key_scopes.specs.Table.{Table}
use Rattle.map_spec.specs.Cascade.{whole_at}
use Rattle.map_spec.specs.Written.{Whole}
use Rattle.plan_nodes.specs.Carried.{CarryScopes, CarryValues}
use Rattle.plan_nodes.specs.WholeCode.{homes_code}
use Rattle.reader_spec.specs.World.{World}

pub record AreKeyed (world : World) (nodes : List PlanNode) (homes : List (Option Whole)) (table : Table) : Type 0 where
  pub elements : homes ≡ map (whole_at world) nodes
  pub values : CarryValues world nodes
  pub scopes : CarryScopes nodes
  pub tabled : ∥ IsTableOf world nodes table ∥₁

homes_set : IsSet (List (Option Whole))
homes_set = Coded-set homes_code

values_code : Coded (List Attribute)
values_code = hlevel codes

values_set : IsSet (List Attribute)
values_set = Coded-set values_code

-- there is one proof of this at most
pub AreKeyed-prop : (world : World) (nodes : List PlanNode) (homes : List (Option Whole)) (table : Table)
    → IsProp (AreKeyed world nodes homes table)
AreKeyed-prop world nodes homes table = hlevel (props, homes_set, values_set)
