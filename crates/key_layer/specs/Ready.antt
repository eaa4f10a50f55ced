-- What a reader of keys knows of its nodes when it begins (own), from what was told by then.
use Rattle.std.specs.Prelude.{◌≡◌, List, Option, map}
use Rattle.std.specs.Coded.{Coded, Coded-set, codes}
use Rattle.std.proofs.Props.{props}
use Rattle.dita_doc.specs.declared.doc.Attribute.{Attribute}
use Rattle.dita_doc.specs.declared.plan.PlanNode.{PlanNode}
use Rattle.map_spec.specs.Cascade.{whole_at}
use Rattle.map_spec.specs.Written.{Whole}
use Rattle.plan_nodes.specs.Carried.{CarryScopes, CarryValues}
use Rattle.plan_nodes.specs.Given.{AreTold}
use Rattle.plan_nodes.specs.WholeCode.{homes_code}
use Rattle.reader_spec.specs.World.{World}
use Rattle.readers.specs.Setting.{Setting}
use Rattle.readers.specs.Told.{Told, Agrees}

-- the elements are theirs, of documents that were told, and they carry their values and scopes
pub record AreReady (told : List Told) (nodes : List PlanNode) (homes : List (Option Whole)) : Type 0 where
  pub elements : (world : World) → Agrees world told → homes ≡ map (whole_at world) nodes
  pub values : (world : World) → Agrees world told → CarryValues world nodes
  pub scopes : CarryScopes nodes
  pub given : AreTold told homes

-- what a reader was made for, and these nodes
abbrev pub made_for : List PlanNode → Setting → Setting
made_for nodes setting = record setting { nodes = nodes }

homes_set : IsSet (List (Option Whole))
homes_set = Coded-set homes_code

values_code : Coded (List Attribute)
values_code = hlevel codes

values_set : IsSet (List Attribute)
values_set = Coded-set values_code

pub AreReady-prop : (told : List Told) (nodes : List PlanNode) (homes : List (Option Whole))
    → IsProp (AreReady told nodes homes)
AreReady-prop told nodes homes = hlevel (props, homes_set, values_set)
