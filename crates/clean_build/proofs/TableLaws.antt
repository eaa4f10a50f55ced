-- The tables of a plan that were made by a reader over the same world.
use Rattle.std.specs.Prelude.{◌≡◌, ℕ, List, Option}
use Rattle.std.proofs.Common.{subst}
use Rattle.dita_doc.specs.declared.plan.PagePlan.{PagePlan}
use Rattle.dita_doc.specs.declared.plan.PlanNode.{PlanNode}
use Rattle.key_scopes.specs.Table.{Table}
use Rattle.map_spec.specs.Written.{Whole}
use Rattle.plan_reader.specs.Keyed.{AreKeyed}
use Rattle.plan_reader.specs.Tables.{AreTables}
use Rattle.plan_reader.specs.declared.tables.PlanTables.{PlanTables}
use Rattle.reader_spec.specs.World.{World}

pub tables_here : (own world : World) (nodes : List PlanNode) (documents : List (List ℕ)) (pages : List PagePlan)
    (homes : List (Option Whole)) (scopes : Table) (tables : PlanTables) → own ≡ world
    → AreKeyed world nodes homes scopes
    → (AreKeyed own nodes homes scopes → AreTables own nodes documents pages tables)
    → AreTables world nodes documents pages tables
tables_here own world nodes documents pages homes scopes tables same keyed made =
    subst (λ (w : World). AreKeyed w nodes homes scopes → AreTables w nodes documents pages tables) same made keyed
