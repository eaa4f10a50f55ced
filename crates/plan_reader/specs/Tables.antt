-- What the parts of a plan are made by over some sources (own): the tables of the plan, and what goes on from one part
-- to the next.
use Rattle.std.specs.Prelude.{ℕ, List}
use Rattle.std.proofs.Props.{props}
use Rattle.conref_push.specs.Table.{IsPushTable, IsPushTable-prop}
use Rattle.dita_doc.specs.declared.plan.PagePlan.{PagePlan}
use Rattle.dita_doc.specs.declared.plan.PlanNode.{PlanNode}
use Rattle.page_table.specs.Pages.{IsPageTable, IsPageTable-prop}
use Rattle.plan_reader.specs.Keyed.{AreKeyed, AreKeyed-prop}
use Rattle.plan_reader.specs.declared.cache.PlanCache.{PlanCache}
use Rattle.plan_reader.specs.declared.tables.PlanTables.{PlanTables}
use Rattle.pushed_docs.specs.Made.{AreKept}
use Rattle.reader_spec.specs.World.{World}
use Rattle.readers.specs.Titled.{AreTitles}

-- the tables of these nodes, documents and pages in a world
pub record AreTables (world : World) (nodes : List PlanNode) (documents : List (List ℕ)) (pages : List PagePlan)
    (tables : PlanTables) : Type 0 where
  pub keyed : AreKeyed world nodes tables.homes tables.scopes
  pub pushed : IsPushTable world documents tables.pushes
  pub paged : IsPageTable pages tables.pages

-- the titles and the documents with their pushes are those of a world
pub record GoesOn (world : World) (documents : List (List ℕ)) (cache : PlanCache) : Type 0 where
  pub titles : AreTitles world cache.titles
  pub kept : AreKept world documents cache.docs

-- there is one proof of this at most
pub AreTables-prop : (world : World) (nodes : List PlanNode) (documents : List (List ℕ)) (pages : List PagePlan)
    (tables : PlanTables) → IsProp (AreTables world nodes documents pages tables)
AreTables-prop world nodes documents pages tables = hlevel (props, AreKeyed-prop, IsPushTable-prop, IsPageTable-prop)
