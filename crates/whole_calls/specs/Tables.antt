-- The tables of a plan (own), as they are known by what was told.
use Rattle.std.specs.Prelude.{List}
use Rattle.conref_push.specs.Table.{IsPushTable}
use Rattle.dita_doc.specs.declared.plan.Plan.{Plan}
use Rattle.key_layer.specs.Ready.{AreReady}
use Rattle.key_scopes.specs.Made.{IsTableOf}
use Rattle.page_table.specs.Pages.{IsPageTable}
use Rattle.plan_layer.specs.Carried.{WereAllowed}
use Rattle.readers.specs.Told.{Told, Knows}
use Rattle.whole_calls.specs.declared.build_tables.BuildTables.{BuildTables}

-- they are those of this plan in each world that agrees with what was told, and its documents were asked for
pub record AreTables (told : List Told) (plan : Plan) (tables : BuildTables) : Type 0 where
  pub ready : AreReady told plan.nodes tables.homes
  pub scoped : Knows told (λ world. ∥ IsTableOf world plan.nodes tables.scopes ∥₁)
  pub pushed : Knows told (λ world. IsPushTable world plan.documents tables.pushes)
  pub paged : IsPageTable plan.pages tables.pages
  pub given : WereAllowed told plan.documents
