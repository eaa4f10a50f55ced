-- The tables of a plan, put together.
use Rattle.std.proofs.Common.{◌≡◌, ◌++◌, ℕ, List, Option, Result, IfOk, map, subst}
use Rattle.dita_doc.specs.declared.plan.PagePlan.{PagePlan}
use Rattle.dita_doc.specs.declared.plan.PlanNode.{PlanNode}
use Rattle.dita_doc.specs.declared.stop.NoMemory.{NoMemory}
use Rattle.conref_push.specs.Aimed.{push_targets}
use Rattle.key_scopes.specs.Made.{IsTableOf}
use Rattle.key_scopes.specs.Table.{Table}
use Rattle.map_spec.specs.Cascade.{whole_at}
use Rattle.map_spec.specs.Written.{Whole}
use Rattle.plan_nodes.specs.Carried.{CarryScopes, CarryValues}
use Rattle.plan_reader.specs.Keyed.{AreKeyed}
use Rattle.plan_reader.specs.Tables.{AreTables}
use Rattle.plan_reader.specs.declared.tables.PlanTables.{PlanTables}
use Rattle.reader_spec.specs.World.{World}
use Rattle.readers.specs.Documents.{AsksOnly, nothing}
use Rattle.readers.specs.Founded.{Grows, StaysFounded}
use Rattle.readers.specs.Setting.{Stand}
use Rattle.readers.specs.Told.{Told}
use Rattle.readers.proofs.AmongLaws.{among_back, among_front}
use Rattle.readers.proofs.DocumentLaws.{asks_after, asks_among, covers_nothing, covers_same}
use Rattle.readers.proofs.FoundedLaws.{stays_after, stays_among}

pub are_keyed : (world : World) (nodes : List PlanNode) (homes : List (Option Whole)) (table : Table)
    → homes ≡ map (whole_at world) nodes → CarryValues world nodes → CarryScopes nodes → IsTableOf world nodes table
    → AreKeyed world nodes homes table
are_keyed world nodes homes table elements values scopes tabled =
    record { elements = elements; values = values; scopes = scopes; tabled = ∣ tabled ∣₁ }

-- a call about documents in which nodes stand, and one about the documents of the plan
module _ (nodes documents : List (List ℕ)) where
  pub stays_first : (old new : List Told) → StaysFounded nodes old new → StaysFounded (nodes ++ documents) old new
  stays_first old new = stays_among nodes (nodes ++ documents) old new (among_front nodes documents)

  pub stays_both : (all : List (List ℕ)) (old between new : List Told) → all ≡ documents → Grows old between
      → StaysFounded nodes old between → StaysFounded all between new → StaysFounded (nodes ++ documents) old new
  stays_both all old between new same grows before next =
      stays_after (nodes ++ documents) old between new grows (stays_first old between before)
      (stays_among documents (nodes ++ documents) between new (among_back nodes documents)
      (subst (λ names. StaysFounded names between new) same next))

  pub asks_first : (old new : List Told) → AsksOnly nothing nodes old new
      → AsksOnly push_targets (nodes ++ documents) old new
  asks_first old new = asks_among push_targets nothing nodes (nodes ++ documents) old new
      (covers_nothing push_targets) (among_front nodes documents)

  pub asks_both : (all : List (List ℕ)) (old between new : List Told) → all ≡ documents → Grows old between
      → AsksOnly nothing nodes old between → AsksOnly push_targets all between new
      → AsksOnly push_targets (nodes ++ documents) old new
  asks_both all old between new same grows before next =
      asks_after push_targets (nodes ++ documents) old between new grows (asks_first old between before)
      (asks_among push_targets push_targets documents (nodes ++ documents) between new (covers_same push_targets)
      (among_back nodes documents) (subst (λ names. AsksOnly push_targets names between new) same next))

-- the tables of a plan whose documents were read as a slice, by a reader that stands where it stood
pub tables_of : (before after : Stand) (nodes : List PlanNode) (documents all : List (List ℕ)) (pages : List PagePlan)
    (elements : List (Option Whole)) (scopes : Table) (result : Result PlanTables NoMemory) → after ≡ before
    → all ≡ documents → AreKeyed before.world nodes elements scopes
    → (AreKeyed after.world nodes elements scopes
    → IfOk result (λ tables. AreTables after.world nodes all pages tables))
    → IfOk result (λ tables. AreTables before.world nodes documents pages tables)
tables_of before after nodes documents all pages elements scopes result stood same keyed made =
    subst (λ ds. IfOk result (λ tables. AreTables before.world nodes ds pages tables)) same
    (subst (λ (s : Stand). AreKeyed s.world nodes elements scopes
    → IfOk result (λ tables. AreTables s.world nodes all pages tables)) stood made keyed)
