-- What a reader with notes tells is so in its world.
use Rattle.std.proofs.Common.{◌≡◌, [], ◌∷◌, ◌⊎◌, ℕ, List, ap, sym, subst}
use Rattle.std.proofs.Math.Logic.{⊎_elim}
use Rattle.dita_doc.specs.declared.plan.PagePlan.{PagePlan}
use Rattle.dita_doc.specs.declared.plan.PlanNode.{PlanNode}
use Rattle.plan_reader.specs.Tables.{AreTables}
use Rattle.plan_reader.specs.declared.tables.PlanTables.{PlanTables}
use Rattle.pushed_docs.specs.Made.{AreKept}
use Rattle.pushed_docs.specs.declared.docs.PushedDocs.{PushedDocs}
use Rattle.reader_spec.specs.World.{World}
use Rattle.readers.specs.Noted.{told_of, told_onto}
use Rattle.readers.specs.Setting.{Setting, Stand}
use Rattle.readers.specs.Told.{Told, Agrees, Holds}
use Rattle.readers.specs.declared.questions.Note.{Note}

-- a question was put with its answer, if there was memory, and the world stayed
pub agrees_put : (setting : Setting) (start : List Told) (t : Told) (world world' : World) (note : Note)
    (old new : List Note) → world' ≡ world → Agrees world (told_onto setting start old) → told_of setting note ≡ t
    → (new ≡ old) ⊎ (new ≡ note ∷ old) → Holds world t → Agrees world' (told_onto setting start new)
agrees_put setting start t world world' note old new same agrees tells either holds =
    subst (λ w. Agrees w (told_onto setting start new)) (sym same) (⊎_elim
    (λ is. subst (λ notes. Agrees world (told_onto setting start notes)) (sym is) agrees)
    (λ is. subst (λ notes. Agrees world (told_onto setting start notes)) (sym is)
    (subst (Holds world) (sym tells) holds, agrees)) either)

abbrev stand_on : World → Setting → Stand
stand_on world setting = record { world = world; setting = setting; lent = [] }

-- what holds in a world holds in one that is the same
module _ (world world' : World) (same : world' ≡ world) where
  pub agrees_there : (ts : List Told) → Agrees world ts → Agrees world' ts
  agrees_there ts = subst (λ w. Agrees w ts) (sym same)

  pub tables_there : (nodes : List PlanNode) (documents : List (List ℕ)) (pages : List PagePlan) (tables : PlanTables)
      → AreTables world nodes documents pages tables → AreTables world' nodes documents pages tables
  tables_there nodes documents pages tables = subst (λ w. AreTables w nodes documents pages tables) (sym same)

  pub kept_there : (documents : List (List ℕ)) (docs : PushedDocs) → AreKept world documents docs
      → AreKept world' documents docs
  kept_there documents docs = subst (λ w. AreKept w documents docs) (sym same)

  pub stand_there : (setting : Setting) → stand_on world' setting ≡ stand_on world setting
  stand_there setting = ap (λ w. stand_on w setting) same
