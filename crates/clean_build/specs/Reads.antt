-- Which documents a part of a build reads as a whole (own): by a rule, which may speak of a world.
use Rattle.std.specs.Prelude.{ℕ, List}
use Rattle.std.specs.List.{AllByRecursion}
use Rattle.conref_targets.specs.PageAsking.{MayRead, page_at}
use Rattle.dita_doc.specs.declared.plan.Context.{Context}
use Rattle.reader_spec.specs.World.{World}
use Rattle.readers.specs.Documents.{documents_asked}
use Rattle.readers.specs.Setting.{Setting}
use Rattle.readers.specs.Told.{Told}

-- each document that was asked for as a whole may be read
abbrev pub AllRead : (List ℕ → Type 0) → List Told → Type 0
AllRead may told = AllByRecursion (λ (t : Told). AllByRecursion may (documents_asked t)) told

-- what a call does that asks for such documents alone: if each one before might be read, so might each one after
pub record ReadsOnly (may : List ℕ → Type 0) (old new : List Told) : Type 0 where
  pub each : AllRead may old → ∥ AllRead may new ∥₁

-- it is a document of the page of a context, or one of its DITAVALs
abbrev pub MayReadFor : World → Setting → Context → List ℕ → Type 0
MayReadFor world setting context = MayRead (page_at world setting context.val context.page)
