-- What a party has in its turn: who shuts the gate has the book, and who opens it knows still the book that it took.
-- The book after an event of the core is the one with which the gate may be opened by the play of its answer.
use Rattle.std.proofs.Common.{◌≡◌, ℕ, [], ◌∷◌, Option, Some, refl, sym, ap, ◌∙◌, subst}
use Rattle.atomic_table.specs.Table.{Me}
use Rattle.dita_doc.specs.Request.{Request}
use Rattle.desk_core.specs.Book.{BookData, SnapshotData}
use Rattle.desk_core.specs.Steps.{with_asked, with_claim, with_published, with_released}
use Rattle.facts.specs.Latest.{Yours}
use Rattle.facts.specs.Rows.{Claim, Running}
use Rattle.facts.specs.Table.{next_claim, row_of}
use Rattle.facts.specs.declared.fact.Fact.{Fact}
use Rattle.dita_doc.specs.declared.fact.FactKey.{FactKey}
use Rattle.version_store.specs.Kept.{next_entry}
use Rattle.desk_lock.specs.Meaning.{Meaning}
use Rattle.desk_lock.specs.Steps.{Tries}
use Rattle.desk_lock.specs.GateTurn.{GateTurn, HasBook}
use Rattle.desk_lock.specs.declared.view.View.{View}
use Rattle.desk_lock.proofs.OpenLaws.{after_claim, after_entry, after_release, after_row}

module _ {B : Type 0} (shown : B → BookData) where
  -- who shuts the gate has the book
  pub has_book : (m n : Me (Option B) View) → Tries shown m 0 n → (book : B) × HasBook shown n book
  has_book m n tries = let found = tries.0 refl in (
    found.0,
    subst (λ (x : Me (Option B) View). HasBook shown x found.0) (sym found.1) (record { held = refl; slot = refl }),
  )

  -- who opens it knows still the book that it took, and has the one that it gives up
  pub turned : (means : Meaning) (shut out ready : Me (Option B) View) (turn : GateTurn shown means shut out ready)
      → (ready.0.held ≡ Some (shown turn.taken)) × (ready.1 ≡ (0, Some turn.back) ∷ [])
  turned means shut out ready turn = (
    ap (λ (x : Me (Option B) View). x.0.held)
        (turn.puts ∙ ap (λ (x : Me (Option B) View). (x.0, (0, Some turn.back) ∷ [])) turn.takes)
        ∙ turn.has.held,
    ap (λ (x : Me (Option B) View). x.1) turn.puts,
  )

-- The books after one event

pub after_asked : (session number : ℕ) (request : Request) (book : BookData)
    → with_asked session number request book ≡ after_entry book (next_entry session number request book.store)
after_asked session number request book = refl

pub after_drawn : (key : FactKey) (snapshot : SnapshotData) (claim : Claim) (book : BookData)
    → with_claim key snapshot (Yours claim) book
    ≡ after_claim book (next_claim book.table key snapshot.stamp snapshot.state)
after_drawn key snapshot claim book = refl

pub after_published : (claim : Running) (fact : Fact) (book : BookData)
    → with_published claim fact book ≡ after_row book claim.serial (row_of book.table claim fact)
after_published claim fact book = refl

pub after_released : (serial : ℕ) (book : BookData) → with_released serial book ≡ after_release book serial
after_released serial book = refl
