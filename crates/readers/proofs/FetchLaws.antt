-- Which documents are asked for by notes that are written over, and by notes that were perhaps put, on top of what was
-- told before.
use Rattle.std.proofs.Common.{◌≡◌, ℕ, List, ◌∷◌, ◌⊎◌, drop, ap, ◌∙◌}
use Rattle.std.proofs.Math.Logic.{⊎_elim}
use Rattle.readers.specs.Documents.{AsksOnly, Follows, documents_asked}
use Rattle.readers.specs.Noted.{told_of, told_onto}
use Rattle.readers.specs.Setting.{Setting}
use Rattle.readers.specs.Told.{Told}
use Rattle.readers.specs.declared.questions.Note.{Note}
use Rattle.readers.proofs.DocumentLaws.{asks_kept, asks_put}

module _ (setting : Setting) (start : List Told) where
  -- the question that was put is written over by one that asks for these documents
  pub asks_settled : (follows : Follows) (put note : Note) (names : List (List ℕ)) (old between new : List Note)
      → documents_asked (told_of setting note) ≡ names → between ≡ put ∷ old → new ≡ note ∷ drop 1 between
      → AsksOnly follows names (told_onto setting start old) (told_onto setting start new)
  asks_settled follows put note names old between new asked was is =
      asks_put setting start follows note names old new asked (is ∙ ap (λ notes. note ∷ drop 1 notes) was)

  -- a question that asks for these documents was put or not
  pub asks_tried : (follows : Follows) (note : Note) (names : List (List ℕ)) (old new : List Note)
      → documents_asked (told_of setting note) ≡ names → (new ≡ old) ⊎ (new ≡ note ∷ old)
      → AsksOnly follows names (told_onto setting start old) (told_onto setting start new)
  asks_tried follows note names old new asked either = ⊎_elim (asks_kept setting start follows names old new)
      (asks_put setting start follows note names old new asked) either

-- what closes most claims on the documents that are asked for by a reader above another
pub ruleset settling = (asks_kept, asks_put, asks_settled, asks_tried)
