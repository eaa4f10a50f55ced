-- Which documents were asked for as a whole.
use Rattle.std.specs.Prelude.{ℕ, List, [], ◌∷◌, ◌++◌, IsTrue}
use Rattle.readers.specs.Documents.{documents_asked}
use Rattle.readers.specs.Founded.{is_among}
use Rattle.readers.specs.Told.{Told}

-- the documents that were asked for
abbrev pub asked_for : List Told → List (List ℕ)
asked_for [] = []
asked_for (t ∷ ts) = documents_asked t ++ asked_for ts

-- each of these documents was asked for
pub record AreAsked (told : List Told) (names : List (List ℕ)) : Type 0 where
  pub each : (m : List ℕ) → IsTrue (is_among names m) → IsTrue (is_among (asked_for told) m)
