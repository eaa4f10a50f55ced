-- Questions in the order in which they were put (own): each is about names that are known by then, and its answer makes
-- more names known.
use Rattle.std.specs.Prelude.{◌++◌, ℕ, List, [], ◌∷◌}
use Rattle.std.specs.List.{flat_map}
use Rattle.dita_doc.specs.declared.question.Asked.{Asked}
use Rattle.dita_doc.specs.declared.question.Question.{Question}
use Rattle.readers.specs.Founded.{AreAmong}

-- each question is about names that are known once the answers before it have given theirs
abbrev pub InOrder : (Question → List (List ℕ)) → (Asked → List (List ℕ)) → List (List ℕ) → List Asked → Type 0
InOrder about gives known [] = Unit {0}
InOrder about gives known (one ∷ more) = AreAmong (about one.question) known
    × InOrder about gives (known ++ gives one) more

-- what answers give, all together
abbrev pub given_by : (Asked → List (List ℕ)) → List Asked → List (List ℕ)
given_by gives asked = flat_map gives asked
