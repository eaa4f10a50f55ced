-- Which documents the parts of a build ask for as a whole: those of the content of a page.
use Rattle.std.specs.Prelude.{ℕ, List, [], ◌∷◌}
use Rattle.conref_targets.specs.Asking.{of_content}
use Rattle.readers.specs.Documents.{AsksOnly, nothing}
use Rattle.readers.specs.Founded.{Grows}
use Rattle.readers.specs.Told.{Told}
use Rattle.readers.proofs.DocumentLaws.{asks_after, asks_none, asks_one}
use Rattle.readers.proofs.FoundedLaws.{among_first}

-- what is asked next asks for no document
pub asks_behind : (names : List (List ℕ)) (a b c : List Told) → Grows a b → AsksOnly of_content names a b
    → AsksOnly nothing [] b c → AsksOnly of_content names a c
asks_behind names a b c grows content more =
    asks_after of_content names a b c grows content (asks_none of_content names b c more)

pub asks_first : (name : List ℕ) (more : List (List ℕ)) (old new : List Told) → AsksOnly nothing (name ∷ []) old new
    → AsksOnly of_content (name ∷ more) old new
asks_first name more old new = asks_one of_content name (name ∷ more) old new (among_first name more)

-- the page itself is asked for, and then what its content is made of
pub asks_page : (name : List ℕ) (more : List (List ℕ)) (a b c : List Told) → Grows a b
    → AsksOnly nothing (name ∷ []) a b → AsksOnly of_content (name ∷ more) b c → AsksOnly of_content (name ∷ more) a c
asks_page name more a b c grows doc =
    asks_after of_content (name ∷ more) a b c grows (asks_first name more a b doc)
