-- The names that a build reaches in what is stored (own; DITA 1.3, "URI-based (direct) addressing"): its map and its
-- DITAVAL, and each name that the value of an `href`, a `conref` or a `conrefend` of an element of a stored reached
-- document is joined to.
use Rattle.std.specs.Prelude.{ℕ, List, ◌∷◌, Option, Contains}
use Rattle.std.specs.Option.{option_to_list}
use Rattle.map_spec.specs.Written.{document}
use Rattle.reader_spec.specs.World.{World}
use Rattle.readers.specs.Named.{names_of_found}

-- the names from which a build starts
abbrev pub names_started : List ℕ → Option (List ℕ) → List (List ℕ)
names_started root val = root ∷ option_to_list val

-- the names that the document under a name gives: none if it is not stored
abbrev pub names_given : World → List ℕ → List (List ℕ)
names_given world name = names_of_found (document world name)

pub data IsReached (world : World) (root : List ℕ) (val : Option (List ℕ)) : List ℕ → Type 0 where
  Started : (name : List ℕ) → Contains (names_started root val) name → IsReached world root val name
  Given : (from name : List ℕ) → IsReached world root val from → Contains (names_given world from) name
      → IsReached world root val name
