-- What an outlet takes, if it tells its pages: names and bytes, in order.
use Rattle.std.specs.Prelude.{◌≡◌, List, [], ◌∷◌, ◌++◌, Option, Some, None, Result, Ok, Err, ⊤}
use Rattle.dita_doc.specs.Bytes.{Bytes}

abbrev pub Pages : Type 0
Pages = List (Bytes × Bytes)

-- the outlet took these pages more
abbrev pub TakesPages : Option Pages → Option Pages → Pages → Type 0
TakesPages None new pages = ⊤
TakesPages (Some old) None pages = ⊥
TakesPages (Some old) (Some new) pages = new ≡ old ++ pages

-- it took the first of these pages more, perhaps none and perhaps all
abbrev pub TakesPagesFront : Option Pages → Option Pages → Pages → Type 0
TakesPagesFront old new pages = (front back : Pages) × (pages ≡ front ++ back) × TakesPages old new front

-- one page was put: with Ok it was taken, and with any other answer it was not
abbrev pub PutsPage : {E : Type 0} → Option Pages → Option Pages → Result (Unit {0}) E → Bytes × Bytes → Type 0
PutsPage old new (Ok done) page = TakesPages old new (page ∷ [])
PutsPage old new (Err stop) page = TakesPages old new []

-- pages were put in order: with Ok all were taken, and with any other answer the first of them
abbrev pub PutsPages : {A E : Type 0} → Option Pages → Option Pages → Result A E → Pages → Type 0
PutsPages old new (Ok answer) pages = TakesPages old new pages
PutsPages old new (Err stop) pages = TakesPagesFront old new pages
