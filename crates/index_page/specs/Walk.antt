-- The entries that a walk over nodes adds (own).
use Rattle.std.specs.Prelude.{ℕ, Bool, List, [], ◌∷◌, ◌++◌, filter, map, if◌then◌else◌}
use Rattle.std.specs.List.{list_all}
use Rattle.dita_doc.specs.declared.content.TermEntry.{TermEntry}
use Rattle.map_spec.specs.Written.{Element, Written}
use Rattle.html_spec.specs.Terms.{has_text, holds_term, is_apart, is_term, own_characters, paths_among, term_text}

-- each text of a path has characters
abbrev pub is_path : List (List ℕ) → Bool
is_path path = list_all has_text path

abbrev pub entry_at : ℕ → List (List ℕ) → TermEntry
entry_at page path = record { path = path; page = page }

-- the entries of paths
abbrev pub entries_at : ℕ → List (List (List ℕ)) → List TermEntry
entries_at page paths = map (entry_at page) (filter is_path paths)

-- those among nodes, within the terms around them
abbrev pub entries_among : ℕ → List (List ℕ) → Written → List TermEntry
entries_among page around nodes = entries_at page (paths_among around nodes)

-- the paths of one element
abbrev pub paths_of : List (List ℕ) → Element → Written → List (List (List ℕ))
paths_of around element inside =
    if is_term element
    then if holds_term inside then paths_among (around ++ term_text inside ∷ []) inside
    else (around ++ term_text inside ∷ []) ∷ []
    else paths_among around inside

-- the characters of one element
abbrev pub characters_of : Element → Written → List ℕ
characters_of element inside = if is_apart element then [] else own_characters inside
