-- The conditional attributes that a document type declares (DITA 1.3, "The @domains attribute", "Specializing to include new
-- attributes"): `a(props NAME)` in the value of `domains` declares the attribute of this name. Which pieces of a value
-- count, and that the last token is the name, are our own.
use Rattle.std.specs.Prelude.{◌+◌, ◌-◌, ◌==◌, ℕ, Bool, true, not, List, [], ◌∷◌, ◌++◌, Option, Some, None, filter, nat_lt, option_map, codes, bytes_eq, if◌then◌else◌}
use Rattle.std.specs.List.{filter_map, last_or}
use Rattle.std.specs.Option.{option_and_then, option_map_or, option_to_list}
use Rattle.dita_doc.specs.Bytes.{close_parenthesis}
use Rattle.dita_doc.specs.ClassValue.{value_of, words_of}
use Rattle.dita_doc.specs.PlainText.{is_blank_byte}
use Rattle.dita_doc.specs.Tree.{Content, End, Chars, Element, size_of}
use Rattle.dita_doc.specs.declared.doc.Attribute.{Attribute}
use Rattle.ditaval_rules.specs.Verdict.{is_conditional}

-- The pieces of a value: each begins behind `a(`, if this stands at the start of the value or behind a blank, and ends at the
-- next `)`. Two pieces can have one end; one without an end is none

-- what stands in front of the first `)`
abbrev pub closed : List ℕ → Option (List ℕ)
closed [] = None
closed (b ∷ rest) = if b == close_parenthesis then Some [] else option_map (λ text. b ∷ text) (closed rest)

-- what stands behind `a(`
abbrev pub opened : List ℕ → Option (List ℕ)
opened [] = None
opened (a ∷ []) = None
opened (a ∷ b ∷ rest) = if bytes_eq (a ∷ b ∷ []) (codes "a(") then Some rest else None

abbrev pub piece_at : Bool → List ℕ → List (List ℕ)
piece_at may_begin value = if may_begin then option_to_list (option_and_then closed (opened value)) else []

abbrev pub pieces_from : Bool → List ℕ → List (List ℕ)
pieces_from may_begin [] = []
pieces_from may_begin (b ∷ rest) = piece_at may_begin (b ∷ rest) ++ pieces_from (is_blank_byte b) rest

abbrev pub pieces_of : List ℕ → List (List ℕ)
pieces_of value = pieces_from true value

-- The names that a value declares

-- behind `props` the last token is a name
abbrev pub name_among : List (List ℕ) → Option (List ℕ)
name_among [] = None
name_among (first ∷ more) = if bytes_eq first (codes "props") then last_or None more else None

abbrev pub name_in : List ℕ → Option (List ℕ)
name_in piece = name_among (words_of piece)

abbrev pub is_new : List ℕ → Bool
is_new name = not (is_conditional name)

abbrev pub first_of_each : List (List ℕ) → List (List ℕ)
first_of_each [] = []
first_of_each (name ∷ names) = name ∷ filter (λ other. not (bytes_eq name other)) (first_of_each names)

-- in order, each once, without those that are conditional in every document
abbrev pub names_declared : List ℕ → List (List ℕ)
names_declared value = first_of_each (filter is_new (filter_map name_in (pieces_of value)))

-- Where they count: an element has those of its own value, or else those of the nearest element around it that has one

abbrev pub declared_by : List (List ℕ) → List Attribute → List (List ℕ)
declared_by around attributes = option_map_or names_declared (value_of (codes "domains") attributes) around

-- the names declared for the element at a place, counted from the first of these nodes; `around` are those declared around
-- them
abbrev pub declared_at : List (List ℕ) → Content → ℕ → List (List ℕ)
declared_at around End place = around
declared_at around (Chars text origin line rest) place =
    if place == 0 then around else declared_at around rest (place - 1)
declared_at around (Element name attributes origin line inside rest) place =
    if place == 0 then declared_by around attributes
    else if nat_lt (size_of inside) place then declared_at around rest (place - (1 + size_of inside))
    else declared_at (declared_by around attributes) inside (place - 1)

-- and those declared around the node at a place
abbrev pub declared_around : List (List ℕ) → Content → ℕ → List (List ℕ)
declared_around around End place = around
declared_around around (Chars text origin line rest) place =
    if place == 0 then around else declared_around around rest (place - 1)
declared_around around (Element name attributes origin line inside rest) place =
    if place == 0 then around
    else if nat_lt (size_of inside) place then declared_around around rest (place - (1 + size_of inside))
    else declared_around (declared_by around attributes) inside (place - 1)
