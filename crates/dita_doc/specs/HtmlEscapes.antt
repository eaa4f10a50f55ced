-- Characters of a text and of an attribute's value in HTML (HTML Living Standard, "Escaping a string").
use Rattle.std.specs.Prelude.{◌==◌, ℕ, List, [], ◌∷◌, if◌then◌else◌, codes}
use Rattle.std.specs.List.{flat_map}
use Rattle.dita_doc.specs.Bytes.{ampersand, less_than, greater_than, double_quote}

-- text escapes `&`, `<` and `>`
abbrev pub escaped_byte : ℕ → List ℕ
escaped_byte b =
    if b == ampersand then codes "&amp;" else if b == less_than then codes "&lt;" else if b == greater_than
    then codes "&gt;" else b ∷ []

abbrev pub escaped : List ℕ → List ℕ
escaped text = flat_map escaped_byte text

-- a value, which stands in double quotes, escapes `"` too
abbrev pub escaped_value_byte : ℕ → List ℕ
escaped_value_byte b = if b == double_quote then codes "&quot;" else escaped_byte b

abbrev pub escaped_value : List ℕ → List ℕ
escaped_value value = flat_map escaped_value_byte value
