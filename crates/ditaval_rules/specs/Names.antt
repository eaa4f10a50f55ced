-- Names, taken one after another, each once (own).
use Rattle.std.specs.Prelude.{◌≡◌, ◌&&◌, ℕ, Bool, false, not, List, [], ◌∷◌, ◌++◌, Option, None, Some, is_some, bytes_eq, if◌then◌else◌}
use Rattle.std.specs.List.{list_any, last_or}
use Rattle.std.specs.Option.{option_map_or, option_to_list}
use Rattle.std.specs.Ordering.{nat_cmp}
use Rattle.std.specs.Cmp.Lexicographic.{slice_cmp}
use Rattle.std.specs.Borrow.{Bor}
use Rattle.std.specs.BTreeSet.{contains}
use Rattle.std.specs.declared.cmp.Ordering.{Ordering}
use Rattle.dita_doc.specs.ClassValue.{words_of}
use Rattle.dita_doc.specs.PlainText.{is_blank_byte}
use Rattle.ditaval_rules.specs.Domains.{is_new, name_in, opened}
use Rattle.ditaval_rules.specs.declared.domains.Names.{Names}

abbrev pub text_order : Bor (List ℕ) → Bor (List ℕ) → Ordering
text_order one other = slice_cmp nat_cmp one.now other.now

-- the set has just the names of the list
abbrev pub AreNames : Names → Type 0
AreNames names = (key : Bor (List ℕ)) → contains text_order names.seen key ≡ list_any (bytes_eq key.now) names.list

-- with one name more, unless it is there, or conditional in every document
abbrev pub with_name : List (List ℕ) → List ℕ → List (List ℕ)
with_name names name = if is_new name && not (list_any (bytes_eq name) names) then names ++ name ∷ [] else names

abbrev pub with_last : List (List ℕ) → Option (List ℕ) → List (List ℕ)
with_last names None = names
with_last names (Some name) = with_name names name

-- the pieces that end with a text
abbrev pub ends_of : Bool → List ℕ → List (List ℕ)
ends_of may_begin [] = []
ends_of may_begin (b ∷ text) =
    (if may_begin then option_to_list (opened (b ∷ text)) else []) ++ ends_of (is_blank_byte b) text

abbrev pub is_declaration : List ℕ → Bool
is_declaration piece = is_some (name_in piece)

abbrev pub begins_declaration : List ℕ → Bool
begins_declaration text = option_map_or is_declaration (opened text) false

abbrev pub last_word : List ℕ → Option (List ℕ)
last_word text = last_or None (words_of text)
