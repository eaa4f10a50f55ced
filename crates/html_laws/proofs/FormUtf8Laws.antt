-- The names and classes that the table of forms gives are UTF-8.
use Rattle.std.specs.Prelude.{◌≡◌, ◌&&◌, ℕ, Bool, true, List, [], ◌∷◌, IfSome}
use Rattle.std.specs.List.{AllByRecursion, list_all}
use Rattle.std.specs.Str.{IsUtf8}
use Rattle.std.proofs.Common.{refl}
use Rattle.std.proofs.lemmas.Bool.{and_parts}
use Rattle.map_spec.specs.Written.{Element}
use Rattle.html_spec.specs.Blocks.{Form, Tag, Topic, Title, Note, Reference, Image, Cell, SimpleCell, Left, Foreign, forms, row_for}
use Rattle.html_laws.proofs.FormLaws.{each_passes, row_holds}
use Rattle.html_laws.proofs.TextUtf8Laws.{is_low, utf8_codes}

abbrev pub IsUtf8Form : Form → Type 0
IsUtf8Form (Tag name class) = IsUtf8 name × IsUtf8 class
IsUtf8Form Topic = Unit {0}
IsUtf8Form Title = Unit {0}
IsUtf8Form Note = Unit {0}
IsUtf8Form Reference = Unit {0}
IsUtf8Form Image = Unit {0}
IsUtf8Form Cell = Unit {0}
IsUtf8Form SimpleCell = Unit {0}
IsUtf8Form Left = Unit {0}
IsUtf8Form Foreign = Unit {0}

abbrev pub IsUtf8Row : List ℕ × Form → Type 0
IsUtf8Row row = IsUtf8Form row.1

is_low_form : Form → Bool
is_low_form (Tag name class) = list_all is_low name && list_all is_low class
is_low_form Topic = true
is_low_form Title = true
is_low_form Note = true
is_low_form Reference = true
is_low_form Image = true
is_low_form Cell = true
is_low_form SimpleCell = true
is_low_form Left = true
is_low_form Foreign = true

low_form : (form : Form) → is_low_form form ≡ true → IsUtf8Form form
unfolding is_low_form
low_form (Tag name class) low =
    let parts = and_parts (list_all is_low name) (list_all is_low class) low in
    (utf8_codes name parts.0, utf8_codes class parts.1)
low_form Topic low = tt
low_form Title low = tt
low_form Note low = tt
low_form Reference low = tt
low_form Image low = tt
low_form Cell low = tt
low_form SimpleCell low = tt
low_form Left low = tt
low_form Foreign low = tt

abbrev is_low_row : List ℕ × Form → Bool
is_low_row row = is_low_form row.1

forms_low : list_all is_low_row forms ≡ true
unfolding is_low_form
forms_low = refl

rows_utf8 : (rows : List (List ℕ × Form)) → AllByRecursion (λ row. is_low_row row ≡ true) rows
    → AllByRecursion IsUtf8Row rows
rows_utf8 [] all = tt
rows_utf8 (row ∷ rows) all = (low_form row.1 all.0, rows_utf8 rows all.1)

pub row_utf8 : (element : Element) → IfSome (row_for element) IsUtf8Row
row_utf8 element = row_holds IsUtf8Row element (rows_utf8 forms (each_passes is_low_row forms forms_low))
