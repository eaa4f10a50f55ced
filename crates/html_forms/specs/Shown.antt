-- The rows of the table as the definition of a page has them.
use Rattle.std.specs.Prelude.{ℕ, List, Option, option_map}
use Rattle.std.specs.Borrow.{Bor}
use Rattle.std.specs.List.{filter_map}
use Rattle.html_forms.specs.declared.forms.Form.{Form}
use Rattle.html_forms.specs.declared.forms.Form.TheVariants as forms
use Rattle.html_spec.specs.Blocks as blocks
use Rattle.html_spec.specs.Blocks.{last_of, row_of}

abbrev pub form_shown_of : Form → blocks.Form
form_shown_of (forms.Tag name class) = blocks.Tag name.now class.now
form_shown_of forms.Topic = blocks.Topic
form_shown_of forms.Title = blocks.Title
form_shown_of forms.Note = blocks.Note
form_shown_of forms.Reference = blocks.Reference
form_shown_of forms.Image = blocks.Image
form_shown_of forms.Cell = blocks.Cell
form_shown_of forms.SimpleCell = blocks.SimpleCell
form_shown_of forms.Left = blocks.Left
form_shown_of forms.Foreign = blocks.Foreign

-- a token with its form
abbrev pub FormRow : Type 0
FormRow = Bor (List ℕ) × Form

abbrev pub row_shown_of : FormRow → List ℕ × blocks.Form
row_shown_of row = (row.0.now, form_shown_of row.1)

abbrev pub row_found : Option FormRow → Option (List ℕ × blocks.Form)
row_found row = option_map row_shown_of row

abbrev pub form_found : Option Form → Option blocks.Form
form_found form = option_map form_shown_of form

-- the last of some tokens that the table has
abbrev pub row_among : List (List ℕ) → Option (List ℕ × blocks.Form)
row_among tokens = last_of (filter_map row_of tokens)
