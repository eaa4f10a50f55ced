-- The forms of elements, as the code has them.
use Rattle.std.specs.Prelude.{◌≡◌, ℕ, Bool, false, List, Option, Some, None, option_map}
use Rattle.std.specs.Option.{option_map_or}
use Rattle.std.proofs.Common.{refl, sym, ap, ◌∙◌}
use Rattle.html_forms.specs.Shown.{form_found, form_shown_of}
use Rattle.html_forms.specs.declared.forms.Form.{Form}
use Rattle.html_forms.specs.declared.forms.Form.TheVariants as forms
use Rattle.html_spec.specs.Anchors.{is_reference_form, shows_href}
use Rattle.html_spec.specs.Blocks as blocks

abbrev Row : Type 0
Row = List ℕ × blocks.Form

-- an element that has a form passes as the form does
pub form_some : (test : blocks.Form → Bool) (found : Option Form) (form : Form) (row : Option Row) (is : Bool)
    → found ≡ Some form → is ≡ test (form_shown_of form)
    → form_found found ≡ option_map (λ (r : Row). r.1) row
    → is ≡ option_map_or (λ (r : Row). test r.1) row false
form_some test found form None is some passes shown =
    let none : Some (form_shown_of form) ≡ None = sym (ap form_found some) ∙ shown in cc
form_some test found form (Some row) is some passes shown =
    let same : Some (form_shown_of form) ≡ Some row.1 = sym (ap form_found some) ∙ shown in
    let one : form_shown_of form ≡ row.1 = cc in
    passes ∙ ap test one

-- one without a form passes no test
pub form_none : (test : blocks.Form → Bool) (found : Option Form) (row : Option Row) → found ≡ None
    → form_found found ≡ option_map (λ (r : Row). r.1) row
    → false ≡ option_map_or (λ (r : Row). test r.1) row false
form_none test found None none shown = refl
form_none test found (Some row) none shown =
    let some : None ≡ Some row.1 = sym (ap form_found none) ∙ shown in cc

pub no_reference : (form : Form) → (form ≡ forms.Reference → ⊥) → false ≡ is_reference_form (form_shown_of form)
no_reference (forms.Tag name class) other = refl
no_reference forms.Topic other = refl
no_reference forms.Title other = refl
no_reference forms.Note other = refl
no_reference forms.Reference other = absurd (other refl)
no_reference forms.Image other = refl
no_reference forms.Cell other = refl
no_reference forms.SimpleCell other = refl
no_reference forms.Left other = refl
no_reference forms.Foreign other = refl

pub not_shown : (form : Form) → (form ≡ forms.Image → ⊥) → (form ≡ forms.Reference → ⊥)
    → false ≡ shows_href (form_shown_of form)
not_shown (forms.Tag name class) image other = refl
not_shown forms.Topic image other = refl
not_shown forms.Title image other = refl
not_shown forms.Note image other = refl
not_shown forms.Reference image other = absurd (other refl)
not_shown forms.Image image other = absurd (image refl)
not_shown forms.Cell image other = refl
not_shown forms.SimpleCell image other = refl
not_shown forms.Left image other = refl
not_shown forms.Foreign image other = refl
