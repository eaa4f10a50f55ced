use Rattle.std.proofs.Common.{ap, map, refl, rules, tests, bytes_eq}
use Rattle.std.proofs.lemmas.Iterator.{YieldsList-from_slice}
use Rattle.std.proofs.lemmas.Iterator.Search.{find_from_yields_List}
use Rattle.std.specs.Slice.Iter.{iter_rest}
use Rattle.html_forms.specs.Shown.{FormRow, row_shown_of}
use Rattle.html_spec.specs.Blocks.{forms, is_form_of}
use Rattle.html_forms.proofs.FindLaws.{found_shown}
use Rattle.html_forms.proofs.rows.row_named.Goals as goal

-- the rows of the code are those of the definition, in its order
pub returns : goal.returns
returns c =
    let found = find_from_yields_List (λ (row : FormRow). bytes_eq row.0.now c.args.token.now) _ _ c.find.result
    c.find.ensures.ran (YieldsList-from_slice (iter_rest c.iter.result) refl) (λ x b q k. search (rules, tests)) in
    rw c.copied.ensures (found_shown row_shown_of (is_form_of c.args.token.now) (iter_rest c.iter.result) forms
    c.find.result (ap (map row_shown_of) c.iter.ensures.rest) found)
