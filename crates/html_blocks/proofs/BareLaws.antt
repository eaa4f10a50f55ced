-- Neither the text nor the columns of what elements hold depend on the documents in which it was written.
use Rattle.std.specs.Prelude.{◌≡◌, ◌++◌, ℕ, Bool, true, false, List, [], ◌∷◌, Option, codes}
use Rattle.std.proofs.Common.{refl, sym, ap, ◌∙◌}
use Rattle.dita_doc.specs.Tree as tree
use Rattle.dita_doc.specs.Tree.{Content}
use Rattle.doc_elements.proofs.BareLaws.{bare, bare_element, text_same}
use Rattle.html_tables.proofs.ColumnLaws.{names_column, names_inside, names_other}
use Rattle.map_spec.specs.Elements.{attribute, first_child, is_a, is_transparent, text_of}
use Rattle.map_spec.specs.Written.{Element, Whole, Written, End, Chars, Node, written_in}
use Rattle.html_spec.specs.Tables.{column_names}
use Rattle.readers.specs.Named.{under_names}

-- Columns

columns_by : (element : Element) (inside rest : Written) (transparent is : Bool) → transparent ≡ is_transparent element
    → is ≡ is_a (codes "topic/colspec") element → column_names (bare inside) ≡ column_names inside
    → column_names (bare rest) ≡ column_names rest
    → column_names (bare (Node element inside rest)) ≡ column_names (Node element inside rest)
columns_by element inside rest true is e a within behind =
    names_inside _ (bare_element element) (bare inside) (bare rest) refl e
    ∙ ap (λ names. names ++ column_names (bare rest)) within
    ∙ ap (λ names. column_names inside ++ names) behind
    ∙ sym (names_inside _ element inside rest refl e)
columns_by element inside rest false true e a within behind =
    names_column _ (bare_element element) (bare inside) (bare rest) refl e a
    ∙ ap (λ names. attribute (codes "colname") element ∷ names) behind
    ∙ sym (names_column _ element inside rest refl e a)
columns_by element inside rest false false e a within behind =
    names_other _ (bare_element element) (bare inside) (bare rest) refl e a
    ∙ behind
    ∙ sym (names_other _ element inside rest refl e a)

bare_columns : (nodes : Written) → column_names (bare nodes) ≡ column_names nodes
bare_columns End = refl
bare_columns (Chars text doc rest) = bare_columns rest
bare_columns (Node element inside rest) = columns_by element inside rest (is_transparent element)
    (is_a (codes "topic/colspec") element) refl refl (bare_columns inside) (bare_columns rest)

pub columns_same : (one other : Written) → bare one ≡ bare other → column_names one ≡ column_names other
columns_same one other same = sym (bare_columns one) ∙ ap column_names same ∙ bare_columns other

-- Documents

bare_named : (names : List (List ℕ)) (name : List ℕ) (c : Content)
    → bare (written_in name c) ≡ bare (under_names names c)
bare_named names name tree.End = refl
bare_named names name (tree.Chars text origin line rest) = ap (Chars text []) (bare_named names name rest)
bare_named names name (tree.Element own attributes origin line inside rest) =
    let element : Element = record { name = own; attributes = attributes; doc = []; line = line; href_doc = [] } in
    ap (λ held. Node element held (bare (written_in name rest))) (bare_named names name inside)
    ∙ ap (Node element (bare (under_names names inside))) (bare_named names name rest)

-- the text of the first child that was found
pub child_found : (token : List ℕ) (names : List (List ℕ)) (name : List ℕ) (c : Content) (found : Option Whole)
    → found ≡ first_child token (written_in name c) → text_of found ≡ text_of (first_child token (under_names names c))
child_found token names name c found is =
    ap text_of is ∙ text_same token (written_in name c) (under_names names c) (bare_named names name c)
