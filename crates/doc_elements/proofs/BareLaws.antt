-- What elements hold does not depend on the documents in which it was written: the text of a first child.
use Rattle.std.specs.Prelude.{◌≡◌, ◌++◌, ℕ, Bool, true, false, List, [], Option, Some, None, option_map, unwrap_or, if◌then◌else◌}
use Rattle.std.specs.Option.{option_or}
use Rattle.std.proofs.Common.{refl, sym, ap, ◌∙◌}
use Rattle.std.proofs.lemmas.List.Folds.{find-append}
use Rattle.dita_doc.specs.PlainText.{folded}
use Rattle.doc_elements.proofs.ChildLaws.{siblings_side_by_side}
use Rattle.map_spec.specs.Elements.{first_child, is_a, is_transparent, is_whole, plain_text, text_of, without_transparent}
use Rattle.map_spec.specs.Written.{Element, Whole, Written, End, Chars, Node, characters, siblings}

abbrev pub bare_element : Element → Element
bare_element element = record element { doc = []; href_doc = [] }

-- nodes without the documents in which they were written
abbrev pub bare : Written → Written
bare End = End
bare (Chars text doc rest) = Chars text [] (bare rest)
bare (Node element inside rest) = Node (bare_element element) (bare inside) (bare rest)

abbrev pub text_held : Whole → List ℕ
text_held whole = plain_text whole.1

-- the text of the first child of a type
abbrev pub child_text : List ℕ → Written → Option (List ℕ)
child_text token nodes = option_map text_held (first_child token nodes)

abbrev of_first : Bool → Bool → Option (List ℕ) → List ℕ → Option (List ℕ) → Option (List ℕ)
of_first transparent is held text later =
    if transparent then option_or held later else if is then Some text else later

held_or : (one other : Option Whole)
    → option_map text_held (option_or one other) ≡ option_or (option_map text_held one) (option_map text_held other)
held_or None other = refl
held_or (Some one) other = refl

-- the first child is one in a transparent element, or the element itself, else one behind it
text_first : (token : List ℕ) (element : Element) (inside rest : Written) (transparent is : Bool)
    → is_transparent element ≡ transparent → is_a token element ≡ is
    → child_text token (Node element inside rest)
    ≡ of_first transparent is (child_text token inside) (plain_text inside) (child_text token rest)
text_first token element inside rest true is e a =
    rw (e, siblings_side_by_side (without_transparent inside) (without_transparent rest)) (
    ap (option_map text_held)
    (find-append (is_whole token) (siblings (without_transparent inside)) (siblings (without_transparent rest)))
    ∙ held_or (first_child token inside) (first_child token rest))
text_first token element inside rest false true e a = rw (e, a) refl
text_first token element inside rest false false e a = rw (e, a) refl

bare_characters : (nodes : Written) → characters (bare nodes) ≡ characters nodes
bare_characters End = refl
bare_characters (Chars text doc rest) = ap (λ more. text ++ more) (bare_characters rest)
bare_characters (Node element inside rest) =
    ap (λ held. held ++ characters (bare rest)) (bare_characters inside)
    ∙ ap (λ more. characters inside ++ more) (bare_characters rest)

bare_text : (token : List ℕ) (nodes : Written) → child_text token (bare nodes) ≡ child_text token nodes
bare_text token End = refl
bare_text token (Chars text doc rest) = bare_text token rest
bare_text token (Node element inside rest) =
    let transparent = is_transparent element in
    let is = is_a token element in
    text_first token (bare_element element) (bare inside) (bare rest) transparent is refl refl
    ∙ ap (λ held. of_first transparent is held (plain_text (bare inside)) (child_text token (bare rest)))
    (bare_text token inside)
    ∙ ap (λ all. of_first transparent is (child_text token inside) (folded all) (child_text token (bare rest)))
    (bare_characters inside)
    ∙ ap (of_first transparent is (child_text token inside) (plain_text inside)) (bare_text token rest)
    ∙ sym (text_first token element inside rest transparent is refl refl)

text_or : (whole : Option Whole) → unwrap_or (option_map text_held whole) [] ≡ text_of whole
text_or None = refl
text_or (Some whole) = refl

-- nodes that are the same when bare have the same texts
pub child_same : (token : List ℕ) (one other : Written) → bare one ≡ bare other
    → child_text token one ≡ child_text token other
child_same token one other same =
    sym (bare_text token one) ∙ ap (child_text token) same ∙ bare_text token other

pub text_same : (token : List ℕ) (one other : Written) → bare one ≡ bare other
    → text_of (first_child token one) ≡ text_of (first_child token other)
text_same token one other same =
    sym (text_or (first_child token one))
    ∙ ap (λ text. unwrap_or text []) (child_same token one other same)
    ∙ text_or (first_child token other)
