-- The tree that is built from what a tree says is that tree.
use Rattle.std.specs.Prelude.{◌≡◌, ◌++◌, ℕ, false, List, [], ◌∷◌}
use Rattle.std.proofs.Common.{refl, ◌∙◌, ap}
use Rattle.std.proofs.lemmas.List.{append-nil}
use Rattle.dita_doc.specs.declared.doc.Attribute.{Attribute}
use Rattle.dita_doc.specs.Tree.{Content, End, Chars, Element}
use Rattle.dita_doc.specs.PyxEvent.{Event, Open, Give, Text, Close, add_text}
use Rattle.dita_doc.specs.Pyx.{says, give_all, built, text_then, is_empty_line, begins_with_text, IsWritten}

-- a text that has been said is not followed by another
abbrev pub IsApart : List ℕ → Content → Type 0
IsApart [] c = Unit {0}
IsApart (b ∷ text) c = begins_with_text c ≡ false

-- attributes are gathered
built_given : (attributes given : List Attribute) (before : List Event) (around : List Content)
    → built (give_all attributes before) given around ≡ built before (attributes ++ given) around
built_given [] given before around = refl
built_given (attribute ∷ attributes) given before around =
    built_given attributes given (Give attribute.name attribute.value ∷ before) around

-- a written text is what `text_then` makes
pub text_kept : (text : List ℕ) (origin line : ℕ) (rest : Content) → is_empty_line text ≡ false → origin ≡ 0 → line ≡ 0
    → text_then text rest ≡ Chars text origin line rest
text_kept [] origin line rest some first second = absurd cc
text_kept (b ∷ text) origin line rest some first second = cc

-- any text stands apart from a content that begins with none
pub apart_from_false : (text : List ℕ) (c : Content) → begins_with_text c ≡ false → IsApart text c
apart_from_false [] c e = tt
apart_from_false (b ∷ text) c e = e

-- `built` undoes `says`
pub built_says : (c : Content) (text : List ℕ) (before : List Event) (around : List Content) → IsWritten c
    → IsApart text c → built (says text c before) [] (End ∷ around) ≡ built before [] (text_then text c ∷ around)
built_says End text before around written apart = refl
built_says (Chars more origin line rest) [] before around written apart =
    built_says rest more before around written.4 (apart_from_false more rest written.1)
    ∙ ap (λ (c : Content). built before [] (c ∷ around)) (text_kept more origin line rest written.0 written.2 written.3)
built_says (Chars more origin line rest) (b ∷ text) before around written apart = absurd cc
built_says (Element name attributes origin line inside rest) text before around written apart =
    let opened = give_all attributes (Open name line ∷ Text text ∷ before) in
    let last = built_says rest [] (Close name ∷ says [] inside opened) around written.2 tt in
    let within = built_says inside [] opened (rest ∷ around) written.1 tt in
    let given : built opened [] (inside ∷ rest ∷ around)
    ≡ built (Open name line ∷ Text text ∷ before) (attributes ++ []) (inside ∷ rest ∷ around) =
    built_given attributes [] (Open name line ∷ Text text ∷ before) (inside ∷ rest ∷ around) in
    let all : built (Open name line ∷ Text text ∷ before) (attributes ++ []) (inside ∷ rest ∷ around)
    ≡ built before [] (text_then text (Element name attributes origin line inside rest) ∷ around) =
    rw (append-nil attributes, written.0) in
    last ∙ (within ∙ (given ∙ all))

-- an empty text at the end adds nothing
pub built_add_nothing : (events : List Event) (c : Content) (around : List Content)
    → built (add_text [] events) [] (c ∷ around) ≡ built events [] (c ∷ around)
built_add_nothing [] c around = refl
built_add_nothing (Open name line ∷ before) c around = refl
built_add_nothing (Give name value ∷ before) c around = refl
built_add_nothing (Text text ∷ before) c around = rw append-nil
built_add_nothing (Close name ∷ before) c around = refl
