-- Nodes beside nodes are nodes, and a tag around nodes is one.
use Rattle.std.specs.Prelude.{◌≡◌, ℕ, true, List, [], ◌∷◌, ◌++◌, codes}
use Rattle.std.specs.List.{flat_map, list_all}
use Rattle.std.proofs.Common.{refl, sym, ap, ◌∙◌, append_assoc, append-nil}
use Rattle.std.proofs.lemmas.Bool.{and_from, and_parts}
use Rattle.std.proofs.lemmas.List.Concat.{flat_map-append}
use Rattle.std.proofs.lemmas.List.Folds.{list_all-append}
use Rattle.dita_doc.specs.HtmlEscapes.{escaped, escaped_value}
use Rattle.html_laws.specs.Markup.{Piece, Nodes, NoNodes, Text, Void, Element, Attribute, AreNodes, IsMarkup, attribute_bytes, attribute_names, element_names, end_bytes, is_among, is_attribute, is_text_piece, nodes_bytes, piece_bytes, start_bytes, void_names}
use Rattle.html_laws.proofs.PieceLaws.{text_is_shown, value_is_shown}

-- Nodes

unfoldable pub beside : Nodes → Nodes → Nodes
beside NoNodes more = more
beside (Text piece rest) more = Text piece (beside rest more)
beside (Void name attributes rest) more = Void name attributes (beside rest more)
beside (Element name attributes inside rest) more = Element name attributes inside (beside rest more)

four_parts : (a b c d e : List ℕ) → a ++ b ++ c ++ (d ++ e) ≡ (a ++ b ++ c ++ d) ++ e
four_parts a b c d e = simp append_assoc

pub beside_bytes : (nodes more : Nodes) → nodes_bytes (beside nodes more) ≡ nodes_bytes nodes ++ nodes_bytes more
unfolding beside
beside_bytes NoNodes more = refl
beside_bytes (Text piece rest) more =
    ap (λ (bytes : List ℕ). piece_bytes piece ++ bytes) (beside_bytes rest more)
    ∙ sym (append_assoc (piece_bytes piece) (nodes_bytes rest) (nodes_bytes more))
beside_bytes (Void name attributes rest) more =
    ap (λ (bytes : List ℕ). start_bytes name attributes ++ bytes) (beside_bytes rest more)
    ∙ sym (append_assoc (start_bytes name attributes) (nodes_bytes rest) (nodes_bytes more))
beside_bytes (Element name attributes inside rest) more =
    ap (λ (bytes : List ℕ). start_bytes name attributes ++ nodes_bytes inside ++ end_bytes name ++ bytes)
    (beside_bytes rest more)
    ∙ four_parts (start_bytes name attributes) (nodes_bytes inside) (end_bytes name) (nodes_bytes rest)
    (nodes_bytes more)

pub are_beside : (nodes more : Nodes) → AreNodes nodes → AreNodes more → AreNodes (beside nodes more)
unfolding beside
are_beside NoNodes more first second = second
are_beside (Text piece rest) more first second = (first.0, are_beside rest more first.1 second)
are_beside (Void name attributes rest) more first second =
    (first.0, first.1, are_beside rest more first.2 second)
are_beside (Element name attributes inside rest) more first second =
    (first.0, first.1, first.2, are_beside rest more first.3 second)

pub markup_none : IsMarkup []
markup_none = (NoNodes, tt, refl)

pub markup_beside : (x y : List ℕ) → IsMarkup x → IsMarkup y → IsMarkup (x ++ y)
markup_beside x y first second = (
  beside first.0 second.0,
  are_beside first.0 second.0 first.1 second.1,
  rw (first.2, second.2) (sym (beside_bytes first.0 second.0)),
)

-- Texts

unfoldable pub text_nodes : List Piece → Nodes
text_nodes [] = NoNodes
text_nodes (piece ∷ pieces) = Text piece (text_nodes pieces)

pub text_bytes : (pieces : List Piece) → nodes_bytes (text_nodes pieces) ≡ flat_map piece_bytes pieces
unfolding text_nodes
text_bytes [] = refl
text_bytes (piece ∷ pieces) = ap (λ (bytes : List ℕ). piece_bytes piece ++ bytes) (text_bytes pieces)

pub are_text : (pieces : List Piece) → list_all is_text_piece pieces ≡ true → AreNodes (text_nodes pieces)
unfolding text_nodes
are_text [] all = tt
are_text (piece ∷ pieces) all =
    let parts = and_parts (is_text_piece piece) (list_all is_text_piece pieces) all in
    (parts.0, are_text pieces parts.1)

pub markup_text : (text : List ℕ) → IsMarkup (escaped text)
markup_text text =
    let shown = text_is_shown text in
    (text_nodes shown.0, are_text shown.0 shown.1, shown.2 ∙ sym (text_bytes shown.0))

-- Attributes

abbrev pub AreAttributes : List ℕ → Type 0
AreAttributes bytes = (attributes : List Attribute) × (list_all is_attribute attributes ≡ true)
    × (bytes ≡ flat_map attribute_bytes attributes)

pub no_attributes : AreAttributes []
no_attributes = ([], refl, refl)

pub attributes_beside : (x y : List ℕ) → AreAttributes x → AreAttributes y → AreAttributes (x ++ y)
attributes_beside x y first second = (
  first.0 ++ second.0,
  list_all-append is_attribute first.0 second.0 ∙ and_from _ _ first.1 second.1,
  rw (first.2, second.2) (sym (flat_map-append attribute_bytes first.0 second.0)),
)

pub one_attribute : (name value : List ℕ) → is_among attribute_names name ≡ true
    → AreAttributes (codes " " ++ name ++ codes "=\"" ++ escaped_value value ++ codes "\"")
one_attribute name value known =
    let shown = value_is_shown value in
    let attribute : Attribute = record { name = name; value = shown.0 } in (
      attribute ∷ [],
      and_from _ _ (and_from _ _ known shown.1) refl,
      rw shown.2 (sym (append-nil (attribute_bytes attribute))),
    )

-- Tags

pub markup_void : (name attributes : List ℕ) → is_among void_names name ≡ true → AreAttributes attributes
    → IsMarkup (codes "<" ++ name ++ attributes ++ codes ">")
markup_void name attributes known are =
    (Void name are.0 NoNodes, (known, are.1, tt), rw are.2 (sym (append-nil (start_bytes name are.0))))

pub no_more : (start inside closes : List ℕ) → start ++ inside ++ closes ≡ start ++ inside ++ closes ++ []
no_more start inside closes = sym (append-nil (start ++ inside ++ closes))

pub markup_element : (name attributes inside : List ℕ) → is_among element_names name ≡ true
    → AreAttributes attributes → IsMarkup inside
    → IsMarkup ((codes "<" ++ name ++ attributes ++ codes ">") ++ inside ++ (codes "</" ++ name ++ codes ">"))
markup_element name attributes inside known are within = (
  Element name are.0 within.0 NoNodes,
  (known, are.1, within.1, tt),
  rw (are.2, within.2) (no_more (start_bytes name are.0) (nodes_bytes within.0) (end_bytes name)),
)
