-- Markups with the same tags, side by side and within the same tag, have the same tags.
use Rattle.std.specs.Prelude.{◌≡◌, ℕ, true, List, [], ◌∷◌, ◌++◌, map, codes}
use Rattle.std.specs.List.{flat_map, list_all}
use Rattle.std.proofs.Common.{refl, sym, ap, ◌∙◌}
use Rattle.std.proofs.lemmas.Bool.{and_from}
use Rattle.std.proofs.lemmas.List.{map-append}
use Rattle.std.proofs.lemmas.List.Concat.{flat_map-append}
use Rattle.std.proofs.lemmas.List.Folds.{list_all-append}
use Rattle.std.proofs.Common.{append-nil}
use Rattle.dita_doc.specs.HtmlEscapes.{escaped, escaped_value}
use Rattle.html_laws.specs.Markup.{Attribute, Element, IsMarkup, Nodes, NoNodes, Piece, Text, Void, attribute_bytes, attribute_names, element_names, end_bytes, is_among, is_attribute, nodes_bytes, start_bytes, void_names}
use Rattle.html_laws.specs.Tags.{HaveSameTags, tags_alone, without_value}
use Rattle.html_laws.proofs.MarkupLaws.{AreAttributes, are_beside, are_text, beside, beside_bytes, no_more, text_bytes, text_nodes}
use Rattle.html_laws.proofs.PieceLaws.{text_is_shown, value_is_shown}

-- Nodes

pub itself_alike : (bytes : List ℕ) → IsMarkup bytes → HaveSameTags bytes bytes
itself_alike bytes is = record {
  nodes = is.0;
  again = is.0;
  are = is.1;
  are_too = is.1;
  first = is.2;
  second = is.2;
  same = refl;
}

tags_beside : (nodes more : Nodes) → tags_alone (beside nodes more) ≡ beside (tags_alone nodes) (tags_alone more)
unfolding beside
tags_beside NoNodes more = refl
tags_beside (Text piece rest) more = tags_beside rest more
tags_beside (Void name attributes rest) more =
    ap (Void name (map without_value attributes)) (tags_beside rest more)
tags_beside (Element name attributes inside rest) more =
    ap (Element name (map without_value attributes) (tags_alone inside)) (tags_beside rest more)

pub beside_alike : (x y others another : List ℕ) → HaveSameTags x others → HaveSameTags y another
    → HaveSameTags (x ++ y) (others ++ another)
beside_alike x y others another one two = record {
  nodes = beside one.nodes two.nodes;
  again = beside one.again two.again;
  are = are_beside one.nodes two.nodes one.are two.are;
  are_too = are_beside one.again two.again one.are_too two.are_too;
  first = rw (one.first, two.first) (sym (beside_bytes one.nodes two.nodes));
  second = rw (one.second, two.second) (sym (beside_bytes one.again two.again));
  same = tags_beside one.nodes two.nodes ∙ ap (λ (tags : Nodes). beside tags (tags_alone two.nodes)) one.same
      ∙ ap (beside (tags_alone one.again)) two.same ∙ sym (tags_beside one.again two.again);
}

no_tags : (pieces : List Piece) → tags_alone (text_nodes pieces) ≡ NoNodes
unfolding text_nodes
no_tags [] = refl
no_tags (piece ∷ pieces) = no_tags pieces

pub texts_alike : (text other : List ℕ) → HaveSameTags (escaped text) (escaped other)
texts_alike text other =
    let one = text_is_shown text in
    let two = text_is_shown other in
    record {
      nodes = text_nodes one.0;
      again = text_nodes two.0;
      are = are_text one.0 one.1;
      are_too = are_text two.0 two.1;
      first = one.2 ∙ sym (text_bytes one.0);
      second = two.2 ∙ sym (text_bytes two.0);
      same = no_tags one.0 ∙ sym (no_tags two.0);
    }

-- Attributes of the same names

pub record HaveSameNames (bytes others : List ℕ) : Type 0 where
  pub attributes : List Attribute
  pub again : List Attribute
  pub are : list_all is_attribute attributes ≡ true
  pub are_too : list_all is_attribute again ≡ true
  pub first : bytes ≡ flat_map attribute_bytes attributes
  pub second : others ≡ flat_map attribute_bytes again
  pub same : map without_value attributes ≡ map without_value again

pub same_names : (bytes : List ℕ) → AreAttributes bytes → HaveSameNames bytes bytes
same_names bytes are = record {
  attributes = are.0;
  again = are.0;
  are = are.1;
  are_too = are.1;
  first = are.2;
  second = are.2;
  same = refl;
}

pub names_beside : (x y others another : List ℕ) → HaveSameNames x others → HaveSameNames y another
    → HaveSameNames (x ++ y) (others ++ another)
names_beside x y others another one two = record {
  attributes = one.attributes ++ two.attributes;
  again = one.again ++ two.again;
  are = list_all-append is_attribute one.attributes two.attributes ∙ and_from _ _ one.are two.are;
  are_too = list_all-append is_attribute one.again two.again ∙ and_from _ _ one.are_too two.are_too;
  first = rw (one.first, two.first) (sym (flat_map-append attribute_bytes one.attributes two.attributes));
  second = rw (one.second, two.second) (sym (flat_map-append attribute_bytes one.again two.again));
  same = map-append without_value one.attributes two.attributes
      ∙ ap (λ (names : List Attribute). names ++ map without_value two.attributes) one.same
      ∙ ap (λ (names : List Attribute). map without_value one.again ++ names) two.same
      ∙ sym (map-append without_value one.again two.again);
}

-- one attribute with one value and another
pub values_alike : (name value other : List ℕ) → is_among attribute_names name ≡ true
    → HaveSameNames (codes " " ++ name ++ codes "=\"" ++ escaped_value value ++ codes "\"")
    (codes " " ++ name ++ codes "=\"" ++ escaped_value other ++ codes "\"")
values_alike name value other known =
    let one = value_is_shown value in
    let two = value_is_shown other in
    let attribute : Attribute = record { name = name; value = one.0 } in
    let again : Attribute = record { name = name; value = two.0 } in
    record {
      attributes = attribute ∷ [];
      again = again ∷ [];
      are = and_from _ _ (and_from _ _ known one.1) refl;
      are_too = and_from _ _ (and_from _ _ known two.1) refl;
      first = rw one.2 (sym (append-nil (attribute_bytes attribute)));
      second = rw two.2 (sym (append-nil (attribute_bytes again)));
      same = refl;
    }

-- Tags

pub void_alike : (name attributes others : List ℕ) → is_among void_names name ≡ true → HaveSameNames attributes others
    → HaveSameTags (codes "<" ++ name ++ attributes ++ codes ">") (codes "<" ++ name ++ others ++ codes ">")
void_alike name attributes others known named = record {
  nodes = Void name named.attributes NoNodes;
  again = Void name named.again NoNodes;
  are = (known, named.are, tt);
  are_too = (known, named.are_too, tt);
  first = rw named.first (sym (append-nil (start_bytes name named.attributes)));
  second = rw named.second (sym (append-nil (start_bytes name named.again)));
  same = ap (λ (names : List Attribute). Void name names NoNodes) named.same;
}

pub element_alike : (name attributes others inside within : List ℕ) → is_among element_names name ≡ true
    → HaveSameNames attributes others → HaveSameTags inside within
    → HaveSameTags ((codes "<" ++ name ++ attributes ++ codes ">") ++ inside ++ (codes "</" ++ name ++ codes ">"))
    ((codes "<" ++ name ++ others ++ codes ">") ++ within ++ (codes "</" ++ name ++ codes ">"))
element_alike name attributes others inside within known named is = record {
  nodes = Element name named.attributes is.nodes NoNodes;
  again = Element name named.again is.again NoNodes;
  are = (known, named.are, is.are, tt);
  are_too = (known, named.are_too, is.are_too, tt);
  first = rw (named.first, is.first)
      (no_more (start_bytes name named.attributes) (nodes_bytes is.nodes) (end_bytes name));
  second = rw (named.second, is.second)
      (no_more (start_bytes name named.again) (nodes_bytes is.again) (end_bytes name));
  same = ap (λ (names : List Attribute). Element name names (tags_alone is.nodes) NoNodes) named.same
      ∙ ap (λ (tags : Nodes). Element name (map without_value named.again) tags NoNodes) is.same;
}
