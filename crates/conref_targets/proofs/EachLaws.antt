-- What holds of each element of a document holds of its parts.
use Rattle.std.specs.Prelude.{◌≡◌, ℕ, zero, suc, List, Some, slice_get}
use Rattle.std.proofs.Common.{sym, subst}
use Rattle.dita_doc.specs.Siblings.{IsElementAt, content, content_from, doc_of_siblings, content_at, first_element, content_behind}
use Rattle.dita_doc.specs.Tree.{Content, End, Chars, Element, tree_of}
use Rattle.dita_doc.specs.declared.doc.Doc.{Doc}
use Rattle.dita_doc.specs.declared.doc.Node.{Node}
use Rattle.dita_doc.specs.declared.siblings.Siblings.{Siblings}
use Rattle.doc_elements.specs.Walk.{element_of}
use Rattle.map_spec.specs.Written as written
use Rattle.readers.specs.Named.{name_at, under_names, named_tree}
use Rattle.conref_targets.specs.Asking.{element_around}
use Rattle.conref_targets.specs.Each.{OfEach}
use Rattle.conref_targets.specs.Origin.{named_content}
use Rattle.conref_targets.proofs.OriginLaws.{around_is, split_is, text_is}

module _ (P : written.Element → Type 0) where
  module _ (names : List (List ℕ)) where
    joined_each : (a b : Content) → OfEach P (under_names names a) → OfEach P (under_names names b)
        → OfEach P (under_names names (content_behind a b))
    joined_each End b first second = second
    joined_each (Chars text origin line rest) b first second = joined_each rest b first second
    joined_each (Element name attributes origin line inside rest) b first second =
        (first.0, first.1, joined_each rest b first.2 second)

    from_each : (n : ℕ) (all : Content) → OfEach P (under_names names all)
        → OfEach P (under_names names (content_from n all))
    from_each zero all is = is
    from_each (suc n) End is = is
    from_each (suc n) (Chars text origin line rest) is = from_each n rest is
    from_each (suc n) (Element name attributes origin line inside rest) is =
        from_each n (content_behind inside rest) (joined_each inside rest is.1 is.2)

    first_each : (all one : Content) → first_element all ≡ Some one → OfEach P (under_names names all)
        → OfEach P (under_names names one)
    first_each End one same is = cc
    first_each (Chars text origin line rest) one same is = cc
    first_each (Element name attributes origin line inside rest) one same is =
        let alone : Element name attributes origin line inside End ≡ one = cc in
        subst (λ (c : Content). OfEach P (under_names names c)) alone (is.0, is.1, tt)

    -- an element that stands at a place, and what it holds
    at_each : (all one : Content) (place : ℕ) → content_at all place ≡ Some one → OfEach P (under_names names all)
        → OfEach P (under_names names one)
    at_each all one place same is = first_each (content_from place all) one same (from_each place all is)

  module _ (doc : Doc) (place : ℕ) (node : Node) (inside : Siblings) (is : IsElementAt doc place node inside)
      (all : OfEach P (named_tree doc)) where
    below : OfEach P
        (under_names doc.origins (Element node.text node.attributes node.origin node.line (content inside) End))
    below = at_each doc.origins (tree_of doc.nodes)
        (Element node.text node.attributes node.origin node.line (content inside) End) place is.element all

    pub node_each : P (element_around inside node)
    node_each = subst (λ (d : Doc). P (element_of (name_at d.origins node.origin) node)) (sym is.within) below.0

    pub inside_each : OfEach P (named_content inside)
    inside_each = subst (λ (d : Doc). OfEach P (under_names d.origins (content inside))) (sym is.within) below.1

  pub origin_each : (inside : Siblings) (node : Node) (origin : List ℕ) (doc : Doc) → doc ≡ doc_of_siblings inside
      → Some origin ≡ slice_get doc.origins node.origin → P (element_around inside node) → P (element_of origin node)
  origin_each inside node origin doc same name is =
      subst P (sym (around_is inside node origin
      (subst (λ (d : Doc). Some origin ≡ slice_get d.origins node.origin) same name))) is

  -- the first of siblings, and those behind it
  pub parts_each : (all : Siblings) (node : Node) (inside rest : Siblings)
      → content all ≡ Element node.text node.attributes node.origin node.line (content inside) (content rest)
      → doc_of_siblings inside ≡ doc_of_siblings all → doc_of_siblings rest ≡ doc_of_siblings all
      → OfEach P (named_content all)
      → OfEach P (written.Node (element_around inside node) (named_content inside) (named_content rest))
  parts_each all node inside rest is held behind given =
      subst (OfEach P) (split_is all node inside rest is held behind) given

  pub text_each : (all rest : Siblings) (text : List ℕ) (origin line : ℕ)
      → content all ≡ Chars text origin line (content rest) → doc_of_siblings rest ≡ doc_of_siblings all
      → OfEach P (named_content all) → OfEach P (named_content rest)
  text_each all rest text origin line is behind given =
      subst (OfEach P) (text_is all rest text origin line is behind) given
