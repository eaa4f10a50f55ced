-- An element of a document of several origins where it stands.
use Rattle.std.specs.Prelude.{◌≡◌, ◌++◌, ◌<◌, ℕ, zero, suc, true, List, [], ◌∷◌, Option, Some, None, IsTrue, length, nat_lt, slice_get, unwrap_or}
use Rattle.std.proofs.Common.{sym, ap, subst, ◌∙◌, arith}
use Rattle.std.proofs.lemmas.Bool.{and_parts, ltb-true}
use Rattle.dita_doc.specs.Siblings.{IsElementAt, content, doc_of_siblings, content_at}
use Rattle.dita_doc.specs.Tree.{Content, End, Chars, Element, are_placed, tree_of}
use Rattle.dita_doc.specs.declared.doc.Attribute.{Attribute}
use Rattle.dita_doc.specs.declared.doc.Doc.{Doc}
use Rattle.dita_doc.specs.declared.doc.Node.{Node}
use Rattle.dita_doc.specs.declared.siblings.Siblings.{Siblings}
use Rattle.doc_elements.specs.Walk.{element_of}
use Rattle.map_spec.specs.Written as written
use Rattle.map_spec.specs.Written.{Whole}
use Rattle.readers.specs.Founded.{AreAmong, is_among}
use Rattle.readers.specs.Named.{name_at, under_names, reused_by, reused_in}
use Rattle.readers.proofs.AmongLaws.{among_back, among_either, among_front}
use Rattle.conref_targets.specs.Asking.{element_around, reused_below, reused_of_doc, reused_of_node}
use Rattle.conref_targets.specs.Origin.{begins_element, first_whole, named_content}
use Rattle.conref_targets.specs.Parts.{AreSiblingsAt}
use Rattle.conref_targets.proofs.NameLaws.{below_reused}
use Rattle.conref_targets.proofs.PartLaws.{element_there}

-- an element stands at its place
pub whole_none : (doc : Doc) (place : ℕ) (part : Content) → AreSiblingsAt (tree_of doc.nodes) place part
    → begins_element part ≡ true → content_at (tree_of doc.nodes) place ≡ None → None ≡ first_whole doc.origins part
whole_none doc place End there begins none = cc
whole_none doc place (Chars text origin line rest) there begins none = cc
whole_none doc place (Element name attributes origin line inside rest) there begins none =
    let some = element_there (tree_of doc.nodes) place name attributes origin line inside rest there in cc

-- its origin is among the names
name_there : (names : List (List ℕ)) (at : ℕ) → at < length names → slice_get names at ≡ None → ⊥
name_there [] at within none = absurd (omega arith)
name_there (name ∷ names) zero within none = cc
name_there (name ∷ names) (suc at) within none = name_there names at (omega arith) none

placed_there : (count : ℕ) (nodes : List Node) (at : ℕ) (node : Node) → are_placed count nodes ≡ true
    → slice_get nodes at ≡ Some node → nat_lt node.origin count ≡ true
placed_there count [] zero node placed is = cc
placed_there count [] (suc at) node placed is = cc
placed_there count (first ∷ nodes) zero node placed is =
    let same : first ≡ node = cc in
    subst (λ (n : Node). nat_lt n.origin count ≡ true) same
    (and_parts (nat_lt first.origin count) (are_placed count nodes) placed).0
placed_there count (first ∷ nodes) (suc at) node placed is =
    placed_there count nodes at node (and_parts (nat_lt first.origin count) (are_placed count nodes) placed).1 is

pub origin_there : (doc : Doc) (place : ℕ) (node : Node) → slice_get doc.nodes place ≡ Some node
    → slice_get doc.origins node.origin ≡ None → ⊥
origin_there doc place node here none = name_there doc.origins node.origin
    (ltb-true node.origin (length doc.origins)
    (placed_there (length doc.origins) doc.nodes place node doc.placed here)) none

-- it is the element that stands first
pub whole_there : (doc : Doc) (place : ℕ) (part : Content) (node : Node) (inside : Siblings) (origin : List ℕ)
    → AreSiblingsAt (tree_of doc.nodes) place part → begins_element part ≡ true
    → content_at (tree_of doc.nodes) place
    ≡ Some (Element node.text node.attributes node.origin node.line (content inside) End)
    → doc_of_siblings inside ≡ doc → Some origin ≡ slice_get doc.origins node.origin
    → ◌≡◌ {A = Option Whole} (Some (element_of origin node, named_content inside)) (first_whole doc.origins part)
whole_there doc place End node inside origin there begins is within name = cc
whole_there doc place (Chars text at line rest) node inside origin there begins is within name = cc
whole_there doc place (Element label attributes at line held rest) node inside origin there begins is within name =
    let some = element_there (tree_of doc.nodes) place label attributes at line held rest there in
    let text_is : node.text ≡ label = cc in
    let attributes_are : node.attributes ≡ attributes = cc in
    let origin_is : node.origin ≡ at = cc in
    let line_is : node.line ≡ line = cc in
    let inside_is : content inside ≡ held = cc in
    let doc_is : origin ≡ name_at doc.origins at =
    ap (λ (found : Option (List ℕ)). unwrap_or found []) (name ∙ ap (slice_get doc.origins) origin_is) in
    let f = λ (t : List ℕ) (a : List Attribute) (d : List ℕ) (l : ℕ) (i : Content) (names : List (List ℕ)).
    (let made : Option Whole =
    Some (record { name = t; attributes = a; doc = d; line = l; href_doc = d }, under_names names i) in made) in
    ap (λ t. f t node.attributes origin node.line (content inside) (doc_of_siblings inside).origins) text_is
    ∙ ap (λ a. f label a origin node.line (content inside) (doc_of_siblings inside).origins) attributes_are
    ∙ ap (λ d. f label attributes d node.line (content inside) (doc_of_siblings inside).origins) doc_is
    ∙ ap (λ l. f label attributes (name_at doc.origins at) l (content inside) (doc_of_siblings inside).origins) line_is
    ∙ ap (λ i. f label attributes (name_at doc.origins at) line i (doc_of_siblings inside).origins) inside_is
    ∙ ap (λ (d : Doc). f label attributes (name_at doc.origins at) line held d.origins) within

-- What content references of an element and of all that it holds name, those of the document name

pub whole_reused : (doc : Doc) (place : ℕ) (node : Node) (inside : Siblings) (origin : List ℕ)
    → IsElementAt doc place node inside → Some origin ≡ slice_get doc.origins node.origin
    → AreAmong (reused_below (element_of origin node) (named_content inside)) (reused_of_doc doc)
whole_reused doc place node inside origin is name = record {
  each = λ m among.
      (let doc_is : origin ≡ name_at doc.origins node.origin =
      ap (λ (found : Option (List ℕ)). unwrap_or found []) name in
      below_reused doc.origins (tree_of doc.nodes) place node.text node.attributes node.origin node.line
      (content inside) m is.element
      (subst (λ (o : List ℕ). IsTrue (is_among
      (reused_below (element_of o node) (under_names doc.origins (content inside))) m)) doc_is
      (subst (λ (d : Doc). IsTrue (is_among
      (reused_below (element_of origin node) (under_names d.origins (content inside))) m)) is.within among)));
}

pub node_reused : (doc : Doc) (place : ℕ) (node : Node) (inside : Siblings) → IsElementAt doc place node inside
    → AreAmong (reused_of_node inside node) (reused_of_doc doc)
node_reused doc place node inside is = record {
  each = λ m among.
      below_reused doc.origins (tree_of doc.nodes) place node.text node.attributes node.origin node.line
      (content inside) m is.element
      (subst (λ (d : Doc). IsTrue (is_among (reused_below (element_of (name_at d.origins node.origin) node)
      (under_names d.origins (content inside))) m)) is.within among);
}

pub around_is : (inside : Siblings) (node : Node) (origin : List ℕ)
    → Some origin ≡ slice_get (doc_of_siblings inside).origins node.origin
    → element_of origin node ≡ element_around inside node
around_is inside node origin name =
    ap (λ (o : List ℕ). element_of o node) (ap (λ (found : Option (List ℕ)). unwrap_or found []) name)

-- and so do siblings: the first of them, and those behind it
module _ (all : Siblings) (node : Node) (inside rest : Siblings)
    (is : content all ≡ Element node.text node.attributes node.origin node.line (content inside) (content rest))
    (held : doc_of_siblings inside ≡ doc_of_siblings all) (behind : doc_of_siblings rest ≡ doc_of_siblings all) where
  pub split_is : named_content all
      ≡ written.Node (element_around inside node) (named_content inside) (named_content rest)
  split_is = ap (under_names (doc_of_siblings all).origins) is
      ∙ ap (λ (d : Doc). written.Node (element_of (name_at d.origins node.origin) node)
      (under_names d.origins (content inside)) (under_names (doc_of_siblings all).origins (content rest))) (sym held)
      ∙ ap (λ (d : Doc). written.Node (element_around inside node) (named_content inside)
      (under_names d.origins (content rest))) (sym behind)

  pub first_among : AreAmong (reused_of_node inside node) (reused_in (named_content all))
  first_among = record {
    each = λ m here. subst (λ (w : written.Written). IsTrue (is_among (reused_in w) m)) (sym split_is)
        (among_either (reused_by (element_around inside node)) (reused_in (named_content inside)) m
        (IsTrue (is_among (reused_by (element_around inside node)
        ++ (reused_in (named_content inside) ++ reused_in (named_content rest))) m))
        (λ h. among_front (reused_by (element_around inside node)) _ m h)
        (λ h. among_back (reused_by (element_around inside node)) _ m
        (among_front (reused_in (named_content inside)) (reused_in (named_content rest)) m h)) here);
  }

  pub rest_among : AreAmong (reused_in (named_content rest)) (reused_in (named_content all))
  rest_among = record {
    each = λ m here. subst (λ (w : written.Written). IsTrue (is_among (reused_in w) m)) (sym split_is)
        (among_back (reused_by (element_around inside node)) _ m
        (among_back (reused_in (named_content inside)) (reused_in (named_content rest)) m here));
  }

pub text_is : (all rest : Siblings) (text : List ℕ) (origin line : ℕ)
    → content all ≡ Chars text origin line (content rest) → doc_of_siblings rest ≡ doc_of_siblings all
    → named_content all ≡ written.Chars text (name_at (doc_of_siblings all).origins origin) (named_content rest)
text_is all rest text origin line is behind = ap (under_names (doc_of_siblings all).origins) is
    ∙ ap (λ (d : Doc). written.Chars text (name_at (doc_of_siblings all).origins origin)
    (under_names d.origins (content rest)))
    (sym behind)

pub text_among : (all rest : Siblings) (text : List ℕ) (origin line : ℕ)
    → content all ≡ Chars text origin line (content rest) → doc_of_siblings rest ≡ doc_of_siblings all
    → AreAmong (reused_in (named_content rest)) (reused_in (named_content all))
text_among all rest text origin line is behind = record {
  each = λ m here. subst
      (λ (c : Content). IsTrue (is_among (reused_in (under_names (doc_of_siblings all).origins c)) m)) (sym is)
      (subst (λ (d : Doc). IsTrue (is_among (reused_in (under_names d.origins (content rest))) m)) behind here);
}

pub inside_among : (inside : Siblings) (node : Node)
    → AreAmong (reused_in (named_content inside)) (reused_of_node inside node)
inside_among inside node =
    record { each = λ m here. among_back (reused_by (element_around inside node)) _ m here }

pub element_among : (inside : Siblings) (node : Node)
    → AreAmong (reused_by (element_around inside node)) (reused_of_node inside node)
element_among inside node = record { each = λ m here. among_front (reused_by (element_around inside node)) _ m here }

pub among_then : (a b c : List (List ℕ)) → AreAmong a b → AreAmong b c → AreAmong a c
among_then a b c first second = record { each = λ m here. second.each m (first.each m here) }

pub origin_among : (inside : Siblings) (node : Node) (origin : List ℕ) (doc : Doc) → doc ≡ doc_of_siblings inside
    → Some origin ≡ slice_get doc.origins node.origin
    → AreAmong (reused_by (element_of origin node)) (reused_of_node inside node)
origin_among inside node origin doc same name =
    subst (λ (e : written.Element). AreAmong (reused_by e) (reused_of_node inside node))
    (sym (around_is inside node origin (name ∙ ap (λ (d : Doc). slice_get d.origins node.origin) same)))
    (element_among inside node)

pub content_named : (siblings : Siblings) (doc : Doc) → content siblings ≡ tree_of doc.nodes
    → doc_of_siblings siblings ≡ doc → named_content siblings ≡ under_names doc.origins (tree_of doc.nodes)
content_named siblings doc is same = ap (λ (d : Doc). under_names d.origins (content siblings)) same
    ∙ ap (under_names doc.origins) is
