-- Where siblings end, node by node.
use Rattle.std.specs.Prelude.{◌≡◌, ◌+◌, ◌++◌, ◌<◌, ◌≤◌, ℕ, true, false, List, [], ◌∷◌, Some, None, length, slice_get}
use Rattle.std.proofs.Common.{sym, ap, subst, ◌∙◌, arith, append_assoc, append-nil, max, min}
use Rattle.dita_doc.specs.Tree.{Content, End, Chars, Element, chars_node, element_node, is_element, size_of, tree_of}
use Rattle.dita_doc.specs.declared.doc.Doc.{Doc}
use Rattle.dita_doc.specs.declared.doc.Node.{Node}
use Rattle.dita_doc.proofs.TreeLaws.{length_nodes}
use Rattle.readers.specs.Named.{under_names, named_tree}
use Rattle.readers.proofs.GivenLaws.{size_named}
use Rattle.conref_targets.specs.Parts.{AreSiblingsAt, ends_from, ends_of, past, past_text, within}
use Rattle.conref_targets.proofs.PartLaws.{element_node_there, text_there}

-- the siblings that are left stand at a place, and their ends are all that is to be put
pub record Left (doc : Doc) (all ends : List ℕ) (to place counter : ℕ) : Type 0 where
  pub rest : Content
  pub there : AreSiblingsAt (tree_of doc.nodes) place rest
  pub fits : place + size_of rest ≡ to
  pub far : counter ≤ place
  pub same : ends ++ ends_from to place (under_names doc.origins rest) ≡ all

module _ (doc : Doc) (all ends : List ℕ) (to place counter : ℕ) (left : Left doc all ends to place counter) where
  none_by : (rest : Content) → place + size_of rest ≡ to → to ≤ place
      → ends ++ ends_from to place (under_names doc.origins rest) ≡ all → ends ≡ all
  none_by End fits past_end same = sym (append-nil ends) ∙ same
  none_by (Chars text origin line rest) fits past_end same = absurd (omega arith)
  none_by (Element name attributes origin line inside rest) fits past_end same = absurd (omega arith)

  pub left_none : to ≤ place → ends ≡ all
  left_none past_end = none_by left.rest left.fits past_end left.same

  missing_by : (rest : Content) → AreSiblingsAt (tree_of doc.nodes) place rest → place + size_of rest ≡ to → place < to
      → slice_get doc.nodes place ≡ None → ⊥
  missing_by End there fits here none = omega arith
  missing_by (Chars text origin line rest) there fits here none =
      let some = text_there doc.nodes doc.tree place text origin line rest there in cc
  missing_by (Element name attributes origin line inside rest) there fits here none =
      let some = element_node_there doc.nodes doc.tree place name attributes origin line inside rest there in cc

  pub left_missing : place < to → slice_get doc.nodes place ≡ None → ends ≡ all
  left_missing here none = absurd (missing_by left.rest left.there left.fits here none)

  module _ (node : Node) (here : place < to) (is : slice_get doc.nodes place ≡ Some node) where
    -- the first of them is a text
    text_by : (rest : Content) → AreSiblingsAt (tree_of doc.nodes) place rest → place + size_of rest ≡ to
        → ends ++ ends_from to place (under_names doc.origins rest) ≡ all → is_element node.kind ≡ false
        → Left doc all (ends ++ to ∷ []) to (max node.end (place + 1)) (counter + 1)
    text_by End there fits same kind = absurd (omega arith)
    text_by (Chars text origin line rest) there fits same kind =
        let some = text_there doc.nodes doc.tree place text origin line rest there in
        let node_is : node ≡ chars_node text origin line (place + 1) = cc in
        let end_is = ap (λ (n : Node). n.end) node_is in
        let end : place + 1 ≡ max node.end (place + 1) = omega (arith, end_is) in
        subst (λ n. Left doc all (ends ++ to ∷ []) to n (counter + 1)) end
        (record {
          rest = rest;
          there = past_text there;
          fits = omega arith;
          far = (let far = left.far in omega arith);
          same = append_assoc ends (to ∷ []) (ends_from to (place + 1) (under_names doc.origins rest)) ∙ same;
        })
    text_by (Element name attributes origin line inside rest) there fits same kind =
        let some = element_node_there doc.nodes doc.tree place name attributes origin line inside rest there in
        let node_is : node ≡ element_node name attributes origin line (place + 1 + size_of inside) = cc in
        let kind_is = ap (λ (n : Node). is_element n.kind) node_is in cc

    pub left_text : is_element node.kind ≡ false
        → Left doc all (ends ++ to ∷ []) to (max node.end (place + 1)) (counter + 1)
    left_text kind = text_by left.rest left.there left.fits left.same kind

    -- the first of them is an element, of which the ends of what it holds were put too
    element_by : (rest : Content) → AreSiblingsAt (tree_of doc.nodes) place rest → place + size_of rest ≡ to
        → ends ++ ends_from to place (under_names doc.origins rest) ≡ all → is_element node.kind ≡ true
        → (more : List ℕ)
        → ((part : Content) → AreSiblingsAt (tree_of doc.nodes) (place + 1) part
        → place + 1 + size_of part ≡ min (max node.end (place + 1)) to
        → more ≡ (ends ++ to ∷ []) ++ ends_from (min (max node.end (place + 1)) to) (place + 1) (under_names doc.origins part))
        → Left doc all more to (max node.end (place + 1)) (counter + 1)
    element_by End there fits same kind more put = absurd (omega arith)
    element_by (Chars text origin line rest) there fits same kind more put =
        let some = text_there doc.nodes doc.tree place text origin line rest there in
        let node_is : node ≡ chars_node text origin line (place + 1) = cc in
        let kind_is = ap (λ (n : Node). is_element n.kind) node_is in cc
    element_by (Element name attributes origin line inside rest) there fits same kind more put =
        let some = element_node_there doc.nodes doc.tree place name attributes origin line inside rest there in
        let node_is : node ≡ element_node name attributes origin line (place + 1 + size_of inside) = cc in
        let end_is = ap (λ (n : Node). n.end) node_is in
        let end : place + 1 + size_of inside ≡ max node.end (place + 1) = omega (arith, end_is) in
        let inner : min (max node.end (place + 1)) to ≡ place + 1 + size_of inside = omega (arith, end_is) in
        let held = under_names doc.origins inside in
        let later = under_names doc.origins rest in
        let first : more ≡ (ends ++ to ∷ []) ++ ends_from (place + 1 + size_of inside) (place + 1) held =
        put inside (within there) (sym inner)
        ∙ ap (λ n. (ends ++ to ∷ []) ++ ends_from n (place + 1) held) inner in
        subst (λ n. Left doc all more to n (counter + 1)) end
        (record {
          rest = rest;
          there = past there;
          fits = omega arith;
          far = (let far = left.far in omega arith);
          same = ap (λ (es : List ℕ). es ++ ends_from to (place + 1 + size_of inside) later) first
              ∙ append_assoc (ends ++ to ∷ []) (ends_from (place + 1 + size_of inside) (place + 1) held)
              (ends_from to (place + 1 + size_of inside) later)
              ∙ append_assoc ends (to ∷ []) (ends_from (place + 1 + size_of inside) (place + 1) held
              ++ ends_from to (place + 1 + size_of inside) later)
              ∙ ap (λ n. ends ++ to ∷ (ends_from (place + 1 + n) (place + 1) held ++ ends_from to (place + 1 + n) later))
              (sym (size_named doc.origins inside))
              ∙ same;
        })

    pub left_element : is_element node.kind ≡ true → (more : List ℕ)
        → ((part : Content) → AreSiblingsAt (tree_of doc.nodes) (place + 1) part
        → place + 1 + size_of part ≡ min (max node.end (place + 1)) to
        → more ≡ (ends ++ to ∷ []) ++ ends_from (min (max node.end (place + 1)) to) (place + 1) (under_names doc.origins part))
        → Left doc all more to (max node.end (place + 1)) (counter + 1)
    left_element kind more put = element_by left.rest left.there left.fits left.same kind more put

pub left_as : (doc : Doc) (all ends others : List ℕ) (to place other counter : ℕ) → others ≡ ends → other ≡ place
    → Left doc all ends to place counter → Left doc all others to other counter
left_as doc all ends others to place other counter same at left =
    subst (λ (es : List ℕ). Left doc all es to other counter) (sym same)
    (subst (λ n. Left doc all ends to n counter) (sym at) left)

-- the whole document ends behind its last node
pub doc_size : (doc : Doc) → 0 + size_of (tree_of doc.nodes) ≡ length doc.nodes
doc_size doc =
    let count = ap length doc.tree ∙ length_nodes (tree_of doc.nodes) 0 in
    omega arith

pub all_ends : (doc : Doc) (to : ℕ) → to ≡ length doc.nodes
    → ends_from to 0 (named_tree doc) ≡ ends_of (named_tree doc)
all_ends doc to is =
    ap (λ n. ends_from n 0 (named_tree doc))
    (let sized = size_named doc.origins (tree_of doc.nodes) in let all = doc_size doc in omega (arith, is, sized, all))
