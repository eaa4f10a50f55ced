-- Siblings of a document where they stand: their nodes, and the element that stands first.
use Rattle.std.specs.Prelude.{◌≡◌, ◌+◌, ◌≤◌, ℕ, zero, suc, List, [], ◌∷◌, ◌++◌, Some, None, length, drop, slice_get}
use Rattle.std.proofs.Common.{refl, sym, ap, ◌∙◌, arith, append_assoc, append-nil}
use Rattle.dita_doc.specs.Siblings.{content_from, content_at, content_behind}
use Rattle.dita_doc.specs.Tree.{ArePreorder, Content, End, Chars, Element, chars_node, element_node, nodes_of, size_of, tree_of}
use Rattle.dita_doc.specs.declared.doc.Attribute.{Attribute}
use Rattle.dita_doc.specs.declared.doc.Node.{Node}
use Rattle.dita_doc.proofs.TreeLaws.{length_nodes}
use Rattle.conref_targets.specs.Parts.{AreSiblingsAt, whole, past_text, within, past}

-- The nodes

pub drop_more : {X : Type 0} (n k : ℕ) (xs : List X) → drop (n + k) xs ≡ drop k (drop n xs)
drop_more zero k xs = let e : 0 + k ≡ k = omega arith in rw e refl
drop_more (suc n) k [] = let e : suc n + k ≡ suc (n + k) = omega arith in rw e (drop_none k)
  where
    drop_none : {X : Type 0} (k : ℕ) → ◌≡◌ {A = List X} [] (drop k [])
    drop_none zero = refl
    drop_none (suc k) = refl
drop_more (suc n) k (x ∷ xs) = let e : suc n + k ≡ suc (n + k) = omega arith in rw e (drop_more n k xs)

pub drop_front : {X : Type 0} (xs ys : List X) (n : ℕ) → n ≡ length xs → drop n (xs ++ ys) ≡ ys
drop_front [] ys n e = rw e refl
drop_front (x ∷ xs) ys n e = rw e (drop_front xs ys (length xs) refl)

-- the nodes from this place on begin with those of the siblings
pub record Begin (all : Content) (place : ℕ) (part : Content) : Type 0 where
  pub more : List Node
  pub is : drop place (nodes_of all 0) ≡ nodes_of part place ++ more

pub begin_there : (all : Content) {place : ℕ} {part : Content} → AreSiblingsAt all place part → Begin all place part
begin_there all whole = record { more = []; is = sym (append-nil (nodes_of all 0)) }
begin_there all (past_text {place = place} {rest = rest} there) =
    let before = begin_there all there in
    record { more = before.more; is = drop_more place 1 (nodes_of all 0) ∙ ap (drop 1) before.is }
begin_there all (within {place = place} {inside = inside} {rest = rest} there) =
    let before = begin_there all there in
    record {
      more = nodes_of rest (place + 1 + size_of inside) ++ before.more;
      is = drop_more place 1 (nodes_of all 0) ∙ ap (drop 1) before.is
          ∙ append_assoc (nodes_of inside (place + 1)) (nodes_of rest (place + 1 + size_of inside)) before.more;
    }
begin_there all (past {place = place} {inside = inside} {rest = rest} there) =
    let before = begin_there all there in
    record {
      more = before.more;
      is = drop_more (place + 1) (size_of inside) (nodes_of all 0)
          ∙ ap (drop (size_of inside)) (drop_more place 1 (nodes_of all 0) ∙ ap (drop 1) before.is
          ∙ append_assoc (nodes_of inside (place + 1)) (nodes_of rest (place + 1 + size_of inside)) before.more)
          ∙ drop_front (nodes_of inside (place + 1)) (nodes_of rest (place + 1 + size_of inside) ++ before.more)
          (size_of inside) (sym (length_nodes inside (place + 1)));
    }

pub get_drop : {X : Type 0} (n : ℕ) (xs ys : List X) (x : X) → drop n xs ≡ x ∷ ys → slice_get xs n ≡ Some x
get_drop zero [] ys x e = cc
get_drop zero (y ∷ xs) ys x e = cc
get_drop (suc n) [] ys x e = cc
get_drop (suc n) (y ∷ xs) ys x e = get_drop n xs ys x e

module _ (nodes : List Node) (tree : ArePreorder nodes 0) where
  -- the node of a text that stands first
  pub text_there : (place : ℕ) (text : List ℕ) (origin line : ℕ) (rest : Content)
      → AreSiblingsAt (tree_of nodes) place (Chars text origin line rest)
      → slice_get nodes place ≡ Some (chars_node text origin line (place + 1))
  text_there place text origin line rest there =
      let front = begin_there (tree_of nodes) there in
      get_drop place nodes (nodes_of rest (place + 1) ++ front.more) _ (ap (drop place) tree ∙ front.is)

  -- and that of an element
  pub element_node_there : (place : ℕ) (name : List ℕ) (attributes : List Attribute) (origin line : ℕ)
      (inside rest : Content) → AreSiblingsAt (tree_of nodes) place (Element name attributes origin line inside rest)
      → slice_get nodes place ≡ Some (element_node name attributes origin line (place + 1 + size_of inside))
  element_node_there place name attributes origin line inside rest there =
      let front = begin_there (tree_of nodes) there in
      get_drop place nodes ((nodes_of inside (place + 1) ++ nodes_of rest (place + 1 + size_of inside)) ++ front.more) _
      (ap (drop place) tree ∙ front.is)

-- siblings end within the document
pub part_fits : (all : Content) {place : ℕ} {part : Content} → AreSiblingsAt all place part
    → place + size_of part ≤ size_of all
part_fits all whole = omega arith
part_fits all (past_text there) = let before = part_fits all there in omega arith
part_fits all (within there) = let before = part_fits all there in omega arith
part_fits all (past there) = let before = part_fits all there in omega arith

-- The element that stands first

pub record From (all : Content) (place : ℕ) (part : Content) : Type 0 where
  pub more : Content
  pub is : content_from place all ≡ content_behind part more

joined_none : (part : Content) → part ≡ content_behind part End
joined_none End = refl
joined_none (Chars text origin line rest) = ap (Chars text origin line) (joined_none rest)
joined_none (Element name attributes origin line inside rest) =
    ap (Element name attributes origin line inside) (joined_none rest)

joined_both : (part more behind : Content)
    → content_behind (content_behind part more) behind ≡ content_behind part (content_behind more behind)
joined_both End more behind = refl
joined_both (Chars text origin line rest) more behind = ap (Chars text origin line) (joined_both rest more behind)
joined_both (Element name attributes origin line inside rest) more behind =
    ap (Element name attributes origin line inside) (joined_both rest more behind)

from_none : (n : ℕ) → content_from n End ≡ End
from_none zero = refl
from_none (suc n) = refl

from_more : (n k : ℕ) (all : Content) → content_from (n + k) all ≡ content_from k (content_from n all)
from_more zero k all = let e : 0 + k ≡ k = omega arith in rw e refl
from_more (suc n) k End = let e : suc n + k ≡ suc (n + k) = omega arith in rw e (sym (from_none k))
from_more (suc n) k (Chars text origin line rest) =
    let e : suc n + k ≡ suc (n + k) = omega arith in rw e (from_more n k rest)
from_more (suc n) k (Element name attributes origin line inside rest) =
    let e : suc n + k ≡ suc (n + k) = omega arith in rw e (from_more n k (content_behind inside rest))

from_behind : (part more : Content) → content_from (size_of part) (content_behind part more) ≡ more
from_behind End more = refl
from_behind (Chars text origin line rest) more =
    let e : 1 + size_of rest ≡ suc (size_of rest) = omega arith in rw e (from_behind rest more)
from_behind (Element name attributes origin line inside rest) more =
    let e : 1 + (size_of inside + size_of rest) ≡ suc (size_of inside + size_of rest) = omega arith in
    rw e (from_more (size_of inside) (size_of rest) (content_behind inside (content_behind rest more))
    ∙ ap (content_from (size_of rest)) (from_behind inside (content_behind rest more)) ∙ from_behind rest more)

pub from_there : (all : Content) {place : ℕ} {part : Content} → AreSiblingsAt all place part → From all place part
from_there all whole = record { more = End; is = joined_none all }
from_there all (past_text {place = place} there) =
    let before = from_there all there in
    record { more = before.more; is = from_more place 1 all ∙ ap (content_from 1) before.is }
from_there all (within {place = place} {inside = inside} {rest = rest} there) =
    let before = from_there all there in
    record {
      more = content_behind rest before.more;
      is = from_more place 1 all ∙ ap (content_from 1) before.is;
    }
from_there all (past {place = place} {inside = inside} {rest = rest} there) =
    let before = from_there all there in
    record {
      more = before.more;
      is = from_more (place + 1) (size_of inside) all
          ∙ ap (content_from (size_of inside)) (from_more place 1 all ∙ ap (content_from 1) before.is)
          ∙ from_behind inside (content_behind rest before.more);
    }

-- an element that stands first is the element at its place
pub element_there : (all : Content) (place : ℕ) (name : List ℕ) (attributes : List Attribute) (origin line : ℕ)
    (inside rest : Content) → AreSiblingsAt all place (Element name attributes origin line inside rest)
    → content_at all place ≡ Some (Element name attributes origin line inside End)
element_there all place name attributes origin line inside rest there = rw (from_there all there).is refl

pub no_element_there : (all : Content) (place : ℕ) (text : List ℕ) (origin line : ℕ) (rest : Content)
    → AreSiblingsAt all place (Chars text origin line rest) → content_at all place ≡ None
no_element_there all place text origin line rest there = rw (from_there all there).is refl
