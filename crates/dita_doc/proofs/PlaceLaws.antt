-- The nodes from a place of a preorder on.
use Rattle.std.specs.Prelude.{◌≡◌, ◌+◌, ◌<◌, ℕ, zero, suc, List, [], ◌++◌, None, length, drop, slice_range, Some, slice_get}
use Rattle.std.proofs.Common.{refl, sym, ◌∙◌, ap, arith, append_assoc, Bor}
use Rattle.std.proofs.lemmas.List.{drop_all, take_rest}
use Rattle.std.proofs.lemmas.Option.{same_Some}
use Rattle.dita_doc.specs.declared.doc.Node.{Node}
use Rattle.dita_doc.specs.declared.siblings.Siblings.{Siblings}
use Rattle.dita_doc.specs.declared.siblings.First.{First}
use Rattle.dita_doc.specs.declared.siblings.First.TheVariants as first
use Rattle.dita_doc.specs.Tree.{Content, End, Chars, Element, size_of, nodes_of, content_of, ArePreorder, tree_of, doc_node_limit, element_node}
use Rattle.dita_doc.specs.Siblings.{content_behind, content_from, first_element, content_at, IsFirst, content, doc_of_siblings}
use Rattle.dita_doc.proofs.TreeLaws.{content_of_nodes, length_nodes, stands_at}
use Rattle.dita_doc.specs.declared.doc.Node as doc
use Rattle.dita_doc.specs.Tree as tree

-- the nodes of one content behind another
pub nodes_joined : (c more : Content) (place : ℕ)
    → nodes_of (content_behind c more) place ≡ nodes_of c place ++ nodes_of more (place + size_of c)
nodes_joined End more place = let same : place ≡ place + 0 = omega arith in ap (λ n. nodes_of more n) same
nodes_joined (Chars text origin line rest) more place =
    let behind : place + 1 + size_of rest ≡ place + (1 + size_of rest) = omega arith in
    rw (nodes_joined rest more (place + 1), behind) refl
nodes_joined (Element name attributes origin line inside rest) more place =
    let end = place + 1 + size_of inside in
    let behind : end + size_of rest ≡ place + (1 + (size_of inside + size_of rest)) = omega arith in
    rw (nodes_joined rest more end, append_assoc, behind) refl

-- the nodes from a place on are those of the content from it on
nodes-from : (at : ℕ) (c : Content) (from place : ℕ) → place ≡ from + at
    → nodes_of (content_from at c) place ≡ drop at (nodes_of c from)
nodes-from zero c from place is = let same : place ≡ from = omega arith in ap (λ n. nodes_of c n) same
nodes-from (suc at) End from place is = refl
nodes-from (suc at) (Chars text origin line rest) from place is = nodes-from at rest (from + 1) place (omega arith)
nodes-from (suc at) (Element name attributes origin line inside rest) from place is =
    let behind = ap (drop at) (nodes_joined inside rest (from + 1)) in
    nodes-from at (content_behind inside rest) (from + 1) place (omega arith) ∙ behind

-- the same of a document's nodes
nodes_there : (nodes : List Node) (place : ℕ) → ArePreorder nodes 0
    → drop place nodes ≡ nodes_of (content_from place (tree_of nodes)) place
nodes_there nodes place tree = ap (drop place) tree ∙ sym (nodes-from place (tree_of nodes) 0 place (omega arith))

-- so what stands there is a content, and the nodes its preorder
pub content_there : (nodes : List Node) (place : ℕ) → ArePreorder nodes 0
    → content_of (drop place nodes) place ≡ content_from place (tree_of nodes)
content_there nodes place tree =
    let same = ap (λ l. content_of l place) (nodes_there nodes place tree) in
    same ∙ content_of_nodes (content_from place (tree_of nodes)) place

pub preorder_there : (nodes : List Node) (place : ℕ) → ArePreorder nodes 0 → ArePreorder (drop place nodes) place
preorder_there nodes place tree =
    let same = ap (λ c. nodes_of c place) (sym (content_there nodes place tree)) in
    nodes_there nodes place tree ∙ same

-- the element at a place is the first of what stands there
pub element_there : (nodes part : List Node) (place : ℕ) (all : Content) → ArePreorder nodes 0
    → part ≡ drop place nodes → content_of part place ≡ all → content_at (tree_of nodes) place ≡ first_element all
element_there nodes part place all tree is first =
    let there : content_from place (tree_of nodes) ≡ content_of part place =
    sym (content_there nodes place tree) ∙ ap (λ l. content_of l place) (sym is) in
    ap first_element (there ∙ first)

-- none stands past the end
pub nothing_there : (nodes : List Node) (place : ℕ) → ArePreorder nodes 0 → length nodes < place
    → content_at (tree_of nodes) place ≡ None
nothing_there nodes place tree past =
    element_there nodes [] place End tree (sym (drop_all place nodes (omega arith))) refl

-- nor where a walk tells none
pub no_element : (all : Content) (told : First) → IsFirst all told
    → ((place : ℕ) (node : Bor Node) (inside rest : Siblings) → told ≡ first.Element place node inside rest → ⊥)
    → first_element all ≡ None
no_element all first.End is other = rw is refl
no_element all (first.Chars place node rest) is other = rw is refl
no_element all (first.Element place node inside rest) is other = absurd (other place node inside rest refl)

-- what `get` tells of a part that goes on to the end
pub part_there : (nodes all part : List Node) (place : ℕ) → all ≡ nodes → part ≡ slice_range all place (length all)
    → part ≡ drop place nodes
part_there nodes all part place same is = is ∙ take_rest all place ∙ ap (drop place) same

-- a root is no larger than its document
pub root_fits : (nodes : List doc.Node) (root : Content) → ArePreorder nodes 0 → length nodes < doc_node_limit
    → root ≡ tree_of nodes → 0 + size_of root < doc_node_limit
root_fits nodes root preorder small is =
    let count = ap length preorder ∙ length_nodes (tree_of nodes) 0 in
    let same = ap size_of is in
    omega arith

-- the end of a first element
pub end_first : (all : Siblings) (node : doc.Node) (inside rest : Content) (place : ℕ)
    → content all ≡ tree.Element node.text node.attributes node.origin node.line inside rest → place ≡ all.place
    → slice_get (doc_of_siblings all).nodes place ≡ Some node → node.end ≡ place + 1 + size_of inside
end_first all node inside rest place first at is =
    let end = all.place + 1 + size_of inside in
    let own = element_node node.text node.attributes node.origin node.line end in
    let more = nodes_of inside (all.place + 1) ++ nodes_of rest end in
    let stands = stands_at all.nodes.now own more all.place (doc_of_siblings all).nodes
    (all.tree ∙ ap (λ c. nodes_of c all.place) first) all.within in
    let same : Some node ≡ Some own = sym is ∙ ap (slice_get (doc_of_siblings all).nodes) at ∙ stands.here in
    ap (λ (n : doc.Node). n.end) (same_Some _ _ same) ∙ ap (λ n. n + 1 + size_of inside) (sym at)
