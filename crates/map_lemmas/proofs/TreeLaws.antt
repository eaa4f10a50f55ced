-- The nodes of the trees of a map, and the size of what is written.
use Rattle.std.specs.Prelude.{List, length, ℕ, ◌++◌, ◌+◌, ◌∷◌, ◌≡◌}
use Rattle.std.proofs.Common.{ap, append_assoc, arith, length-append, refl, sym, ◌∙◌}
use Rattle.map_spec.specs.MapTree.{MapNode, MapTree, NoNodes, count, node_of, nodes_below, trees_beside}
use Rattle.map_spec.specs.Written.{size, written_in}
use Rattle.dita_doc.specs.Tree.{Content, size_of}
use Rattle.dita_doc.specs.Tree as tree

-- the nodes of trees are as many as the trees count
pub length_below : (parent place : ℕ) (tree : MapTree) → length (nodes_below parent place tree) ≡ count tree
length_below parent place NoNodes = refl
length_below parent place (MapNode head below more) =
    let end = place + 1 + count below in
    let inside = length_below place (place + 1) below in
    let beside = length_below parent end more in
    let both = length-append (nodes_below place (place + 1) below) (nodes_below parent end more) in
    omega arith

-- the nodes of trees side by side
pub below_beside : (parent place : ℕ) (first second : MapTree)
    → nodes_below parent place (trees_beside first second)
    ≡ nodes_below parent place first ++ nodes_below parent (place + count first) second
below_beside parent place NoNodes second =
    let same : place ≡ place + 0 = omega arith in ap (λ n. nodes_below parent n second) same
below_beside parent place (MapNode head below more) second =
    let end = place + 1 + count below in
    let node = node_of head parent end in
    let inner = nodes_below place (place + 1) below in
    let behind : end + count more ≡ place + (1 + (count below + count more)) = omega arith in
    ap (λ others. node ∷ (inner ++ others)) (below_beside parent end more second)
    ∙ ap (λ n. node ∷ (inner ++ (nodes_below parent end more ++ nodes_below parent n second))) behind
    ∙ ap (λ others. node ∷ others)
    (sym (append_assoc inner (nodes_below parent end more)
    (nodes_below parent (place + (1 + (count below + count more))) second)))

-- what is written is as large as its content
pub size_written : (name : List ℕ) (content : Content) → size (written_in name content) ≡ size_of content
size_written name tree.End = refl
size_written name (tree.Chars text origin line rest) = ap (λ n. 1 + n) (size_written name rest)
size_written name (tree.Element element attributes origin line inside rest) =
    let a = size_written name inside in let b = size_written name rest in omega arith
