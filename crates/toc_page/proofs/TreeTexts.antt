-- Trees as the shapes of their nodes, and the texts of all nodes of a tree.
use Rattle.std.specs.Prelude.{◌≡◌, ◌+◌, ◌<◌, ◌≤◌, ℕ, List, [], ◌∷◌, ◌++◌, map}
use Rattle.std.proofs.Common.{refl, ap, ◌∙◌, arith}
use Rattle.std.proofs.lemmas.List.{map-append}
use Rattle.map_spec.specs.MapTree.{MapTree, MapNode, NoNodes, count, nodes_below}
use Rattle.plan_nodes.specs.Preorder.{shape}

abbrev pub Shape : Type 0
Shape = ℕ × ℕ

-- the parents and ends of a tree's nodes
abbrev pub shapes : ℕ → ℕ → MapTree → List Shape
shapes parent place NoNodes = []
shapes parent place (MapNode head below more) =
    (parent, place + 1 + count below) ∷ (shapes place (place + 1) below ++ shapes parent (place + 1 + count below) more)

pub shapes_are : (tree : MapTree) (parent place : ℕ) → map shape (nodes_below parent place tree) ≡ shapes parent place tree
shapes_are NoNodes parent place = refl
shapes_are (MapNode head below more) parent place =
    let end = place + 1 + count below in
    ap (λ l. (parent, end) ∷ l) (map-append shape (nodes_below place (place + 1) below) (nodes_below parent end more)
    ∙ (λ i. shapes_are below place (place + 1) i ++ shapes_are more parent end i))

-- each node makes a text of those of the nodes below it
abbrev pub tree_text : (ℕ → List ℕ → List ℕ) → ℕ → MapTree → List ℕ
tree_text text place NoNodes = []
tree_text text place (MapNode head below more) =
    text place (tree_text text (place + 1) below) ++ tree_text text (place + 1 + count below) more

-- texts that are the same of each place give the same
pub texts_alike : (one two : ℕ → List ℕ → List ℕ) (limit : ℕ)
    → ((at : ℕ) (below : List ℕ) → at < limit → one at below ≡ two at below)
    → (tree : MapTree) (place : ℕ) → place + count tree ≤ limit → tree_text one place tree ≡ tree_text two place tree
texts_alike one two limit each NoNodes place fits = refl
texts_alike one two limit each (MapNode head below more) place fits =
    let end = place + 1 + count below in
    let inner = texts_alike one two limit each below (place + 1) (omega (arith, fits)) in
    let outer = texts_alike one two limit each more end (omega (arith, fits)) in
    ap (λ l. one place l ++ tree_text one end more) inner
    ∙ (λ i. each place (tree_text two (place + 1) below) (omega (arith, fits)) i ++ outer i)
