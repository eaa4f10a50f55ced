-- Lists of nodes and of places.
use Rattle.std.proofs.Common.{◌≡◌, ℕ, zero, suc, ◌-◌, ◌<◌, List, [], ◌∷◌, ◌++◌, length, get_or, set, refl, ap, arith}
use Rattle.std.proofs.lemmas.List.{length_push, get_or_push, take_at}
use Rattle.dita_doc.specs.declared.doc.Node.{Node}
use Rattle.pyx_text.specs.Machine.{changed_at, innermost, outer}

-- a node is written in its place
pub changed-set : (nodes : List Node) (place : ℕ) (change : Node → Node) (node : Node) → place < length nodes
    → node ≡ get_or nodes place node → set nodes place (change node) ≡ changed_at place change nodes
changed-set [] place change node inside is = absurd (omega arith)
changed-set (first ∷ nodes) zero change node inside is = ap (λ n. change n ∷ nodes) is
changed-set (first ∷ nodes) (suc place) change node inside is =
    ap (λ ns. first ∷ ns) (changed-set nodes place change node (omega arith) is)

pub length-changed : (nodes : List Node) (place : ℕ) (change : Node → Node)
    → length (changed_at place change nodes) ≡ length nodes
length-changed [] place change = refl
length-changed (first ∷ nodes) zero change = refl
length-changed (first ∷ nodes) (suc place) change = ap suc (length-changed nodes place change)

-- the change of a node that stands behind others
pub changed_behind : (front : List Node) (node : Node) (back : List Node) (place : ℕ) (change : Node → Node)
    → length front ≡ place → changed_at place change (front ++ node ∷ back) ≡ front ++ change node ∷ back
changed_behind [] node back zero change at = refl
changed_behind [] node back (suc place) change at = absurd (omega arith)
changed_behind (first ∷ front) node back zero change at = absurd (omega arith)
changed_behind (first ∷ front) node back (suc place) change at =
    ap (λ ns. first ∷ ns) (changed_behind front node back place change (omega arith))

-- one place more, and the last of them taken off
pub innermost_push : (places : List ℕ) (place : ℕ) → innermost (places ++ place ∷ []) ≡ place
innermost_push places place =
    let at : length places ≡ length (places ++ place ∷ []) - 1 = omega (arith, length_push places place) in
    get_or_push places place 0 _ at

pub outer_push : (places : List ℕ) (place : ℕ) → outer (places ++ place ∷ []) ≡ places
outer_push places place =
    let at : length places ≡ length (places ++ place ∷ []) - 1 = omega (arith, length_push places place) in
    take_at places (place ∷ []) _ at
