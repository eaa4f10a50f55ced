-- All nodes of a tree that was read are written in the one document.
use Rattle.std.specs.Prelude.{◌≡◌, ◌+◌, true, ℕ, List, [], ◌∷◌, ◌++◌, nat_lt}
use Rattle.std.proofs.Common.{refl}
use Rattle.std.proofs.lemmas.Bool.{and_parts}
use Rattle.dita_doc.specs.declared.doc.Node.{Node}
use Rattle.dita_doc.specs.Tree.{Content, End, Chars, Element, nodes_of, size_of, are_placed}
use Rattle.dita_doc.specs.Pyx.{IsWritten}

-- nodes and then others
placed_append : (count : ℕ) (front back : List Node) → are_placed count front ≡ true → are_placed count back ≡ true
    → are_placed count (front ++ back) ≡ true
placed_append count [] back first second = second
placed_append count (node ∷ front) back first second =
    let parts = and_parts (nat_lt node.origin count) (are_placed count front) first in
    rw (parts.0, placed_append count front back parts.1 second) refl

pub placed_written : (c : Content) (place : ℕ) → IsWritten c → are_placed 1 (nodes_of c place) ≡ true
placed_written End place written = refl
placed_written (Chars text origin line rest) place written =
    rw (written.2, placed_written rest (place + 1) written.4) refl
placed_written (Element name attributes origin line inside rest) place written =
    let end = place + 1 + size_of inside in
    let held = placed_written inside (place + 1) written.1 in
    let behind = placed_written rest end written.2 in
    rw (written.0, placed_append 1 (nodes_of inside (place + 1)) (nodes_of rest end) held behind) refl
