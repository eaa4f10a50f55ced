-- A stored document, all of which was written under its own name.
use Rattle.std.specs.Prelude.{◌≡◌, ◌+◌, ℕ, zero, suc, true, List, [], ◌∷◌, ◌++◌, Option, Some, None, IfSome, length, nat_lt, option_map}
use Rattle.std.specs.Arc.{arc_value}
use Rattle.std.specs.declared.alloc.Global.{Global}
use Rattle.std.specs.declared.sync.Arc.{Arc}
use Rattle.std.proofs.Common.{refl, sym, ap, ap₂, subst, ◌∙◌, arith}
use Rattle.std.proofs.lemmas.Bool.{and_parts}
use Rattle.std.proofs.lemmas.Bool.Decides.{nat_tests}
use Rattle.std.proofs.lemmas.List.Folds.{list_all-append}
use Rattle.dita_doc.specs.Tree as tree
use Rattle.dita_doc.specs.Tree.{Content, are_placed, nodes_of, size_of, tree_of}
use Rattle.dita_doc.specs.declared.doc.Doc.{Doc}
use Rattle.dita_doc.specs.declared.doc.Node as doc
use Rattle.map_spec.specs.Written.{Chars, Node, written_in}
use Rattle.readers.specs.Named.{name_at, under_names, named_found, named_tree}
use Rattle.readers.specs.Told.{doc_of, tree_found}

-- one name stands at the only place
only_name : (name : List ℕ) (origin : ℕ) → nat_lt origin 1 ≡ true → name_at (name ∷ []) origin ≡ name
only_name name zero placed = refl
only_name name (suc origin) placed = absurd (grind (arith, nat_tests))

all_named : (name : List ℕ) (all : Content) (place : ℕ) → are_placed 1 (nodes_of all place) ≡ true
    → under_names (name ∷ []) all ≡ written_in name all
all_named name tree.End place placed = refl
all_named name (tree.Chars text origin line rest) place placed =
    let parts = and_parts (nat_lt origin 1) (are_placed 1 (nodes_of rest (place + 1))) placed in
    ap₂ (Chars text) (only_name name origin parts.0) (all_named name rest (place + 1) parts.1)
all_named name (tree.Element text attributes origin line inside rest) place placed =
    let end = place + 1 + size_of inside in
    let parts = and_parts (nat_lt origin 1) (are_placed 1 (nodes_of inside (place + 1) ++ nodes_of rest end)) placed in
    let both = and_parts (are_placed 1 (nodes_of inside (place + 1))) (are_placed 1 (nodes_of rest end))
    (sym (list_all-append (λ (node : doc.Node). nat_lt node.origin 1) (nodes_of inside (place + 1)) (nodes_of rest end))
    ∙ parts.1) in
    ap (λ n. Node (record { name = text; attributes = attributes; doc = n; line = line; href_doc = n })
    (under_names (name ∷ []) inside) (under_names (name ∷ []) rest)) (only_name name origin parts.0)
    ∙ ap₂ (Node (record { name = text; attributes = attributes; doc = name; line = line; href_doc = name }))
    (all_named name inside (place + 1) both.0) (all_named name rest end both.1)

pub tree_named : (stored : Doc) (name : List ℕ) → stored.origins ≡ name ∷ []
    → named_tree stored ≡ written_in name (tree_of stored.nodes)
tree_named stored name one =
    let placed : are_placed 1 (nodes_of (tree_of stored.nodes) 0) ≡ true =
    subst (λ nodes. are_placed 1 nodes ≡ true) stored.tree
    (subst (λ (names : List (List ℕ)). are_placed (length names) stored.nodes ≡ true) one stored.placed) in
    ap (λ names. under_names names (tree_of stored.nodes)) one ∙ all_named name (tree_of stored.nodes) 0 placed

-- what was found of a name, if it was all written there
pub found_named : (name : List ℕ) (found : Option (Arc Doc Global))
    → IfSome (doc_of found) (λ (stored : Doc). stored.origins ≡ name ∷ [])
    → named_found found ≡ option_map (written_in name) (tree_found found)
found_named name None one = refl
found_named name (Some stored) one = ap Some (tree_named (arc_value stored) name one)
