-- The root of a document: the first element of its nodes.
use Rattle.std.specs.Prelude.{◌≡◌, ◌+◌, ℕ, Bool, List, Option, find}
use Rattle.std.proofs.Common.{refl, ap, ◌∙◌}
use Rattle.dita_doc.specs.Tree.{Content, End, Chars, Element, is_element, nodes_of, tree_of}
use Rattle.dita_doc.specs.declared.doc.Doc.{Doc}
use Rattle.dita_doc.specs.declared.doc.Node.{Node}
use Rattle.doc_elements.specs.Root.{root_element, root_named}
use Rattle.map_spec.specs.Written.{written_in}

abbrev pub is_element_node : Node → Bool
is_element_node node = is_element node.kind

first_by : (name : List ℕ) (content : Content) (place : ℕ)
    → root_named name (find is_element_node (nodes_of content place)) ≡ root_element (written_in name content)
first_by name End place = refl
first_by name (Chars text origin line rest) place = first_by name rest (place + 1)
first_by name (Element label attributes origin line inside rest) place = refl

pub root_first : (name : List ℕ) (doc : Doc) (found : Option Node) → found ≡ find is_element_node doc.nodes
    → root_named name found ≡ root_element (written_in name (tree_of doc.nodes))
root_first name doc found is =
    ap (root_named name) (is ∙ ap (find is_element_node) doc.tree) ∙ first_by name (tree_of doc.nodes) 0
