-- The marks of a body's nodes are those of the content that it is the preorder of.
use Rattle.std.specs.Prelude.{◌≡◌, ◌+◌, ℕ, List, [], ◌∷◌, ◌++◌, Option, Some, None, map}
use Rattle.std.proofs.Common.{refl, sym, ap, ◌∙◌}
use Rattle.dita_doc.specs.Tree.{Content, End, Chars, Element, ArePreorder, nodes_of, size_of, tree_of}
use Rattle.dita_doc.specs.declared.content.Mark.{Mark}
use Rattle.dita_doc.specs.declared.content.Resolved.{Resolved}
use Rattle.dita_doc.specs.declared.content.Rule.{Rule}
use Rattle.dita_doc.specs.declared.doc.Attribute.{Attribute}
use Rattle.dita_doc.specs.declared.doc.Node.{Node}
use Rattle.flag_marks.specs.Marks.{attributes_at, marks_from}
use Rattle.conref_spec.specs.Content.{Made}
use Rattle.part_spec.specs.Parts.{attributes_in, marks_in}
use Rattle.doc_maker.specs.Made.{resolved_tree, written_from}

-- the attributes of the nodes of two contents, one behind the other
at_both : (nodes more : List Node)
    → map attributes_at (nodes ++ more) ≡ map attributes_at nodes ++ map attributes_at more
at_both [] more = refl
at_both (node ∷ nodes) more =
    ap (λ (rest : List (Option (List Attribute))). attributes_at node ∷ rest) (at_both nodes more)

-- content as the language sees it has the attributes of its preorder, from whatever places both are counted
pub attributes_of_content : (names : List (List ℕ)) (hrefs : List ℕ) (content : Content) (place at : ℕ)
    → attributes_in (written_from names hrefs place content) ≡ map attributes_at (nodes_of content at)
attributes_of_content names hrefs End place at = refl
attributes_of_content names hrefs (Chars text origin line rest) place at =
    ap (λ (more : List (Option (List Attribute))). None ∷ more)
    (attributes_of_content names hrefs rest (place + 1) (at + 1))
attributes_of_content names hrefs (Element name attributes origin line inside rest) place at =
    let end = at + 1 + size_of inside in
    ap (λ (held : List (Option (List Attribute))). Some attributes
    ∷ (held ++ attributes_in (written_from names hrefs (place + 1 + size_of inside) rest)))
    (attributes_of_content names hrefs inside (place + 1) (at + 1))
    ∙ ap (λ (more : List (Option (List Attribute))). Some attributes
    ∷ (map attributes_at (nodes_of inside (at + 1)) ++ more))
    (attributes_of_content names hrefs rest (place + 1 + size_of inside) end)
    ∙ ap (λ (all : List (Option (List Attribute))). Some attributes ∷ all)
    (sym (at_both (nodes_of inside (at + 1)) (nodes_of rest end)))

-- so has the tree of nodes that are a preorder
pub attributes_of_nodes : (names : List (List ℕ)) (hrefs : List ℕ) (nodes : List Node) → ArePreorder nodes 0
    → attributes_in (written_from names hrefs 0 (tree_of nodes)) ≡ map attributes_at nodes
attributes_of_nodes names hrefs nodes tree =
    attributes_of_content names hrefs (tree_of nodes) 0 0 ∙ ap (map attributes_at) (sym tree)

-- and resolved content
pub attributes_of_body : (body : Resolved) → attributes_in (resolved_tree body) ≡ map attributes_at body.doc.nodes
attributes_of_body body = attributes_of_nodes body.doc.origins body.hrefs body.doc.nodes body.doc.tree

-- the marks of a body are those of what was made, if it is that
pub marks_of_body : (rules : List (List Rule)) (made : Made) (body : Resolved) → resolved_tree body ≡ made.nodes
    → body.declared ≡ made.declared
    → marks_from rules 0 body.declared (map attributes_at body.doc.nodes) ≡ marks_in rules made
marks_of_body rules made body nodes declared =
    ap (λ (names : List (List (List ℕ))). marks_from rules 0 names (map attributes_at body.doc.nodes)) declared
    ∙ ap (marks_from rules 0 made.declared)
    (sym (attributes_of_body body) ∙ ap attributes_in nodes)

-- the same of marks that were given
pub marks_made : (rules : List (List Rule)) (made : Made) (body : Resolved) (marks : List Mark)
    → resolved_tree body ≡ made.nodes → body.declared ≡ made.declared
    → marks ≡ marks_from rules 0 body.declared (map attributes_at body.doc.nodes) → marks ≡ marks_in rules made
marks_made rules made body marks nodes declared is = is ∙ marks_of_body rules made body nodes declared
