-- The node at a place of a document, as it is resolved alone.
use Rattle.std.specs.Prelude.{◌≡◌, ◌+◌, ◌≤◌, ℕ, true, List, [], Option, Some, None, Result, Ok, Err, OnOk, length, slice_get, unwrap_or}
use Rattle.std.proofs.Common.{refl, ap, ◌∙◌}
use Rattle.dita_doc.specs.Siblings.{IsElementAt, doc_of_siblings, content_at}
use Rattle.dita_doc.specs.Tree.{Content, End, Chars, Element, chars_node, tree_of}
use Rattle.dita_doc.specs.declared.doc.Doc.{Doc}
use Rattle.dita_doc.specs.declared.doc.Node.{Node}
use Rattle.dita_doc.specs.declared.siblings.Siblings.{Siblings}
use Rattle.dita_doc.specs.declared.stop.Stop.{Stop}
use Rattle.dita_doc.specs.declared.stop.Stop.TheVariants as stops
use Rattle.doc_elements.specs.Walk.{element_of}
use Rattle.map_spec.specs.Written as written
use Rattle.map_spec.specs.Written.{Whole, Written}
use Rattle.conref_spec.specs.Content.{Made}
use Rattle.readers.specs.Named.{name_at, under_names}
use Rattle.conref_targets.specs.Asking.{element_around}
use Rattle.conref_targets.specs.Origin.{named_content}
use Rattle.conref_targets.specs.Parts.{AreSiblingsAt, has_first, first_alone}
use Rattle.conref_targets.specs.Tables.{AreTables, Documents}
use Rattle.conref_targets.specs.declared.tables.PlaceTables.{PlaceTables}
use Rattle.conref_targets.proofs.OriginLaws.{origin_there, whole_there}
use Rattle.conref_targets.proofs.PartLaws.{element_node_there, element_there, no_element_there, text_there}
use Rattle.conref_pull.specs.Putting.{Puts}
use Rattle.conref_pull.specs.Walking.{Walks}
use Rattle.conref_pull.specs.declared.resolver.Resolver.{Resolver}
use Rattle.conref_pull.specs.declared.resolver.TooMany.{TooMany}
use Rattle.conref_pull.proofs.SiblingLaws.{put_walked}

some_name : (found : Option (List ℕ)) → (found ≡ None → ⊥) → ◌≡◌ {A = Option (List ℕ)} (Some (unwrap_or found [])) found
some_name None not_none = absurd (not_none refl)
some_name (Some name) not_none = refl

abbrev by_whole : Option Whole → Written
by_whole None = written.End
by_whole (Some one) = written.Node one.0 one.1 written.End

-- it is an element
pub node_element : (doc : Doc) (place : ℕ) (part : Content) (node : Node) (inside : Siblings)
    → AreSiblingsAt (tree_of doc.nodes) place part → has_first part ≡ true → IsElementAt doc place node inside
    → written.Node (element_around inside node) (named_content inside) written.End
    ≡ first_alone (under_names doc.origins part)
node_element doc place End node inside there first is = cc
node_element doc place (Chars text origin line rest) node inside there first is =
    let none = no_element_there (tree_of doc.nodes) place text origin line rest there in
    let some = is.element in cc
node_element doc place (Element label attributes origin line held rest) node inside there first is =
    let home : Some (name_at doc.origins node.origin) ≡ slice_get doc.origins node.origin =
    some_name (slice_get doc.origins node.origin) (λ none. origin_there doc place node is.here none) in
    let name_is : name_at (doc_of_siblings inside).origins node.origin ≡ name_at doc.origins node.origin =
    ap (λ (d : Doc). name_at d.origins node.origin) is.within in
    let found = whole_there doc place (Element label attributes origin line held rest) node inside
    (name_at doc.origins node.origin) there refl is.element is.within home in
    ap (λ n. written.Node (element_of n node) (named_content inside) written.End) name_is ∙ ap by_whole found

-- it is a text
pub node_text : (doc : Doc) (place : ℕ) (part : Content) (node : Node) → AreSiblingsAt (tree_of doc.nodes) place part
    → has_first part ≡ true → content_at (tree_of doc.nodes) place ≡ None → slice_get doc.nodes place ≡ Some node
    → written.Chars node.text (name_at doc.origins node.origin) written.End ≡ first_alone (under_names doc.origins part)
node_text doc place End node there first none is = cc
node_text doc place (Chars text origin line rest) node there first none is =
    let some = text_there doc.nodes doc.tree place text origin line rest there in
    let same : node ≡ chars_node text origin line (place + 1) = cc in
    ap (λ (n : Node). written.Chars n.text (name_at doc.origins n.origin) written.End) same
node_text doc place (Element label attributes origin line held rest) node there first none is =
    let some = element_there (tree_of doc.nodes) place label attributes origin line held rest there in cc

-- there is one
pub node_none : (doc : Doc) (place : ℕ) (part : Content) → AreSiblingsAt (tree_of doc.nodes) place part
    → has_first part ≡ true → slice_get doc.nodes place ≡ None → ⊥
node_none doc place End there first none = cc
node_none doc place (Chars text origin line rest) there first none =
    let some = text_there doc.nodes doc.tree place text origin line rest there in cc
node_none doc place (Element label attributes origin line held rest) there first none =
    let some = element_node_there doc.nodes doc.tree place label attributes origin line held rest there in cc

pub puts_walks : (result : Result (Unit {0}) (Stop TooMany)) (documents : Documents) (links : ℕ) (made : Made)
    (a b : Resolver) (places : PlaceTables) → Puts result made a b → OnOk result (b.path ≡ a.path)
    → links ≤ length a.path.items → AreTables documents places → Walks result documents links made a b places
puts_walks (Ok done) documents links made a b places put path within tables =
    put_walked documents links made a b places put path within tables
puts_walks (Err (stops.Fault fault)) documents links made a b places put path within tables =
    record { much = put; tables = tables }
puts_walks (Err stops.NoMemory) documents links made a b places put path within tables = tt

pub some_node : (node : Node) (found : Option Node) → found ≡ Some node → found ≡ None → ⊥
some_node node found is none = cc
