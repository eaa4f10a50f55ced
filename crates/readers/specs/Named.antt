-- Documents whose nodes were written in several documents (own): each node under the name at its origin's place.
use Rattle.std.specs.Prelude.{ℕ, List, [], ◌∷◌, ◌++◌, Option, option_map, slice_get, unwrap_or, bytes_eq, codes, if◌then◌else◌, None, Some, ◌≡◌}
use Rattle.std.specs.List.{filter_map, list_any}
use Rattle.std.specs.Option.{option_and_then, option_to_list}
use Rattle.std.specs.declared.alloc.Global.{Global}
use Rattle.std.specs.declared.sync.Arc.{Arc}
use Rattle.dita_doc.specs.Tree as tree
use Rattle.dita_doc.specs.Tree.{Content, tree_of}
use Rattle.dita_doc.specs.declared.content.Resolved.{Resolved}
use Rattle.dita_doc.specs.declared.doc.Attribute.{Attribute}
use Rattle.dita_doc.specs.declared.doc.Doc.{Doc}
use Rattle.href_text.specs.Joined.{joined}
use Rattle.href_text.specs.Reference.{is_external}
use Rattle.map_spec.specs.Elements.{attribute}
use Rattle.map_spec.specs.Target.{file_of, if_read}
use Rattle.map_spec.specs.Written.{Element, Written, End, Chars, Node}
use Rattle.readers.specs.Told.{doc_of}

abbrev pub name_at : List (List ℕ) → ℕ → List ℕ
name_at names place = unwrap_or (slice_get names place) []

abbrev pub under_names : List (List ℕ) → Content → Written
under_names names tree.End = End
under_names names (tree.Chars text origin line rest) = Chars text (name_at names origin) (under_names names rest)
under_names names (tree.Element name attributes origin line inside rest) =
    let doc = name_at names origin in
    Node (record { name = name; attributes = attributes; doc = doc; line = line; href_doc = doc })
    (under_names names inside) (under_names names rest)

abbrev pub named_tree : Doc → Written
named_tree doc = under_names doc.origins (tree_of doc.nodes)

abbrev pub named_found : Option (Arc Doc Global) → Option Written
named_found found = option_map named_tree (doc_of found)

-- The names that content gives: those that references of its elements are joined to

abbrev pub references : List (List ℕ)
references = codes "href" ∷ codes "conref" ∷ codes "conrefend" ∷ []

abbrev pub name_joined : List ℕ → List ℕ → Option (List ℕ)
name_joined doc value = if is_external value then None else if_read (joined doc (file_of value))

-- what an attribute names, if it is a reference
abbrev pub name_written : List ℕ → Attribute → Option (List ℕ)
name_written doc written =
    if list_any (bytes_eq written.name) references then name_joined doc written.value else None

abbrev pub names_of_element : Element → List (List ℕ)
names_of_element element = filter_map (name_written element.doc) element.attributes

-- what elements give, each by itself
abbrev pub given_in : (Element → List (List ℕ)) → Written → List (List ℕ)
given_in names End = []
given_in names (Chars text doc rest) = given_in names rest
given_in names (Node element inside rest) = names element ++ (given_in names inside ++ given_in names rest)

abbrev pub given_in_found : (Element → List (List ℕ)) → Option Written → List (List ℕ)
given_in_found names None = []
given_in_found names (Some nodes) = given_in names nodes

abbrev pub names_in : Written → List (List ℕ)
names_in nodes = given_in names_of_element nodes

abbrev pub names_of_found : Option Written → List (List ℕ)
names_of_found found = given_in_found names_of_element found

-- The documents that content references name (DITA 1.3, "The conref attribute")

abbrev pub reused_by : Element → List (List ℕ)
reused_by element = option_to_list (option_and_then (name_joined element.doc) (attribute (codes "conref") element))

abbrev pub reused_in : Written → List (List ℕ)
reused_in nodes = given_in reused_by nodes

abbrev pub reused_of_found : Option Written → List (List ℕ)
reused_of_found found = given_in_found reused_by found

-- The documents that hrefs are joined to, each seen from the document in which it was written

abbrev pub link_names : Element → List (List ℕ)
link_names element =
    option_to_list (option_and_then (name_joined element.href_doc) (attribute (codes "href") element))

abbrev pub linked_in : Written → List (List ℕ)
linked_in nodes = given_in link_names nodes

-- nodes of which each has its href from its own document
abbrev pub with_own_hrefs : Written → Written
with_own_hrefs End = End
with_own_hrefs (Chars text doc rest) = Chars text doc (with_own_hrefs rest)
with_own_hrefs (Node element inside rest) =
    Node (record element { href_doc = element.doc }) (with_own_hrefs inside) (with_own_hrefs rest)

-- these nodes are those of the body, wherever their hrefs were written
abbrev pub AreNodesOf : Resolved → Written → Type 0
AreNodesOf body nodes = with_own_hrefs nodes ≡ named_tree body.doc
