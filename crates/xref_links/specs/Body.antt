-- The content of a resolved body (own): each node was written in the document at its origin's place, and each element's
-- href in the document that the body tells for it.
use Rattle.std.specs.Prelude.{◌+◌, ℕ, List, slice_get, unwrap_or}
use Rattle.dita_doc.specs.Tree as tree
use Rattle.dita_doc.specs.Tree.{Content, size_of, tree_of}
use Rattle.dita_doc.specs.declared.content.Resolved.{Resolved}
use Rattle.dita_doc.specs.declared.doc.Node as doc
use Rattle.map_spec.specs.Written.{Element, Written, End, Chars, Node}
use Rattle.readers.specs.Named.{name_at}

-- the document in which the href of the node at a place was written
abbrev pub href_home : Resolved → ℕ → List ℕ
href_home body place = name_at body.doc.origins (unwrap_or (slice_get body.hrefs place) 0)

abbrev pub body_element : Resolved → ℕ → doc.Node → Element
body_element body place node = record {
  name = node.text;
  attributes = node.attributes;
  doc = name_at body.doc.origins node.origin;
  line = node.line;
  href_doc = href_home body place;
}

-- nodes of the body, the first of them at this place
abbrev pub written_at : Resolved → ℕ → Content → Written
written_at body place tree.End = End
written_at body place (tree.Chars text origin line rest) =
    Chars text (name_at body.doc.origins origin) (written_at body (place + 1) rest)
written_at body place (tree.Element name attributes origin line inside rest) =
    Node (record {
      name = name;
      attributes = attributes;
      doc = name_at body.doc.origins origin;
      line = line;
      href_doc = href_home body place;
    })
    (written_at body (place + 1) inside) (written_at body (place + 1 + size_of inside) rest)

abbrev pub written_of : Resolved → Written
written_of body = written_at body 0 (tree_of body.doc.nodes)
