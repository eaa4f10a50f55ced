-- The first of some siblings: its place, what stands behind it, and the documents in which the nodes were written.
use Rattle.std.specs.Prelude.{◌≡◌, ℕ, List, []}
use Rattle.std.proofs.Common.{refl}
use Rattle.dita_doc.specs.Tree as tree
use Rattle.dita_doc.specs.Tree.{Content}
use Rattle.dita_doc.specs.declared.doc.Attribute.{Attribute}
use Rattle.dita_doc.specs.declared.doc.Doc.{Doc}
use Rattle.dita_doc.specs.declared.doc.Node as doc
use Rattle.map_spec.specs.Written.{Chars, Node}
use Rattle.readers.specs.Named.{name_at, under_names}

-- Origins

-- Places

-- Nodes in one document

module _ (home : Doc) (left : Content) where
  pub first_named : (name : List ℕ) (attributes : List Attribute) (origin line : ℕ) (inside rest : Content)
      (inner behind : Doc) → left ≡ tree.Element name attributes origin line inside rest → inner ≡ home → behind ≡ home
      → under_names home.origins left ≡ Node (record {
        name = name;
        attributes = attributes;
        doc = name_at inner.origins origin;
        line = line;
        href_doc = name_at inner.origins origin;
      }) (under_names inner.origins inside) (under_names behind.origins rest)
  first_named name attributes origin line inside rest inner behind is within after = rw (is, within, after) refl

  pub text_named : (text : List ℕ) (origin line : ℕ) (rest : Content) (behind : Doc)
      → left ≡ tree.Chars text origin line rest → behind ≡ home
      → under_names home.origins left ≡ Chars text (name_at home.origins origin) (under_names behind.origins rest)
  text_named text origin line rest behind is after = rw (is, after) refl
