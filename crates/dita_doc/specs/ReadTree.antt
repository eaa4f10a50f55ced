-- What the tree of a PYX text keeps (PYX notation; the depth and the one attribute of a name are our own): one root,
-- names, values and texts as lines give them, no text that is empty or stands beside another.
use Rattle.std.specs.Prelude.{◌≡◌, ◌+◌, ◌<◌, ℕ, true, false, List, [], ◌∷◌, bytes_eq}
use Rattle.std.specs.List.{list_any}
use Rattle.std.specs.Str.{is_utf8}
use Rattle.dita_doc.specs.declared.doc.Attribute.{Attribute}
use Rattle.dita_doc.specs.Bytes.{line_feed, carriage_return}
use Rattle.dita_doc.specs.Cut.{Lacks}
use Rattle.dita_doc.specs.Pyx.{IsWritten, IsOneElement}
use Rattle.dita_doc.specs.PyxEvent.{read_depth_limit}
use Rattle.dita_doc.specs.PyxLine.{is_line_name}
use Rattle.dita_doc.specs.Tree.{Content, End, Chars, Element}

-- a name: not empty, and without space, tab, LF and CR
pub record IsReadName (name : List ℕ) : Type 0 where
  pub spelled : is_line_name name ≡ true
  pub utf8 : is_utf8 name ≡ true
  pub no_feed : Lacks line_feed name
  pub no_return : Lacks carriage_return name

-- a value or a text: it holds no CR
pub record IsReadText (text : List ℕ) : Type 0 where
  pub utf8 : is_utf8 text ≡ true
  pub no_return : Lacks carriage_return text

-- attributes behind others of these names: no name stands twice
abbrev pub AreReadAfter : List (List ℕ) → List Attribute → Type 0
AreReadAfter names [] = Unit {0}
AreReadAfter names (attribute ∷ attributes) =
    IsReadName attribute.name × IsReadText attribute.value × (list_any (bytes_eq attribute.name) names ≡ false)
    × AreReadAfter (attribute.name ∷ names) attributes

-- a content that stands within so many elements: none of its own is deeper than the limit
abbrev pub IsReadWithin : ℕ → Content → Type 0
IsReadWithin depth End = Unit {0}
IsReadWithin depth (Chars text origin line rest) = IsReadText text × IsReadWithin depth rest
IsReadWithin depth (Element name attributes origin line inside rest) =
    IsReadName name × (depth < read_depth_limit) × AreReadAfter [] attributes
    × IsReadWithin (depth + 1) inside × IsReadWithin depth rest

pub record IsReadTree (tree : Content) : Type 0 where
  pub one : IsOneElement tree
  pub written : IsWritten tree
  pub parts : IsReadWithin 0 tree
