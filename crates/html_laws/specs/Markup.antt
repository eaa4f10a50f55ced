-- The markup of a page (in the words of the HTML Living Standard, "Writing HTML documents"; the lists of names are our
-- own): a page is the doctype and nodes. A node is a piece of text, a tag that holds nothing, or a start tag, nodes, and
-- the end tag of the same name.
use Rattle.std.specs.Prelude.{◌≡◌, ◌==◌, ◌&&◌, ◌||◌, ℕ, Bool, true, not, List, [], ◌∷◌, ◌++◌, map, codes, bytes_eq}
use Rattle.std.specs.List.{flat_map, list_all, list_any}
use Rattle.dita_doc.specs.Bytes.{ampersand, double_quote, greater_than, less_than, spaced_words}
use Rattle.ditaval_rules.specs.Verdict.{conditional_names}

-- Pieces of a text: a byte that stands for itself, or one of four references

pub data Piece : Type 0 where
  Itself : (byte : ℕ) → Piece
  Ampersand : Piece
  LessThan : Piece
  GreaterThan : Piece
  DoubleQuote : Piece

abbrev pub piece_bytes : Piece → List ℕ
piece_bytes (Itself byte) = byte ∷ []
piece_bytes Ampersand = codes "&amp;"
piece_bytes LessThan = codes "&lt;"
piece_bytes GreaterThan = codes "&gt;"
piece_bytes DoubleQuote = codes "&quot;"

-- the byte that a reader takes it for
abbrev pub meant_by : Piece → ℕ
meant_by (Itself byte) = byte
meant_by Ampersand = ampersand
meant_by LessThan = less_than
meant_by GreaterThan = greater_than
meant_by DoubleQuote = double_quote

-- in a text `&`, `<` and `>` do not stand for themselves
abbrev pub is_text_piece : Piece → Bool
is_text_piece (Itself byte) = not ((byte == ampersand) || (byte == less_than) || (byte == greater_than))
is_text_piece _ = true

-- in a value `"` does not either
abbrev pub is_value_piece : Piece → Bool
is_value_piece (Itself byte) = not (byte == double_quote) && is_text_piece (Itself byte)
is_value_piece _ = true

-- Names: no others stand on a page

abbrev pub is_among : List (List ℕ) → List ℕ → Bool
is_among names name = list_any (bytes_eq name) names

-- of elements that have a start tag and an end tag
unfoldable pub element_names : List (List ℕ)
element_names =
    spaced_words (codes "html head title body nav article section div p h1 h2 h3 h4 h5 h6 blockquote q cite")
    ++ spaced_words (codes "figure figcaption ul ol li dl dt dd pre span b i u sup sub code a")
    ++ spaced_words (codes "table caption thead tbody tr th td")

-- of elements that are one tag
unfoldable pub void_names : List (List ℕ)
void_names = spaced_words (codes "meta img")

-- of attributes; the conditional ones of the source stand behind `data-`
unfoldable pub attribute_names : List (List ℕ)
attribute_names = spaced_words (codes "charset id class href src alt rowspan colspan")
    ++ map (λ name. codes "data-" ++ name) conditional_names

-- Tags

pub record Attribute : Type 0 where
  pub name : List ℕ
  pub value : List Piece

abbrev pub attribute_bytes : Attribute → List ℕ
attribute_bytes attribute =
    codes " " ++ attribute.name ++ codes "=\"" ++ flat_map piece_bytes attribute.value ++ codes "\""

abbrev pub is_attribute : Attribute → Bool
is_attribute attribute = is_among attribute_names attribute.name && list_all is_value_piece attribute.value

abbrev pub start_bytes : List ℕ → List Attribute → List ℕ
start_bytes name attributes = codes "<" ++ name ++ flat_map attribute_bytes attributes ++ codes ">"

abbrev pub end_bytes : List ℕ → List ℕ
end_bytes name = codes "</" ++ name ++ codes ">"

-- Nodes side by side: none; a piece of text and more; a tag that holds nothing, and more; or an element and more

pub data Nodes : Type 0 where
  NoNodes : Nodes
  Text : (piece : Piece) (more : Nodes) → Nodes
  Void : (name : List ℕ) (attributes : List Attribute) (more : Nodes) → Nodes
  Element : (name : List ℕ) (attributes : List Attribute) (inside more : Nodes) → Nodes

abbrev pub nodes_bytes : Nodes → List ℕ
nodes_bytes NoNodes = []
nodes_bytes (Text piece more) = piece_bytes piece ++ nodes_bytes more
nodes_bytes (Void name attributes more) = start_bytes name attributes ++ nodes_bytes more
nodes_bytes (Element name attributes inside more) =
    start_bytes name attributes ++ nodes_bytes inside ++ end_bytes name ++ nodes_bytes more

abbrev pub AreNodes : Nodes → Type 0
AreNodes NoNodes = Unit {0}
AreNodes (Text piece more) = (is_text_piece piece ≡ true) × AreNodes more
AreNodes (Void name attributes more) =
    (is_among void_names name ≡ true) × (list_all is_attribute attributes ≡ true) × AreNodes more
AreNodes (Element name attributes inside more) =
    (is_among element_names name ≡ true) × (list_all is_attribute attributes ≡ true) × AreNodes inside × AreNodes more

-- Bytes that are nodes, and a page

abbrev pub IsMarkup : List ℕ → Type 0
IsMarkup bytes = (nodes : Nodes) × AreNodes nodes × (bytes ≡ nodes_bytes nodes)

abbrev pub IsPage : List ℕ → Type 0
IsPage bytes = (nodes : Nodes) × AreNodes nodes × (bytes ≡ codes "<!DOCTYPE html>" ++ nodes_bytes nodes)

-- Texts: pieces that show a text, of which a reader reads that text again

abbrev pub IsShown : (Piece → Bool) → (shown text : List ℕ) → Type 0
IsShown is_piece shown text = (pieces : List Piece) × (list_all is_piece pieces ≡ true)
    × (shown ≡ flat_map piece_bytes pieces) × (map meant_by pieces ≡ text)
