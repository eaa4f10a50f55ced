-- Nodes are read in one way: no two lists of nodes have the same bytes.
use Rattle.std.specs.Prelude.{◌≡◌, ◌==◌, ◌||◌, ℕ, true, false, List, [], ◌∷◌, ◌++◌, codes, drop, if◌then◌else◌}
use Rattle.std.specs.List.{flat_map, list_all, list_any}
use Rattle.std.proofs.Common.{refl, sym, ap, ◌∙◌, append_assoc, append-nil, arith}
use Rattle.std.proofs.lemmas.Bool.{or_parts, not-true}
use Rattle.html_laws.specs.Markup.{Piece, Itself, Ampersand, LessThan, GreaterThan, DoubleQuote, Nodes, NoNodes, Text, Void, Element, Attribute, AreNodes, attribute_bytes, is_attribute, is_text_piece, nodes_bytes, piece_bytes, start_bytes}
use Rattle.html_laws.proofs.TagOnceLaws.{attributes_once, attributes_stop, piece_once}
use Rattle.html_laws.proofs.WordLaws.{cut_by, element_word, is_stop, is_word, lacks_stop, not_both, void_word}

-- What a text begins with: 0 for nothing or an end tag, 1 for a piece, 2 for a start tag

unfoldable pub kind_behind : List ℕ → ℕ
kind_behind [] = 0
kind_behind (b ∷ rest) = if b == 47 then 0 else 2

unfoldable pub kind_of : List ℕ → ℕ
kind_of [] = 0
kind_of (b ∷ rest) = if b == 60 then kind_behind rest else 1

unfoldable pub node_kind : Nodes → ℕ
node_kind NoNodes = 0
node_kind (Text piece more) = 1
node_kind (Void name attributes more) = 2
node_kind (Element name attributes inside more) = 2

kind_of_piece : (piece : Piece) (rest : List ℕ) → is_text_piece piece ≡ true → kind_of (piece_bytes piece ++ rest) ≡ 1
unfolding kind_of
kind_of_piece (Itself b) rest is =
    let parts = or_parts ((b == 38) || (b == 60)) (b == 62) (not-true _ is) in
    let other : (b == 60) ≡ false = (or_parts (b == 38) (b == 60) parts.0).1 in
    rw other refl
kind_of_piece Ampersand rest is = refl
kind_of_piece LessThan rest is = refl
kind_of_piece GreaterThan rest is = refl
kind_of_piece DoubleQuote rest is = refl

no_slash : (b : ℕ) (name : List ℕ) → is_word (b ∷ name) ≡ true → (b == 47) ≡ false
no_slash b name is =
    let whole = or_parts (is_stop b) (list_any is_stop name) (lacks_stop (b ∷ name) is) in
    let first = or_parts ((b == 32) || (b == 47) || (b == 61)) (b == 62) whole.0 in
    let second = or_parts ((b == 32) || (b == 47)) (b == 61) first.0 in
    (or_parts (b == 32) (b == 47) second.0).1

kind_of_tag : (name rest : List ℕ) → is_word name ≡ true → kind_of (60 ∷ (name ++ rest)) ≡ 2
unfolding kind_of kind_behind
kind_of_tag [] rest is = absurd (cc)
kind_of_tag (b ∷ name) rest is = let other = no_slash b name is in rw other refl

-- Tags

pub start_parts : (name attributes rest : List ℕ)
    → (codes "<" ++ name ++ attributes ++ codes ">") ++ rest ≡ 60 ∷ (name ++ (attributes ++ (62 ∷ rest)))
start_parts name attributes rest = simp append_assoc

pub record AreSame (name other : List ℕ) (attributes others : List Attribute) (x y : List ℕ) : Type 0 where
  pub names : name ≡ other
  pub attributes_too : attributes ≡ others
  pub behind : x ≡ y

pub start_once : (name other : List ℕ) (attributes others : List Attribute) (x y : List ℕ) → is_word name ≡ true
    → is_word other ≡ true → list_all is_attribute attributes ≡ true → list_all is_attribute others ≡ true
    → start_bytes name attributes ++ x ≡ start_bytes other others ++ y → AreSame name other attributes others x y
start_once name other attributes others x y word word_too all all_too e =
    let inside : List ℕ = flat_map attribute_bytes attributes in
    let inside_too : List ℕ = flat_map attribute_bytes others in
    let whole = sym (start_parts name inside x) ∙ e ∙ start_parts other inside_too y in
    let names = cut_by is_stop name other (inside ++ (62 ∷ x)) (inside_too ++ (62 ∷ y)) (lacks_stop name word)
    (lacks_stop other word_too) (attributes_stop attributes x) (attributes_stop others y) (ap (drop 1) whole) in
    let parts = attributes_once attributes others x y all all_too names.1 in
    record { names = names.0; attributes_too = parts.0; behind = parts.1 }

-- Nodes

-- an element with what follows
pub element_parts : (start inside opens name closes more rest : List ℕ)
    → (start ++ inside ++ (opens ++ name ++ closes) ++ more) ++ rest
    ≡ start ++ (inside ++ (opens ++ (name ++ (closes ++ (more ++ rest)))))
element_parts start inside opens name closes more rest = simp append_assoc

pub kind_of_nodes : (nodes : Nodes) (rest : List ℕ) → AreNodes nodes → kind_of rest ≡ 0
    → kind_of (nodes_bytes nodes ++ rest) ≡ node_kind nodes
unfolding node_kind
kind_of_nodes NoNodes rest are is = is
kind_of_nodes (Text piece more) rest are is =
    ap kind_of (append_assoc (piece_bytes piece) (nodes_bytes more) rest)
    ∙ kind_of_piece piece (nodes_bytes more ++ rest) are.0
kind_of_nodes (Void name attributes more) rest are is =
    ap kind_of (append_assoc (start_bytes name attributes) (nodes_bytes more) rest
    ∙ start_parts name (flat_map attribute_bytes attributes) (nodes_bytes more ++ rest))
    ∙ kind_of_tag name _ (void_word name are.0)
kind_of_nodes (Element name attributes inside more) rest are is =
    ap kind_of (element_parts (start_bytes name attributes) (nodes_bytes inside) (codes "</") name (codes ">")
    (nodes_bytes more) rest
    ∙ start_parts name (flat_map attribute_bytes attributes) _)
    ∙ kind_of_tag name _ (element_word name are.0)

module _ (nodes others : Nodes) (x y : List ℕ) (are : AreNodes nodes) (are_too : AreNodes others)
    (ends : kind_of x ≡ 0) (ends_too : kind_of y ≡ 0) (e : nodes_bytes nodes ++ x ≡ nodes_bytes others ++ y) where
  same_kind : node_kind nodes ≡ node_kind others
  same_kind = sym (kind_of_nodes nodes x are ends) ∙ ap kind_of e ∙ kind_of_nodes others y are_too ends_too

-- a piece, a tag and an element, where what follows is read in one way

abbrev IsReadOnce : Nodes → Type 0
IsReadOnce nodes = (others : Nodes) (x y : List ℕ) → AreNodes nodes → AreNodes others → kind_of x ≡ 0 → kind_of y ≡ 0
    → nodes_bytes nodes ++ x ≡ nodes_bytes others ++ y → (nodes ≡ others) × (x ≡ y)

text_same : (piece other : Piece) (more others : Nodes) → piece ≡ other → more ≡ others
    → Text piece more ≡ Text other others
text_same piece other more others first second = rw (first, second) refl

text_once : (piece other : Piece) (more others : Nodes) (x y : List ℕ) → IsReadOnce more
    → AreNodes (Text piece more) → AreNodes (Text other others) → kind_of x ≡ 0 → kind_of y ≡ 0
    → nodes_bytes (Text piece more) ++ x ≡ nodes_bytes (Text other others) ++ y
    → (Text piece more ≡ Text other others) × (x ≡ y)
text_once piece other more others x y once are are_too ends ends_too e =
    let whole = sym (append_assoc (piece_bytes piece) (nodes_bytes more) x) ∙ e
    ∙ append_assoc (piece_bytes other) (nodes_bytes others) y in
    let parts = piece_once piece other (nodes_bytes more ++ x) (nodes_bytes others ++ y) are.0 are_too.0 whole in
    let rest = once others x y are.1 are_too.1 ends ends_too parts.1 in
    (text_same piece other more others parts.0 rest.0, rest.1)

void_same : (name other : List ℕ) (attributes attributes_too : List Attribute) (more others : Nodes) → name ≡ other
    → attributes ≡ attributes_too → more ≡ others → Void name attributes more ≡ Void other attributes_too others
void_same name other attributes attributes_too more others first second third = rw (first, second, third) refl

void_once : (name other : List ℕ) (attributes attributes_too : List Attribute) (more others : Nodes) (x y : List ℕ)
    → IsReadOnce more → AreNodes (Void name attributes more) → AreNodes (Void other attributes_too others)
    → kind_of x ≡ 0 → kind_of y ≡ 0
    → nodes_bytes (Void name attributes more) ++ x ≡ nodes_bytes (Void other attributes_too others) ++ y
    → (Void name attributes more ≡ Void other attributes_too others) × (x ≡ y)
void_once name other attributes attributes_too more others x y once are are_too ends ends_too e =
    let whole = sym (append_assoc (start_bytes name attributes) (nodes_bytes more) x) ∙ e
    ∙ append_assoc (start_bytes other attributes_too) (nodes_bytes others) y in
    let tags = start_once name other attributes attributes_too (nodes_bytes more ++ x) (nodes_bytes others ++ y)
    (void_word name are.0) (void_word other are_too.0) are.1 are_too.1 whole in
    let rest = once others x y are.2 are_too.2 ends ends_too tags.behind in
    (void_same name other attributes attributes_too more others tags.names tags.attributes_too rest.0, rest.1)

element_same : (name other : List ℕ) (attributes attributes_too : List Attribute) (inside inside_too more others : Nodes)
    → name ≡ other → attributes ≡ attributes_too → inside ≡ inside_too → more ≡ others
    → Element name attributes inside more ≡ Element other attributes_too inside_too others
element_same name other attributes attributes_too inside inside_too more others first second third fourth =
    rw (first, second, third, fourth) refl

-- behind an end tag
end_once : (name other x y : List ℕ) → is_word name ≡ true → is_word other ≡ true
    → 60 ∷ 47 ∷ (name ++ (62 ∷ x)) ≡ 60 ∷ 47 ∷ (other ++ (62 ∷ y)) → x ≡ y
end_once name other x y word word_too e =
    let parts = cut_by is_stop name other (62 ∷ x) (62 ∷ y) (lacks_stop name word) (lacks_stop other word_too) refl refl
    (ap (drop 2) e) in
    ap (drop 1) parts.1

element_once : (name other : List ℕ) (attributes attributes_too : List Attribute) (inside inside_too more others : Nodes)
    (x y : List ℕ) → IsReadOnce inside → IsReadOnce more → AreNodes (Element name attributes inside more)
    → AreNodes (Element other attributes_too inside_too others) → kind_of x ≡ 0 → kind_of y ≡ 0
    → nodes_bytes (Element name attributes inside more) ++ x
    ≡ nodes_bytes (Element other attributes_too inside_too others) ++ y
    → (Element name attributes inside more ≡ Element other attributes_too inside_too others) × (x ≡ y)
unfolding kind_of kind_behind
element_once name other attributes attributes_too inside inside_too more others x y once_inside once are are_too ends
    ends_too e =
    let behind : List ℕ = 60 ∷ 47 ∷ (name ++ (62 ∷ (nodes_bytes more ++ x))) in
    let behind_too : List ℕ = 60 ∷ 47 ∷ (other ++ (62 ∷ (nodes_bytes others ++ y))) in
    let whole = sym (element_parts (start_bytes name attributes) (nodes_bytes inside) (codes "</") name (codes ">")
    (nodes_bytes more) x) ∙ e
    ∙ element_parts (start_bytes other attributes_too) (nodes_bytes inside_too) (codes "</") other (codes ">")
    (nodes_bytes others) y in
    let tags = start_once name other attributes attributes_too (nodes_bytes inside ++ behind)
    (nodes_bytes inside_too ++ behind_too) (element_word name are.0) (element_word other are_too.0) are.1 are_too.1
    whole in
    let within = once_inside inside_too behind behind_too are.2 are_too.2 refl refl tags.behind in
    let after = end_once name other (nodes_bytes more ++ x) (nodes_bytes others ++ y) (element_word name are.0)
    (element_word other are_too.0) within.1 in
    let rest = once others x y are.3 are_too.3 ends ends_too after in (
      element_same name other attributes attributes_too inside inside_too more others tags.names tags.attributes_too
          within.0 rest.0,
      rest.1,
    )

-- a tag that holds nothing is no element
void_or_element : (name other : List ℕ) (attributes attributes_too : List Attribute) (inside more others : Nodes)
    (x y : List ℕ) → AreNodes (Void name attributes more) → AreNodes (Element other attributes_too inside others)
    → nodes_bytes (Void name attributes more) ++ x ≡ nodes_bytes (Element other attributes_too inside others) ++ y → ⊥
void_or_element name other attributes attributes_too inside more others x y are are_too e =
    let whole = sym (append_assoc (start_bytes name attributes) (nodes_bytes more) x) ∙ e
    ∙ element_parts (start_bytes other attributes_too) (nodes_bytes inside) (codes "</") other (codes ">")
    (nodes_bytes others) y in
    let tags = start_once name other attributes attributes_too (nodes_bytes more ++ x) _ (void_word name are.0)
    (element_word other are_too.0) are.1 are_too.1 whole in
    not_both name are.0 (rw (sym tags.names) at are_too.0)

-- Whole lists

nodes_once : (nodes : Nodes) → IsReadOnce nodes
unfolding node_kind
nodes_once NoNodes NoNodes x y are are_too ends ends_too e = (refl, e)
nodes_once NoNodes (Text other others) x y are are_too ends ends_too e =
    absurd (let kinds : 0 ≡ 1 = same_kind NoNodes (Text other others) x y are are_too ends ends_too e in omega arith)
nodes_once NoNodes (Void other attributes others) x y are are_too ends ends_too e =
    absurd (let kinds : 0 ≡ 2 = same_kind NoNodes (Void other attributes others) x y are are_too ends ends_too e in omega arith)
nodes_once NoNodes (Element other attributes inside others) x y are are_too ends ends_too e =
    absurd (let kinds : 0 ≡ 2 = same_kind NoNodes (Element other attributes inside others) x y are are_too ends ends_too e in omega arith)
nodes_once (Text piece more) NoNodes x y are are_too ends ends_too e =
    absurd (let kinds : 1 ≡ 0 = same_kind (Text piece more) NoNodes x y are are_too ends ends_too e in omega arith)
nodes_once (Text piece more) (Text other others) x y are are_too ends ends_too e =
    text_once piece other more others x y (nodes_once more) are are_too ends ends_too e
nodes_once (Text piece more) (Void other attributes others) x y are are_too ends ends_too e =
    absurd (let kinds : 1 ≡ 2 = same_kind (Text piece more) (Void other attributes others) x y are are_too ends ends_too e in omega arith)
nodes_once (Text piece more) (Element other attributes inside others) x y are are_too ends ends_too e =
    absurd (let kinds : 1 ≡ 2 = same_kind (Text piece more) (Element other attributes inside others) x y are are_too ends ends_too e in omega arith)
nodes_once (Void name attributes more) NoNodes x y are are_too ends ends_too e =
    absurd (let kinds : 2 ≡ 0 = same_kind (Void name attributes more) NoNodes x y are are_too ends ends_too e in omega arith)
nodes_once (Void name attributes more) (Text other others) x y are are_too ends ends_too e =
    absurd (let kinds : 2 ≡ 1 = same_kind (Void name attributes more) (Text other others) x y are are_too ends ends_too e in omega arith)
nodes_once (Void name attributes more) (Void other attributes_too others) x y are are_too ends ends_too e =
    void_once name other attributes attributes_too more others x y (nodes_once more) are are_too ends ends_too e
nodes_once (Void name attributes more) (Element other attributes_too inside others) x y are are_too ends ends_too e =
    absurd (void_or_element name other attributes attributes_too inside more others x y are are_too e)
nodes_once (Element name attributes inside more) NoNodes x y are are_too ends ends_too e =
    absurd (let kinds : 2 ≡ 0 = same_kind (Element name attributes inside more) NoNodes x y are are_too ends ends_too e in omega arith)
nodes_once (Element name attributes inside more) (Text other others) x y are are_too ends ends_too e =
    absurd (let kinds : 2 ≡ 1 = same_kind (Element name attributes inside more) (Text other others) x y are are_too ends ends_too e in omega arith)
nodes_once (Element name attributes inside more) (Void other attributes_too others) x y are are_too ends ends_too e =
    absurd (void_or_element other name attributes_too attributes inside others more y x are_too are (sym e))
nodes_once (Element name attributes inside more) (Element other attributes_too inside_too others) x y are are_too ends
    ends_too e =
    element_once name other attributes attributes_too inside inside_too more others x y (nodes_once inside)
    (nodes_once more) are are_too ends ends_too e

-- no two lists of nodes have the same bytes
pub one_reading : (nodes others : Nodes) → AreNodes nodes → AreNodes others → nodes_bytes nodes ≡ nodes_bytes others
    → nodes ≡ others
unfolding kind_of
one_reading nodes others are are_too e =
    (nodes_once nodes others [] [] are are_too refl refl
    (append-nil (nodes_bytes nodes) ∙ e ∙ sym (append-nil (nodes_bytes others)))).0
