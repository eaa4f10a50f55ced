-- Some bytes are no markup: a lone sign, a tag without its other half, and an element of another name.
use Rattle.std.specs.Prelude.{◌≡◌, ℕ, true, false, List, [], ◌∷◌, ◌++◌, codes, drop}
use Rattle.std.specs.List.{list_all}
use Rattle.std.proofs.Common.{refl, sym, ap, subst, ◌∙◌, append-nil, arith}
use Rattle.dita_doc.proofs.Lists.{joined_four}
use Rattle.html_laws.specs.Markup.{Ampersand, AreNodes, Attribute, DoubleQuote, Element, GreaterThan, IsMarkup, Itself, LessThan, Nodes, NoNodes, Piece, Text, Void, element_names, end_bytes, is_among, is_attribute, is_text_piece, nodes_bytes, piece_bytes, start_bytes, void_names}
use Rattle.html_laws.proofs.OnceLaws.{AreSame, kind_behind, kind_of, kind_of_nodes, node_kind, start_once}
use Rattle.html_laws.proofs.WordLaws.{element_word, is_word, void_word}

-- what markup begins with
begins_as : (bytes : List ℕ) (nodes : Nodes) → AreNodes nodes → bytes ≡ nodes_bytes nodes
    → kind_of bytes ≡ node_kind nodes
unfolding kind_of
begins_as bytes nodes are e =
    ap kind_of (e ∙ sym (append-nil (nodes_bytes nodes))) ∙ kind_of_nodes nodes [] are refl

-- Nothing but nothing begins as an end tag does, or with a lone `<`

empty_by : (bytes : List ℕ) (nodes : Nodes) → node_kind nodes ≡ 0 → bytes ≡ nodes_bytes nodes → bytes ≡ []
unfolding node_kind
empty_by bytes NoNodes kind e = e
empty_by bytes (Text piece more) kind e = absurd (omega arith)
empty_by bytes (Void name attributes more) kind e = absurd (omega arith)
empty_by bytes (Element name attributes inside more) kind e = absurd (omega arith)

only_empty : (bytes : List ℕ) → kind_of bytes ≡ 0 → IsMarkup bytes → bytes ≡ []
only_empty bytes kind is = empty_by bytes is.0 (sym (begins_as bytes is.0 is.1 is.2) ∙ kind) is.2

not_empty : (b : ℕ) (rest : List ℕ) → b ∷ rest ≡ [] → ⊥
not_empty b rest e = cc

pub no_lone_sign : IsMarkup (codes "<") → ⊥
unfolding kind_of kind_behind
no_lone_sign is = not_empty 60 [] (only_empty (codes "<") refl is)

pub no_lone_end : IsMarkup (codes "</p>") → ⊥
unfolding kind_of kind_behind
no_lone_end is = not_empty 60 (codes "/p>") (only_empty (codes "</p>") refl is)

-- A lone `&`

no_piece : (piece : Piece) (rest : List ℕ) → is_text_piece piece ≡ true → 38 ∷ [] ≡ piece_bytes piece ++ rest → ⊥
no_piece (Itself b) rest is e =
    let same : b ≡ 38 = cc in
    let clash : is_text_piece (Itself 38) ≡ true = subst (λ c. is_text_piece (Itself c) ≡ true) same is in
    cc
no_piece Ampersand rest is e = not_empty 97 (109 ∷ 112 ∷ 59 ∷ rest) (sym (ap (drop 1) e))
no_piece LessThan rest is e = not_empty 108 (116 ∷ 59 ∷ rest) (sym (ap (drop 1) e))
no_piece GreaterThan rest is e = not_empty 103 (116 ∷ 59 ∷ rest) (sym (ap (drop 1) e))
no_piece DoubleQuote rest is e = not_empty 113 (117 ∷ 111 ∷ 116 ∷ 59 ∷ rest) (sym (ap (drop 1) e))

no_text : (nodes : Nodes) → AreNodes nodes → node_kind nodes ≡ 1 → 38 ∷ [] ≡ nodes_bytes nodes → ⊥
unfolding node_kind
no_text NoNodes are kind e = omega arith
no_text (Text piece more) are kind e = no_piece piece (nodes_bytes more) are.0 e
no_text (Void name attributes more) are kind e = omega arith
no_text (Element name attributes inside more) are kind e = omega arith

pub no_lone_ampersand : IsMarkup (codes "&") → ⊥
unfolding kind_of
no_lone_ampersand is = no_text is.0 is.1 (sym (begins_as (codes "&") is.0 is.1 is.2)) is.2

-- Tags

some_behind : (front : List ℕ) (b : ℕ) (back : List ℕ) → front ++ b ∷ back ≡ [] → ⊥
some_behind [] b back e = cc
some_behind (c ∷ front) b back e = cc

-- a start tag without attributes, and that with which markup begins
tag_of : (name rest own : List ℕ) (attributes : List Attribute) (behind : List ℕ) → is_word name ≡ true
    → is_word own ≡ true
    → list_all is_attribute attributes ≡ true
    → start_bytes name [] ++ rest ≡ start_bytes own attributes ++ behind
    → AreSame name own [] attributes rest behind
tag_of name rest own attributes behind word word_too all e = start_once name own [] attributes rest behind word word_too
    refl all e

-- an element of another name
no_other : (name rest : List ℕ) (nodes : Nodes) → is_word name ≡ true → is_among void_names name ≡ false
    → is_among element_names name ≡ false → AreNodes nodes → node_kind nodes ≡ 2
    → start_bytes name [] ++ rest ≡ nodes_bytes nodes → ⊥
unfolding node_kind
no_other name rest NoNodes word none other are kind e = omega arith
no_other name rest (Text piece more) word none other are kind e = omega arith
no_other name rest (Void own attributes more) word none other are kind e =
    let same = tag_of name rest own attributes (nodes_bytes more) word (void_word own are.0) are.1 e in
    let clash : is_among void_names name ≡ true = subst (λ text. is_among void_names text ≡ true) (sym same.names) are.0 in
    cc
no_other name rest (Element own attributes inside more) word none other are kind e =
    let behind = nodes_bytes inside ++ (end_bytes own ++ nodes_bytes more) in
    let whole = e ∙ joined_four (start_bytes own attributes) (nodes_bytes inside) (end_bytes own) (nodes_bytes more) in
    let same = tag_of name rest own attributes behind word (element_word own are.0) are.1 whole in
    let clash : is_among element_names name ≡ true =
    subst (λ text. is_among element_names text ≡ true) (sym same.names) are.0 in
    cc

pub no_script : IsMarkup (codes "<script></script>") → ⊥
unfolding kind_of kind_behind element_names void_names
no_script is =
    no_other (codes "script") (codes "</script>") is.0 refl refl refl is.1
    (sym (begins_as (codes "<script></script>") is.0 is.1 is.2)) is.2

-- a start tag without its end tag
no_end : (name : List ℕ) (nodes : Nodes) → is_word name ≡ true → is_among void_names name ≡ false → AreNodes nodes
    → node_kind nodes ≡ 2 → start_bytes name [] ++ [] ≡ nodes_bytes nodes → ⊥
unfolding node_kind
no_end name NoNodes word none are kind e = omega arith
no_end name (Text piece more) word none are kind e = omega arith
no_end name (Void own attributes more) word none are kind e =
    let same = tag_of name [] own attributes (nodes_bytes more) word (void_word own are.0) are.1 e in
    let clash : is_among void_names name ≡ true = subst (λ text. is_among void_names text ≡ true) (sym same.names) are.0 in
    cc
no_end name (Element own attributes inside more) word none are kind e =
    let behind = nodes_bytes inside ++ (end_bytes own ++ nodes_bytes more) in
    let whole = e ∙ joined_four (start_bytes own attributes) (nodes_bytes inside) (end_bytes own) (nodes_bytes more) in
    let same = tag_of name [] own attributes behind word (element_word own are.0) are.1 whole in
    some_behind (nodes_bytes inside) 60 (codes "/" ++ own ++ codes ">" ++ nodes_bytes more) (sym same.behind)

pub no_lone_start : IsMarkup (codes "<p>") → ⊥
unfolding kind_of kind_behind void_names
no_lone_start is =
    no_end (codes "p") is.0 refl refl is.1 (sym (begins_as (codes "<p>") is.0 is.1 is.2)) is.2
