-- Pieces and attributes are read in one way.
use Rattle.std.specs.Prelude.{◌≡◌, ◌==◌, ◌||◌, ℕ, Bool, true, false, not, List, [], ◌∷◌, ◌++◌, codes, drop, if◌then◌else◌}
use Rattle.std.specs.List.{flat_map, list_all, list_any}
use Rattle.std.proofs.Common.{refl, sym, ap, ◌∙◌, append_assoc}
use Rattle.std.proofs.lemmas.Bool.{and_parts, or_parts, or_from, not-true}
use Rattle.std.proofs.lemmas.List.Folds.{list_any-append}
use Rattle.html_laws.specs.Markup.{Piece, Itself, Ampersand, LessThan, GreaterThan, DoubleQuote, Attribute, attribute_bytes, attribute_names, is_among, is_attribute, is_text_piece, is_value_piece, piece_bytes}
use Rattle.html_laws.proofs.WordLaws.{attribute_word, begins, cut_by, is_stop, lacks_stop}

-- Pieces

-- the reference that begins so behind its `&`, with what follows
reference_in : List ℕ → Piece × List ℕ
reference_in [] = (Ampersand, [])
reference_in (b ∷ rest) =
    if b == 97 then (Ampersand, drop 3 rest) else if b == 108 then (LessThan, drop 2 rest)
    else if b == 103 then (GreaterThan, drop 2 rest) else (DoubleQuote, drop 4 rest)

-- the first piece, with what follows
piece_in : List ℕ → Piece × List ℕ
piece_in [] = (Ampersand, [])
piece_in (b ∷ rest) = if b == 38 then reference_in rest else (Itself b, rest)

piece_is_in : (piece : Piece) (rest : List ℕ) → is_text_piece piece ≡ true
    → piece_in (piece_bytes piece ++ rest) ≡ (piece, rest)
unfolding piece_in reference_in
piece_is_in (Itself b) rest is =
    let parts = or_parts ((b == 38) || (b == 60)) (b == 62) (not-true _ is) in
    let other : (b == 38) ≡ false = (or_parts (b == 38) (b == 60) parts.0).0 in
    rw other refl
piece_is_in Ampersand rest is = refl
piece_is_in LessThan rest is = refl
piece_is_in GreaterThan rest is = refl
piece_is_in DoubleQuote rest is = refl

pub piece_once : (piece other : Piece) (x y : List ℕ) → is_text_piece piece ≡ true → is_text_piece other ≡ true
    → piece_bytes piece ++ x ≡ piece_bytes other ++ y → (piece ≡ other) × (x ≡ y)
piece_once piece other x y first second e =
    let same = sym (piece_is_in piece x first) ∙ ap piece_in e ∙ piece_is_in other y second in
    (ap (λ (pair : Piece × List ℕ). pair.0) same, ap (λ (pair : Piece × List ℕ). pair.1) same)

-- the pieces of a value are pieces of a text, and have no `"`
value_is_text : (piece : Piece) → is_value_piece piece ≡ true → is_text_piece piece ≡ true
value_is_text (Itself b) is = (and_parts (not (b == 34)) (is_text_piece (Itself b)) is).1
value_is_text Ampersand is = refl
value_is_text LessThan is = refl
value_is_text GreaterThan is = refl
value_is_text DoubleQuote is = refl

abbrev is_quote : ℕ → Bool
is_quote b = b == 34

piece_lacks : (piece : Piece) → is_value_piece piece ≡ true → list_any is_quote (piece_bytes piece) ≡ false
piece_lacks (Itself b) is =
    or_from _ _ (not-true (b == 34) (and_parts (not (b == 34)) (is_text_piece (Itself b)) is).0) refl
piece_lacks Ampersand is = refl
piece_lacks LessThan is = refl
piece_lacks GreaterThan is = refl
piece_lacks DoubleQuote is = refl

value_lacks : (pieces : List Piece) → list_all is_value_piece pieces ≡ true
    → list_any is_quote (flat_map piece_bytes pieces) ≡ false
value_lacks [] all = refl
value_lacks (piece ∷ pieces) all =
    let parts = and_parts (is_value_piece piece) (list_all is_value_piece pieces) all in
    list_any-append is_quote (piece_bytes piece) (flat_map piece_bytes pieces)
    ∙ or_from _ _ (piece_lacks piece parts.0) (value_lacks pieces parts.1)

-- each piece has a byte
some_bytes : (piece : Piece) (rest : List ℕ) → piece_bytes piece ++ rest ≡ [] → ⊥
some_bytes (Itself b) rest e = cc
some_bytes Ampersand rest e = cc
some_bytes LessThan rest e = cc
some_bytes GreaterThan rest e = cc
some_bytes DoubleQuote rest e = cc

value_once : (pieces others : List Piece) → list_all is_value_piece pieces ≡ true
    → list_all is_value_piece others ≡ true → flat_map piece_bytes pieces ≡ flat_map piece_bytes others
    → pieces ≡ others
value_once [] [] first second e = refl
value_once [] (other ∷ others) first second e =
    absurd (some_bytes other (flat_map piece_bytes others) (sym e))
value_once (piece ∷ pieces) [] first second e = absurd (some_bytes piece (flat_map piece_bytes pieces) e)
value_once (piece ∷ pieces) (other ∷ others) first second e =
    let one = and_parts (is_value_piece piece) (list_all is_value_piece pieces) first in
    let two = and_parts (is_value_piece other) (list_all is_value_piece others) second in
    let parts = piece_once piece other (flat_map piece_bytes pieces) (flat_map piece_bytes others)
    (value_is_text piece one.0) (value_is_text other two.0) e in
    let same : piece ≡ other = parts.0 in
    let rest : pieces ≡ others = value_once pieces others one.1 two.1 parts.1 in
    cc

-- Attributes

-- an attribute in front, cut at its `=` and its last `"`
attribute_parts : (name value rest : List ℕ)
    → (codes " " ++ name ++ codes "=\"" ++ value ++ codes "\"") ++ rest
    ≡ 32 ∷ (name ++ (61 ∷ 34 ∷ (value ++ (34 ∷ rest))))
attribute_parts name value rest = simp append_assoc

attribute_once : (attribute other : Attribute) (x y : List ℕ) → is_attribute attribute ≡ true
    → is_attribute other ≡ true → attribute_bytes attribute ++ x ≡ attribute_bytes other ++ y
    → (attribute ≡ other) × (x ≡ y)
attribute_once attribute other x y first second e =
    let one = and_parts (is_among attribute_names attribute.name) (list_all is_value_piece attribute.value) first in
    let two = and_parts (is_among attribute_names other.name) (list_all is_value_piece other.value) second in
    let value : List ℕ = flat_map piece_bytes attribute.value in
    let value_too : List ℕ = flat_map piece_bytes other.value in
    let whole = sym (attribute_parts attribute.name value x) ∙ e ∙ attribute_parts other.name value_too y in
    let tail : attribute.name ++ (61 ∷ 34 ∷ (value ++ (34 ∷ x))) ≡ other.name ++ (61 ∷ 34 ∷ (value_too ++ (34 ∷ y))) =
    ap (drop 1) whole in
    let names = cut_by is_stop attribute.name other.name (61 ∷ 34 ∷ (value ++ (34 ∷ x)))
    (61 ∷ 34 ∷ (value_too ++ (34 ∷ y))) (lacks_stop attribute.name (attribute_word attribute.name one.0))
    (lacks_stop other.name (attribute_word other.name two.0)) refl refl tail in
    let values = cut_by is_quote value value_too (34 ∷ x) (34 ∷ y) (value_lacks attribute.value one.1)
    (value_lacks other.value two.1) refl refl (ap (drop 2) names.1) in
    let name : attribute.name ≡ other.name = names.0 in
    let pieces : attribute.value ≡ other.value = value_once attribute.value other.value one.1 two.1 values.0 in
    (rw (name, pieces) refl, ap (drop 1) values.1)

-- no attribute begins as the end of a tag does
is_end : ℕ → Bool
is_end b = b == 62

no_end : (x rest : List ℕ) → 62 ∷ x ≡ 32 ∷ rest → ⊥
unfolding is_end
no_end x rest e = let clash : true ≡ false = ap (begins is_end) e in cc

both_same : (attribute other : Attribute) (attributes others : List Attribute) → attribute ≡ other
    → attributes ≡ others → attribute ∷ attributes ≡ other ∷ others
both_same attribute other attributes others first second = rw (first, second) refl

-- attributes up to the end of a tag
pub attributes_once : (attributes others : List Attribute) (x y : List ℕ) → list_all is_attribute attributes ≡ true
    → list_all is_attribute others ≡ true
    → flat_map attribute_bytes attributes ++ 62 ∷ x ≡ flat_map attribute_bytes others ++ 62 ∷ y
    → (attributes ≡ others) × (x ≡ y)
attributes_once [] [] x y first second e = (refl, ap (drop 1) e)
attributes_once [] (other ∷ others) x y first second e = absurd (no_end x _ e)
attributes_once (attribute ∷ attributes) [] x y first second e = absurd (no_end y _ (sym e))
attributes_once (attribute ∷ attributes) (other ∷ others) x y first second e =
    let one = and_parts (is_attribute attribute) (list_all is_attribute attributes) first in
    let two = and_parts (is_attribute other) (list_all is_attribute others) second in
    let behind : List ℕ = flat_map attribute_bytes attributes in
    let behind_too : List ℕ = flat_map attribute_bytes others in
    let whole = sym (append_assoc (attribute_bytes attribute) behind (62 ∷ x)) ∙ e
    ∙ append_assoc (attribute_bytes other) behind_too (62 ∷ y) in
    let parts = attribute_once attribute other (behind ++ 62 ∷ x) (behind_too ++ 62 ∷ y) one.0 two.0 whole in
    let rest = attributes_once attributes others x y one.1 two.1 parts.1 in
    (both_same attribute other attributes others parts.0 rest.0, rest.1)

-- what stands behind the name of a tag ends it
pub attributes_stop : (attributes : List Attribute) (x : List ℕ)
    → begins is_stop (flat_map attribute_bytes attributes ++ 62 ∷ x) ≡ true
attributes_stop [] x = refl
attributes_stop (attribute ∷ attributes) x = refl
