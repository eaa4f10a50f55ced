-- The names of attributes that texts of UTF-8 declare are UTF-8.
use Rattle.std.specs.Prelude.{◌≡◌, ◌≤◌, ◌==◌, ◌++◌, ℕ, Bool, true, false, not, List, [], ◌∷◌, Option, Some, None, IfSome, filter, codes, bytes_eq, if◌then◌else◌}
use Rattle.std.specs.List.{AllByRecursion, filter_map, last_or}
use Rattle.std.specs.Option.{option_and_then, option_to_list}
use Rattle.std.specs.Str.{IsUtf8}
use Rattle.std.proofs.Common.{refl, ap, arith}
use Rattle.std.proofs.lemmas.Bool.{eqb-true}
use Rattle.std.proofs.lemmas.List.Elements.{recursion_from_All}
use Rattle.std.proofs.lemmas.Slice.Eq.{bytes_eq-Decides}
use Rattle.std.proofs.lemmas.Bool.Decides.{nat_tests}
use Rattle.dita_doc.specs.Bytes.{close_parenthesis, has_bytes, parts_by}
use Rattle.dita_doc.specs.ClassValue.{value_of, words_of}
use Rattle.dita_doc.specs.PlainText.{is_blank_byte}
use Rattle.dita_doc.specs.declared.doc.Attribute.{Attribute}
use Rattle.dita_doc.proofs.Utf8Laws.{AreHigh, utf8_behind, utf8_cut_at, utf8_grows, utf8_parts}
use Rattle.ditaval_rules.specs.Domains.{closed, declared_by, first_of_each, is_new, name_among, name_in, names_declared, opened, piece_at, pieces_from, pieces_of}
use Rattle.html_laws.specs.Utf8.{HasUtf8Value}
use Rattle.html_laws.proofs.ContentUtf8Laws.{utf8_value_of}
use Rattle.html_laws.proofs.EachLaws.{chosen, of_and_then, of_filter_map, of_kept, of_map_or, of_option_map, of_both}
use Rattle.html_laws.proofs.TextUtf8Laws.{IsUtf8If}

-- the words of a text
pub utf8_words : (text : List ℕ) → IsUtf8 text → AllByRecursion IsUtf8 (words_of text)
utf8_words text utf8 =
    let parts = parts_by is_blank_byte text in
    of_kept IsUtf8 has_bytes parts
    (recursion_from_All IsUtf8 parts (utf8_parts is_blank_byte text (λ b high. grind (arith, nat_tests)) utf8))

-- Pieces of a value

-- what stands in front of a `)`
abbrev IsCut : List ℕ → List ℕ → Type 0
IsCut text front = (back : List ℕ) × (text ≡ front ++ 41 ∷ back)

closed_by : (b : ℕ) (rest : List ℕ) (is : Bool) → (b == close_parenthesis) ≡ is → IfSome (closed rest) (IsCut rest)
    → IfSome (closed (b ∷ rest)) (IsCut (b ∷ rest))
closed_by b rest true e behind = rw e (rest, ap (λ (first : ℕ). first ∷ rest) (eqb-true b 41 e))
closed_by b rest false e behind = rw e
    (of_option_map (IsCut rest) (IsCut (b ∷ rest)) (λ text. b ∷ text) (closed rest)
    (λ front cut. (cut.0, ap (λ (bytes : List ℕ). b ∷ bytes) cut.1)) behind)

closed_cut : (text : List ℕ) → IfSome (closed text) (IsCut text)
closed_cut [] = tt
closed_cut (b ∷ rest) = closed_by b rest (b == close_parenthesis) refl (closed_cut rest)

utf8_front : (text : List ℕ) (front : Option (List ℕ)) → IsUtf8 text → IfSome front (IsCut text) → IfSome front IsUtf8
utf8_front text None utf8 cut = tt
utf8_front text (Some front) utf8 cut = (utf8_cut_at 41 text front cut.0 (omega arith) cut.1 utf8).0

utf8_closed : (text : List ℕ) → IsUtf8 text → IfSome (closed text) IsUtf8
utf8_closed text utf8 = utf8_front text (closed text) utf8 (closed_cut text)

-- what stands behind `a(`
opened_by : (b c : ℕ) (rest : List ℕ) (is : Bool) → bytes_eq (b ∷ c ∷ []) (codes "a(") ≡ is → IsUtf8 (c ∷ rest)
    → IfSome (if is then Some rest else None) IsUtf8
opened_by b c rest true e utf8 =
    let same : b ∷ c ∷ [] ≡ 97 ∷ 40 ∷ [] = (bytes_eq-Decides (b ∷ c ∷ []) (codes "a(")).0 e in
    let second : c ≡ 40 = cc in
    utf8_behind c rest (omega (arith, second)) utf8
opened_by b c rest false e utf8 = tt

utf8_opened : (b : ℕ) (rest : List ℕ) → IsUtf8 rest → IfSome (opened (b ∷ rest)) IsUtf8
utf8_opened b [] utf8 = tt
utf8_opened b (c ∷ rest) utf8 = opened_by b c rest (bytes_eq (b ∷ c ∷ []) (codes "a(")) refl utf8

listed : (text : Option (List ℕ)) → IfSome text IsUtf8 → AllByRecursion IsUtf8 (option_to_list text)
listed None is = tt
listed (Some text) is = (is, tt)

utf8_piece : (may_begin : Bool) (b : ℕ) (rest : List ℕ) → IsUtf8 rest
    → AllByRecursion IsUtf8 (piece_at may_begin (b ∷ rest))
utf8_piece true b rest utf8 =
    listed (option_and_then closed (opened (b ∷ rest)))
    (of_and_then IsUtf8 IsUtf8 closed (opened (b ∷ rest)) utf8_closed (utf8_opened b rest utf8))
utf8_piece false b rest utf8 = tt

-- no piece begins at a byte that is no ASCII
unopened_by : (b c : ℕ) (rest : List ℕ) (is : Bool) → bytes_eq (b ∷ c ∷ []) (codes "a(") ≡ is → 128 ≤ b
    → IfSome (if is then Some rest else None) (λ text. ⊥)
unopened_by b c rest true e high =
    let same : b ∷ c ∷ [] ≡ 97 ∷ 40 ∷ [] = (bytes_eq-Decides (b ∷ c ∷ []) (codes "a(")).0 e in
    let first : b ≡ 97 = cc in
    omega (arith, first, high)
unopened_by b c rest false e high = tt

unopened : (b : ℕ) (rest : List ℕ) → 128 ≤ b → IfSome (opened (b ∷ rest)) (λ text. ⊥)
unopened b [] high = tt
unopened b (c ∷ rest) high = unopened_by b c rest (bytes_eq (b ∷ c ∷ []) (codes "a(")) refl high

high_piece : (may_begin : Bool) (b : ℕ) (rest : List ℕ) → 128 ≤ b
    → AllByRecursion IsUtf8 (piece_at may_begin (b ∷ rest))
high_piece true b rest high =
    let none : List ℕ → Type 0 = λ text. ⊥ in
    listed (option_and_then closed (opened (b ∷ rest)))
    (of_and_then none IsUtf8 closed (opened (b ∷ rest)) (λ text is. absurd is) (unopened b rest high))
high_piece false b rest high = tt

abbrev HasUtf8Pieces : List ℕ → Type 0
HasUtf8Pieces text = (may_begin : Bool) → AllByRecursion IsUtf8 (pieces_from may_begin text)

high_pieces : (char rest : List ℕ) → AreHigh char → HasUtf8Pieces rest → HasUtf8Pieces (char ++ rest)
high_pieces [] rest high behind may_begin = behind may_begin
high_pieces (b ∷ char) rest high behind may_begin =
    of_both IsUtf8 (piece_at may_begin (b ∷ (char ++ rest))) (pieces_from (is_blank_byte b) (char ++ rest))
    (high_piece may_begin b (char ++ rest) high.0) (high_pieces char rest high.1 behind (is_blank_byte b))

utf8_pieces : (value : List ℕ) → IsUtf8 value → AllByRecursion IsUtf8 (pieces_of value)
utf8_pieces value utf8 = utf8_grows HasUtf8Pieces value (record {
  none = λ may_begin. tt;
  low = λ b rest less whole behind may_begin.
      of_both IsUtf8 (piece_at may_begin (b ∷ rest)) (pieces_from (is_blank_byte b) rest)
      (utf8_piece may_begin b rest whole) (behind (is_blank_byte b));
  high = λ char rest high some first whole behind. high_pieces char rest high behind;
}) utf8 true

-- Names

utf8_last : (before : Option (List ℕ)) (texts : List (List ℕ)) → IfSome before IsUtf8 → AllByRecursion IsUtf8 texts
    → IfSome (last_or before texts) IsUtf8
utf8_last before [] first all = first
utf8_last before (text ∷ texts) first all = utf8_last (Some text) texts all.0 all.1

utf8_among : (words : List (List ℕ)) → AllByRecursion IsUtf8 words → IfSome (name_among words) IsUtf8
utf8_among [] all = tt
utf8_among (first ∷ more) all =
    chosen IsUtf8If (bytes_eq first (codes "props")) (last_or None more) None (utf8_last None more tt all.1) tt

pub utf8_first_of_each : (names : List (List ℕ)) → AllByRecursion IsUtf8 names
    → AllByRecursion IsUtf8 (first_of_each names)
utf8_first_of_each [] all = tt
utf8_first_of_each (name ∷ names) all =
    (all.0, of_kept IsUtf8 (λ other. not (bytes_eq name other)) (first_of_each names) (utf8_first_of_each names all.1))

pub utf8_names_declared : (value : List ℕ) → IsUtf8 value → AllByRecursion IsUtf8 (names_declared value)
utf8_names_declared value utf8 =
    let names = filter_map name_in (pieces_of value) in
    utf8_first_of_each (filter is_new names)
    (of_kept IsUtf8 is_new names
    (of_filter_map IsUtf8 IsUtf8 name_in (pieces_of value)
    (λ piece is. utf8_among (words_of piece) (utf8_words piece is)) (utf8_pieces value utf8)))

-- names that are declared
abbrev pub AreUtf8Names : List (List ℕ) → Type 0
AreUtf8Names names = AllByRecursion IsUtf8 names

pub utf8_declared_by : (around : List (List ℕ)) (attributes : List Attribute) → AreUtf8Names around
    → AllByRecursion HasUtf8Value attributes → AreUtf8Names (declared_by around attributes)
utf8_declared_by around attributes names all =
    of_map_or IsUtf8 AreUtf8Names names_declared (value_of (codes "domains") attributes) around
    (λ value is. utf8_names_declared value is) (utf8_value_of (codes "domains") attributes all) names
