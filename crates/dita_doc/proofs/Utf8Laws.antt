-- UTF-8, byte by byte: texts cut at ASCII bytes, and their lines and parts.
use Rattle.std.specs.Prelude.{◌≡◌, ◌+◌, ◌<◌, ◌≤◌, ◌==◌, ℕ, suc, Bool, true, false, List, [], ◌∷◌, ◌++◌, Some, length, take, drop, if◌then◌else◌}
use Rattle.std.specs.List.{position_or_len, before_first, after_first, slice_get, All}
use Rattle.std.specs.Str.{IsUtf8, IsCharBoundary}
use Rattle.std.proofs.Common.{refl, sym, subst, arith, get_or, ltb, eqb, length-append}
use Rattle.std.proofs.Math.Utf8.{scalar, scalars, encode, encodes}
use Rattle.std.proofs.lemmas.Bool.{and_parts, ltb-true, ltb-false, eqb-true}
use Rattle.std.proofs.lemmas.Bool.Decides.{nat_tests}
use Rattle.std.proofs.lemmas.List.{append-nil, take_all, drop_all, take_at, drop_at, get_or_at}
use Rattle.std.proofs.lemmas.List.Elements.{All-nil, All-cons, All-head, All-tail, All-filter}
use Rattle.std.proofs.lemmas.List.Sums.{split_at_first, passes_at_first}
use Rattle.std.proofs.lemmas.Str.{inside_one, encode_ascii, length-encode, len_utf8_bounds, IsUtf8-encode, IsUtf8-append, IsUtf8-nil, IsUtf8-drop, IsUtf8-take, IsUtf8-from_ascii, IsCharBoundary-after_ascii, IsCharBoundary-before_ascii}
use Rattle.std.proofs.lemmas.Str.Ascii.{IsAscii-cons, IsAscii-nil}
use Rattle.dita_doc.specs.Bytes.{has_bytes, is_space, onto_first, parts_by}
use Rattle.dita_doc.specs.ClassValue.{words_of}
use Rattle.dita_doc.specs.Lines.{lines_of}
use Rattle.dita_doc.specs.PlainText.{is_blank_byte}

-- Characters

-- bytes of characters that are no ASCII
abbrev pub AreHigh : List ℕ → Type 0
AreHigh [] = Unit {0}
AreHigh (b ∷ bytes) = (128 ≤ b) × AreHigh bytes

high_from : (bytes : List ℕ) → ((k : ℕ) → k < length bytes → 128 ≤ get_or bytes k 0) → AreHigh bytes
high_from [] each = tt
high_from (b ∷ bytes) each = (each 0 (omega arith), high_from bytes (λ k less. each (suc k) (omega arith)))

high_byte : (x c : ℕ) (low : Bool) → ltb x 128 ≡ low → (x < 128 → c ≡ x) → 128 ≤ c → 128 ≤ x
high_byte x c true e one high = let less : x < 128 = ltb-true _ _ e in let same = one less in omega arith
high_byte x c false e one high = ltb-false _ _ e

-- such a character has no ASCII byte
high_encode : (c : ℕ) → 128 ≤ c → AreHigh (encode c)
high_encode c high = high_from (encode c) (λ k less. high_byte (get_or (encode c) k 0) c _ refl (λ low.
    inside_one c [] (encode c) k (sym (append-nil (encode c))) less low) high)

-- what holds of the empty text, and of one more character in front, ASCII or not
pub record Grows (P : List ℕ → Type 0) : Type 0 where
  pub none : P []
  pub low : (b : ℕ) (rest : List ℕ) → b < 128 → IsUtf8 rest → P rest → P (b ∷ rest)
  pub high : (char rest : List ℕ) → AreHigh char → 0 < length char → IsUtf8 char → IsUtf8 rest → P rest
      → P (char ++ rest)

grow_char : (P : List ℕ → Type 0) (c : ℕ) (cs : List ℕ) (low : Bool) → ltb c 128 ≡ low → Grows P
    → scalar c ≡ true → scalars cs ≡ true → P (encodes cs) → P (encode c ++ encodes cs)
grow_char P c cs true e grows first others p =
    let less : c < 128 = ltb-true _ _ e in
    let P_behind : List ℕ → Type 0 = λ front. P (front ++ encodes cs) in
    subst P_behind (sym (encode_ascii c less)) (grows.low c (encodes cs) less (cs, (others, refl)) p)
grow_char P c cs false e grows first others p =
    let some : 0 < length (encode c) = omega (arith, length-encode c, len_utf8_bounds c) in
    let high = high_encode c (ltb-false _ _ e) in
    grows.high (encode c) (encodes cs) high some (IsUtf8-encode c first) (cs, (others, refl)) p

grow_chars : (P : List ℕ → Type 0) (cs : List ℕ) → Grows P → scalars cs ≡ true → P (encodes cs)
grow_chars P [] grows e = grows.none
grow_chars P (c ∷ cs) grows e =
    let parts = and_parts (scalar c) (scalars cs) e in
    grow_char P c cs (ltb c 128) refl grows parts.0 parts.1 (grow_chars P cs grows parts.1)

-- holds of each text
pub utf8_grows : (P : List ℕ → Type 0) (bytes : List ℕ) → Grows P → IsUtf8 bytes → P bytes
utf8_grows P bytes grows utf8 = subst P utf8.1.1 (grow_chars P utf8.0 grows utf8.1.0)

-- Cuts

-- an ASCII byte in front, and behind it
pub utf8_cons : (b : ℕ) (rest : List ℕ) → b < 128 → IsUtf8 rest → IsUtf8 (b ∷ rest)
utf8_cons b rest less utf8 =
    IsUtf8-append (b ∷ []) rest (IsUtf8-from_ascii (b ∷ []) (IsAscii-cons b [] less IsAscii-nil)) utf8

pub utf8_behind : (b : ℕ) (rest : List ℕ) → b < 128 → IsUtf8 (b ∷ rest) → IsUtf8 rest
utf8_behind b rest less utf8 =
    IsUtf8-drop (b ∷ rest) 1 utf8 (IsCharBoundary-after_ascii (b ∷ rest) 0 utf8 (omega arith) less)

-- an ASCII byte in a text, be it the first, the last or another of its kind
module _ (byte : ℕ) (bytes front back : List ℕ) (low : byte < 128) (whole : bytes ≡ front ++ byte ∷ back)
    (utf8 : IsUtf8 bytes) where
  inside : length front < length bytes
  inside = rw whole (omega (arith, length-append front (byte ∷ back)))

  stands : get_or bytes (length front) 0 < 128
  stands = rw (whole, get_or_at front byte back 0 (length front) refl) low

  -- what stands before and behind it
  pub utf8_cut_at : IsUtf8 front × IsUtf8 back
  utf8_cut_at =
      let boundary = IsCharBoundary-before_ascii bytes (length front) inside stands in
      let n = length front in
      let before : take n bytes ≡ front = rw whole (take_at front (byte ∷ back) n refl) in
      let behind : drop n bytes ≡ byte ∷ back = rw whole (drop_at front (byte ∷ back) n refl) in (
        subst IsUtf8 before (IsUtf8-take bytes (length front) utf8 boundary),
        utf8_behind byte back low (subst IsUtf8 behind (IsUtf8-drop bytes (length front) utf8 boundary)),
      )

  -- the text may be cut behind it
  pub boundary_behind : IsCharBoundary bytes (length front + 1)
  boundary_behind = IsCharBoundary-after_ascii bytes (length front) utf8 inside stands

-- and behind the first byte of a text, if that is ASCII
pub boundary_after_first : (byte : ℕ) (bytes : List ℕ) → byte < 128 → Some byte ≡ slice_get bytes 0 → IsUtf8 bytes
    → IsCharBoundary bytes 1
boundary_after_first byte [] low first utf8 = absurd (cc)
boundary_after_first byte (b ∷ bytes) low first utf8 =
    let same : b ≡ byte = cc in
    boundary_behind b (b ∷ bytes) [] bytes (omega arith) refl utf8

-- before and behind the first space; without one nothing stands behind
utf8_at_first : (bytes : List ℕ) (there : Bool) → ltb (position_or_len is_space bytes) (length bytes) ≡ there
    → IsUtf8 bytes → IsUtf8 (before_first is_space bytes) × IsUtf8 (after_first is_space bytes)
utf8_at_first bytes true e utf8 =
    let at : ℕ = position_or_len is_space bytes in
    let less : at < length bytes = ltb-true _ _ e in
    let space : get_or bytes at 0 ≡ 32 = eqb-true _ _ (passes_at_first is_space bytes 0 less) in
    let whole = rw space at (split_at_first is_space bytes 0 less) in
    utf8_cut_at 32 bytes (before_first is_space bytes) (after_first is_space bytes) (omega arith) whole utf8
utf8_at_first bytes false e utf8 =
    let at : ℕ = position_or_len is_space bytes in
    let past : length bytes ≤ at = ltb-false _ _ e in
    let none : drop (at + 1) bytes ≡ [] = drop_all (at + 1) bytes (omega arith) in
    (subst IsUtf8 (sym (take_all at bytes past)) utf8, subst IsUtf8 (sym none) IsUtf8-nil)

pub utf8_at_space : (bytes : List ℕ) → IsUtf8 bytes
    → IsUtf8 (before_first is_space bytes) × IsUtf8 (after_first is_space bytes)
utf8_at_space bytes utf8 = utf8_at_first bytes (ltb (position_or_len is_space bytes) (length bytes)) refl utf8

-- Lines and parts

-- the bytes of a character, put before the first of some lines
abbrev onto_lines : List ℕ → List (List ℕ) → List (List ℕ)
onto_lines [] lines = lines
onto_lines (b ∷ char) lines = onto_first b (onto_lines char lines)

onto_some : (char first : List ℕ) (lines : List (List ℕ)) → onto_lines char (first ∷ lines) ≡ (char ++ first) ∷ lines
onto_some [] first lines = refl
onto_some (b ∷ char) first lines = rw (onto_some char first lines) refl

onto_none : (b : ℕ) (char : List ℕ) → onto_lines (b ∷ char) [] ≡ (b ∷ char) ∷ []
onto_none b [] = refl
onto_none b (c ∷ char) = rw (onto_none c char) refl

utf8_onto : (char : List ℕ) (lines : List (List ℕ)) → 0 < length char → IsUtf8 char → All IsUtf8 lines
    → All IsUtf8 (onto_lines char lines)
utf8_onto [] lines some first all = absurd (omega arith)
utf8_onto (b ∷ char) [] some first all =
    rw (onto_none b char) (All-cons IsUtf8 (b ∷ char) [] first (All-nil IsUtf8))
utf8_onto (b ∷ char) (line ∷ lines) some first all =
    let joined = IsUtf8-append (b ∷ char) line first (All-head IsUtf8 line lines all) in
    let longer = All-cons IsUtf8 ((b ∷ char) ++ line) lines joined (All-tail IsUtf8 line lines all) in
    subst (All IsUtf8) (sym (onto_some (b ∷ char) line lines)) longer

-- an ASCII byte in front, by whether it ends a line
utf8_low : (b : ℕ) (lines : List (List ℕ)) (ended : Bool) → b < 128 → All IsUtf8 lines
    → All IsUtf8 (if ended then [] ∷ lines else onto_first b lines)
utf8_low b lines true less all = All-cons IsUtf8 [] lines IsUtf8-nil all
utf8_low b lines false less all = utf8_onto (b ∷ []) lines (omega arith) (utf8_cons b [] less IsUtf8-nil) all

-- what cuts a text, but never at a byte that is no ASCII
record CutsAtAscii (cut : List ℕ → List (List ℕ)) : Type 0 where
  none : All IsUtf8 (cut [])
  low : (b : ℕ) (rest : List ℕ) → b < 128 → All IsUtf8 (cut rest) → All IsUtf8 (cut (b ∷ rest))
  high : (b : ℕ) (rest : List ℕ) → 128 ≤ b → cut (b ∷ rest) ≡ onto_first b (cut rest)

high_cut : (cut : List ℕ → List (List ℕ)) (char rest : List ℕ) → CutsAtAscii cut → AreHigh char
    → cut (char ++ rest) ≡ onto_lines char (cut rest)
high_cut cut [] rest cuts high = refl
high_cut cut (b ∷ char) rest cuts high =
    rw (cuts.high b (char ++ rest) high.0, high_cut cut char rest cuts high.1) refl

utf8_cuts : (cut : List ℕ → List (List ℕ)) (bytes : List ℕ) → CutsAtAscii cut → IsUtf8 bytes → All IsUtf8 (cut bytes)
utf8_cuts cut bytes cuts utf8 = utf8_grows (λ (text : List ℕ). All IsUtf8 (cut text)) bytes (record {
  none = cuts.none;
  low = λ b rest less whole all. cuts.low b rest less all;
  high = λ char rest high some first whole all.
      subst (All IsUtf8) (sym (high_cut cut char rest cuts high)) (utf8_onto char (cut rest) some first all);
}) utf8

pub utf8_lines : (bytes : List ℕ) → IsUtf8 bytes → All IsUtf8 (lines_of bytes)
utf8_lines bytes utf8 = utf8_cuts lines_of bytes (record {
  none = All-nil IsUtf8;
  low = λ b rest less all. utf8_low b (lines_of rest) (b == 10) less all;
  high = λ b rest high. let other : eqb b 10 ≡ false = grind (arith, nat_tests) in rw other refl;
}) utf8

pub utf8_parts : (ends : ℕ → Bool) (bytes : List ℕ) → ((b : ℕ) → 128 ≤ b → ends b ≡ false) → IsUtf8 bytes
    → All IsUtf8 (parts_by ends bytes)
utf8_parts ends bytes none_high utf8 = utf8_cuts (parts_by ends) bytes (record {
  none = All-cons IsUtf8 [] [] IsUtf8-nil (All-nil IsUtf8);
  low = λ b rest less all. utf8_low b (parts_by ends rest) (ends b) less all;
  high = λ b rest high. let other = none_high b high in rw other refl;
}) utf8

-- the words of a text
pub utf8_words : (text : List ℕ) → IsUtf8 text → All IsUtf8 (words_of text)
utf8_words text utf8 = All-filter has_bytes IsUtf8 (parts_by is_blank_byte text)
    (utf8_parts is_blank_byte text (λ b high. grind (arith, nat_tests)) utf8)
