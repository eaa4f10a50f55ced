-- Escapes and folds of texts in UTF-8 are UTF-8 again.
use Rattle.std.specs.Prelude.{◌≡◌, ◌<◌, ◌≤◌, ◌==◌, ℕ, Bool, true, false, List, [], ◌∷◌, ◌++◌, length, if◌then◌else◌}
use Rattle.std.specs.List.{flat_map, All}
use Rattle.std.specs.Str.{IsUtf8, is_utf8}
use Rattle.std.proofs.Common.{refl, sym, subst, arith, eqb}
use Rattle.std.proofs.Math.Utf8.{encode}
use Rattle.std.proofs.lemmas.Bool.Decides.{nat_tests}
use Rattle.std.proofs.lemmas.List.Elements.{All-head, All-tail, All-filter}
use Rattle.std.proofs.lemmas.Str.{IsUtf8-append, IsUtf8-nil, IsUtf8-from_is_utf8, is_utf8-from_IsUtf8}
use Rattle.dita_doc.specs.Bytes.{parts_by, has_bytes}
use Rattle.dita_doc.specs.PlainText.{is_blank_byte, folded}
use Rattle.dita_doc.specs.PyxEscapes.{unescaped, unescaped_after, escaped, escaped_byte}
use Rattle.dita_doc.proofs.EscapeLaws.{escaped_by_bytes, spaced_from, words_of, folded_words}
use Rattle.dita_doc.proofs.Utf8Laws.{AreHigh, Grows, utf8_grows, utf8_cons, utf8_parts}

utf8_if : (test : Bool) (x y : List ℕ) → IsUtf8 x → IsUtf8 y → IsUtf8 (if test then x else y)
utf8_if true x y first second = first
utf8_if false x y first second = second

-- Texts with escapes

-- what is written for a byte; one that is no ASCII stands for itself
pub record ShowsAscii (shown : ℕ → List ℕ) : Type 0 where
  pub low : (b : ℕ) → b < 128 → IsUtf8 (shown b)
  pub high : (b : ℕ) → 128 ≤ b → shown b ≡ b ∷ []

pub high_shown : (shown : ℕ → List ℕ) (char rest : List ℕ) → ShowsAscii shown → AreHigh char
    → flat_map shown (char ++ rest) ≡ char ++ flat_map shown rest
high_shown shown [] rest shows high = refl
high_shown shown (b ∷ char) rest shows high = rw (shows.high b high.0, high_shown shown char rest shows high.1) refl

pub utf8_shown : (shown : ℕ → List ℕ) (bytes : List ℕ) → ShowsAscii shown → IsUtf8 bytes → IsUtf8 (flat_map shown bytes)
utf8_shown shown bytes shows utf8 = utf8_grows (λ (text : List ℕ). IsUtf8 (flat_map shown text)) bytes (record {
  none = IsUtf8-nil;
  low = λ b rest less whole well. IsUtf8-append (shown b) (flat_map shown rest) (shows.low b less) well;
  high = λ char rest high some first whole well.
      subst IsUtf8 (sym (high_shown shown char rest shows high)) (IsUtf8-append char _ first well);
}) utf8

pub utf8_escaped : (bytes : List ℕ) → IsUtf8 bytes → IsUtf8 (escaped bytes)
unfolding encode
utf8_escaped bytes utf8 = rw (escaped_by_bytes bytes) (utf8_shown escaped_byte bytes (record {
  low = λ b less.
      utf8_if (b == 10) _ _ (92 ∷ 110 ∷ [], (refl, refl))
      (utf8_if (b == 9) _ _ (92 ∷ 116 ∷ [], (refl, refl))
      (utf8_if (b == 92) _ _ (92 ∷ 92 ∷ [], (refl, refl)) (utf8_cons b [] less IsUtf8-nil)));
  high = λ b high. grind (arith, nat_tests);
}) utf8)

-- the same in the words of specs/
pub is_utf8_escaped : (bytes : List ℕ) → is_utf8 bytes ≡ true → is_utf8 (escaped bytes) ≡ true
is_utf8_escaped bytes utf8 = is_utf8-from_IsUtf8 (escaped bytes) (utf8_escaped bytes (IsUtf8-from_is_utf8 bytes utf8))

-- What the escapes of PYX stand for

high_unescaped : (char rest : List ℕ) → AreHigh char
    → unescaped_after false (char ++ rest) ≡ char ++ unescaped_after false rest
high_unescaped [] rest high = refl
high_unescaped (b ∷ char) rest high =
    let above : 128 ≤ b = high.0 in
    let other : eqb b 92 ≡ false = grind (arith, nat_tests) in
    rw (other, high_unescaped char rest high.1) refl

high_after : (char rest : List ℕ) → AreHigh char → 0 < length char
    → unescaped_after true (char ++ rest) ≡ 92 ∷ (char ++ unescaped_after false rest)
high_after [] rest high some = absurd (omega arith)
high_after (b ∷ char) rest high some =
    let above : 128 ≤ b = high.0 in
    let n : eqb b 110 ≡ false = grind (arith, nat_tests) in
    let t : eqb b 116 ≡ false = grind (arith, nat_tests) in
    let s : eqb b 92 ≡ false = grind (arith, nat_tests) in
    rw (n, t, s, high_unescaped char rest high.1) refl

abbrev UnescapesWell : List ℕ → Type 0
UnescapesWell bytes = IsUtf8 (unescaped_after false bytes) × IsUtf8 (unescaped_after true bytes)

unescapes_low : (b : ℕ) (rest : List ℕ) → b < 128 → UnescapesWell rest → UnescapesWell (b ∷ rest)
unescapes_low b rest less well =
    let plain = well.0 in (
      utf8_if (b == 92) (unescaped_after true rest) (b ∷ unescaped_after false rest) well.1 (utf8_cons b _ less plain),
      utf8_if (b == 110) _ _ (utf8_cons 10 _ (omega arith) plain)
          (utf8_if (b == 116) _ _ (utf8_cons 9 _ (omega arith) plain)
          (utf8_if (b == 92) _ _ (utf8_cons 92 _ (omega arith) plain)
          (utf8_cons 92 _ (omega arith) (utf8_cons b _ less plain)))),
    )

unescapes_high : (char rest : List ℕ) → AreHigh char → 0 < length char → IsUtf8 char → UnescapesWell rest
    → UnescapesWell (char ++ rest)
unescapes_high char rest high some first well =
    let joined = IsUtf8-append char _ first well.0 in (
      subst IsUtf8 (sym (high_unescaped char rest high)) joined,
      subst IsUtf8 (sym (high_after char rest high some)) (utf8_cons 92 _ (omega arith) joined),
    )

unescapes_grow : Grows UnescapesWell
unescapes_grow = record {
  none = (IsUtf8-nil, utf8_cons 92 [] (omega arith) IsUtf8-nil);
  low = λ b rest less whole well. unescapes_low b rest less well;
  high = λ char rest high some first whole well. unescapes_high char rest high some first well;
}

pub utf8_unescaped : (bytes : List ℕ) → IsUtf8 bytes → IsUtf8 (unescaped bytes)
utf8_unescaped bytes utf8 = (utf8_grows UnescapesWell bytes unescapes_grow utf8).0

-- Texts on one line

utf8_spaced : (begun : Bool) (words : List (List ℕ)) → All IsUtf8 words → IsUtf8 (spaced_from begun words)
utf8_spaced begun [] all = IsUtf8-nil
utf8_spaced begun (word ∷ words) all =
    let rest = utf8_spaced true words (All-tail IsUtf8 word words all) in
    let here = IsUtf8-append word (spaced_from true words) (All-head IsUtf8 word words all) rest in
    utf8_if begun _ _ (utf8_cons 32 _ (omega arith) here) here

pub utf8_folded : (text : List ℕ) → IsUtf8 text → IsUtf8 (folded text)
utf8_folded text utf8 =
    let parts = utf8_parts is_blank_byte text (λ b high. grind (arith, nat_tests)) utf8 in
    let words : All IsUtf8 (words_of text) = All-filter has_bytes IsUtf8 (parts_by is_blank_byte text) parts in
    subst IsUtf8 (folded_words text) (utf8_spaced false (words_of text) words)
