-- Escapes, numbers, attributes and tags in UTF-8.
use Rattle.std.specs.Prelude.{◌≡◌, ◌<◌, ◌≤◌, ◌==◌, ◌/◌, ◌%◌, ℕ, zero, suc, Bool, true, false, List, [], ◌∷◌, ◌++◌, Option, Some, None, IfSome, codes, nat_lt}
use Rattle.std.specs.Fmt.{decimal, digit_glyph, digits, digits_onto}
use Rattle.std.specs.List.{flat_map, list_all}
use Rattle.std.specs.Str.{IsUtf8}
use Rattle.std.proofs.Common.{refl, sym, subst, arith}
use Rattle.std.proofs.lemmas.Bool.{and_parts, ltb-true}
use Rattle.std.proofs.lemmas.Bool.Decides.{nat_tests}
use Rattle.std.proofs.lemmas.Str.{IsUtf8-append, IsUtf8-nil}
use Rattle.dita_doc.specs.HtmlEscapes.{escaped, escaped_byte, escaped_value, escaped_value_byte}
use Rattle.dita_doc.proofs.Utf8Laws.{AreHigh, utf8_cons, utf8_grows}
use Rattle.html_spec.specs.Blocks.{attribute_text, end_tag, start_tag}
use Rattle.html_laws.specs.Markup.{element_names, is_among}
use Rattle.html_laws.proofs.EachLaws.{chosen}
use Rattle.html_laws.proofs.WordLaws.{among_passes}

-- a text that may be there
abbrev pub IsUtf8If : Option (List ℕ) → Type 0
IsUtf8If text = IfSome text IsUtf8

-- ASCII texts

abbrev pub is_low : ℕ → Bool
is_low b = nat_lt b 128

pub utf8_codes : (text : List ℕ) → list_all is_low text ≡ true → IsUtf8 text
utf8_codes [] all = IsUtf8-nil
utf8_codes (b ∷ text) all =
    let parts = and_parts (is_low b) (list_all is_low text) all in
    utf8_cons b text (ltb-true b 128 parts.0) (utf8_codes text parts.1)

-- Escapes

-- what is written for a byte; one that is no ASCII stands for itself
record ShowsAscii (show : ℕ → List ℕ) : Type 0 where
  low : (b : ℕ) → b < 128 → IsUtf8 (show b)
  high : (b : ℕ) → 128 ≤ b → show b ≡ b ∷ []

high_shown : (show : ℕ → List ℕ) (char rest : List ℕ) → ShowsAscii show → AreHigh char
    → flat_map show (char ++ rest) ≡ char ++ flat_map show rest
high_shown show [] rest shows high = refl
high_shown show (b ∷ char) rest shows high = rw (shows.high b high.0, high_shown show char rest shows high.1) refl

utf8_shown : (show : ℕ → List ℕ) (text : List ℕ) → ShowsAscii show → IsUtf8 text → IsUtf8 (flat_map show text)
utf8_shown show text shows utf8 = utf8_grows (λ (bytes : List ℕ). IsUtf8 (flat_map show bytes)) text (record {
  none = IsUtf8-nil;
  low = λ b rest less whole well. IsUtf8-append (show b) (flat_map show rest) (shows.low b less) well;
  high = λ char rest high some first whole well.
      subst IsUtf8 (sym (high_shown show char rest shows high)) (IsUtf8-append char _ first well);
}) utf8

utf8_one : (b : ℕ) → b < 128 → IsUtf8 (b ∷ [])
utf8_one b less = utf8_cons b [] less IsUtf8-nil

escaped_low : (b : ℕ) → b < 128 → IsUtf8 (escaped_byte b)
escaped_low b less =
    chosen IsUtf8 (b == 38) (codes "&amp;") _ (utf8_codes (codes "&amp;") refl)
    (chosen IsUtf8 (b == 60) (codes "&lt;") _ (utf8_codes (codes "&lt;") refl)
    (chosen IsUtf8 (b == 62) (codes "&gt;") (b ∷ []) (utf8_codes (codes "&gt;") refl) (utf8_one b less)))

escaped_high : (b : ℕ) → 128 ≤ b → escaped_byte b ≡ b ∷ []
escaped_high b high = grind (arith, nat_tests)

pub utf8_escaped : (text : List ℕ) → IsUtf8 text → IsUtf8 (escaped text)
utf8_escaped text utf8 = utf8_shown escaped_byte text (record { low = escaped_low; high = escaped_high }) utf8

pub utf8_value : (value : List ℕ) → IsUtf8 value → IsUtf8 (escaped_value value)
utf8_value value utf8 = utf8_shown escaped_value_byte value (record {
  low = λ b less. chosen IsUtf8 (b == 34) (codes "&quot;") (escaped_byte b) (utf8_codes (codes "&quot;") refl)
      (escaped_low b less);
  high = λ b high. grind (arith, nat_tests);
}) utf8

-- Numbers

digit_low : (n : ℕ) → digit_glyph false (n % 10) < 128
digit_low n = let less : n % 10 < 10 = omega arith in grind (arith, nat_tests)

utf8_onto : (k n : ℕ) (behind : List ℕ) → IsUtf8 behind → IsUtf8 (digits_onto k 10 false n behind)
utf8_onto zero n behind utf8 = utf8
utf8_onto (suc k) n behind utf8 =
    let more = utf8_cons (digit_glyph false (n % 10)) behind (digit_low n) utf8 in
    chosen IsUtf8 (n / 10 == 0) _ _ more (utf8_onto k (n / 10) (digit_glyph false (n % 10) ∷ behind) more)

pub utf8_decimal : (n : ℕ) → IsUtf8 (decimal n)
unfolding digits
utf8_decimal n = utf8_onto 64 n [] IsUtf8-nil

-- Parts

pub utf8_three : (x y z : List ℕ) → IsUtf8 x → IsUtf8 y → IsUtf8 z → IsUtf8 (x ++ y ++ z)
utf8_three x y z first second third = IsUtf8-append (x ++ y) z (IsUtf8-append x y first second) third

-- Attributes and tags

utf8_given : (name value : List ℕ) → IsUtf8 name → IsUtf8 value
    → IsUtf8 (codes " " ++ name ++ codes "=\"" ++ value ++ codes "\"")
utf8_given name value first second =
    let space = utf8_codes (codes " ") refl in
    let open_quote = utf8_codes (codes "=\"") refl in
    let close_quote = utf8_codes (codes "\"") refl in
    utf8_three (codes " " ++ name ++ codes "=\"") value (codes "\"")
    (utf8_three (codes " ") name (codes "=\"") space first open_quote) second close_quote

pub utf8_attribute : (name : List ℕ) (value : Option (List ℕ)) → IsUtf8 name → IfSome value IsUtf8
    → IsUtf8 (attribute_text name value)
utf8_attribute name None first second = IsUtf8-nil
utf8_attribute name (Some value) first second = utf8_given name (escaped_value value) first (utf8_value value second)

pub utf8_start : (name attributes : List ℕ) → IsUtf8 name → IsUtf8 attributes → IsUtf8 (start_tag name attributes)
utf8_start name attributes first second =
    utf8_three (codes "<" ++ name) attributes (codes ">")
    (IsUtf8-append (codes "<") name (utf8_codes (codes "<") refl) first) second (utf8_codes (codes ">") refl)

pub utf8_end : (name : List ℕ) → IsUtf8 name → IsUtf8 (end_tag name)
utf8_end name first =
    utf8_three (codes "</") name (codes ">") (utf8_codes (codes "</") refl) first (utf8_codes (codes ">") refl)

element_low : list_all (list_all is_low) element_names ≡ true
unfolding element_names
element_low = refl

pub utf8_name : (name : List ℕ) → is_among element_names name ≡ true → IsUtf8 name
utf8_name name known = utf8_codes name (among_passes (list_all is_low) element_names name element_low known)
