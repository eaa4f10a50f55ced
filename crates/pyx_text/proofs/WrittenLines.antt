-- The lines of a canonical text.
use Rattle.std.specs.Prelude.{◌≡◌, ◌+◌, ◌<◌, ◌==◌, ℕ, zero, suc, true, false, not, List, [], ◌∷◌, ◌++◌, length}
use Rattle.std.specs.List.{list_any}
use Rattle.std.specs.Str.{is_utf8, IsUtf8}
use Rattle.std.proofs.Common.{refl, ◌∙◌, ap, arith, append_assoc, length-append}
use Rattle.std.proofs.lemmas.Bool.{or_parts, or_from, and_parts, not-true}
use Rattle.std.proofs.lemmas.List.{append-nil}
use Rattle.std.proofs.lemmas.Str.{IsUtf8-from_is_utf8, is_utf8-from_IsUtf8, IsUtf8-append}
use Rattle.dita_doc.specs.declared.doc.Attribute.{Attribute}
use Rattle.dita_doc.specs.Tree.{Content, End, Chars, Element}
use Rattle.dita_doc.specs.Cut.{Lacks}
use Rattle.dita_doc.specs.PyxLine.{Line, Opens, Gives, Says, Closes, is_line_name, line_by_byte, line_of}
use Rattle.dita_doc.specs.Bytes.{is_gap, is_space}
use Rattle.dita_doc.specs.Pyx.{lines_from}
use Rattle.dita_doc.specs.PyxEscapes.{escaped}
use Rattle.dita_doc.specs.ReadTree.{IsReadName, IsReadText, AreReadAfter, IsReadWithin}
use Rattle.pyx_text.specs.Canonical.{line_with, attribute_lines, text_of}
use Rattle.dita_doc.proofs.Utf8Laws.{utf8_cons}
use Rattle.dita_doc.proofs.EscapeUtf8Laws.{utf8_escaped}
use Rattle.dita_doc.proofs.LackLaws.{lacks_append}
use Rattle.dita_doc.proofs.EscapeLackLaws.{unescaped_escaped, escaped_lacks_feed, escaped_lacks_return}
use Rattle.pyx_text.proofs.LineLaws.{before_space, behind_space}

-- the lines of attributes and of a content, and then others
abbrev pub given_then : List Attribute → List Line → List Line
given_then [] more = more
given_then (attribute ∷ attributes) more = Gives attribute.name attribute.value ∷ given_then attributes more

abbrev pub said_then : Content → List Line → List Line
said_then End more = more
said_then (Chars text origin line rest) more = Says text ∷ said_then rest more
said_then (Element name attributes origin line inside rest) more =
    Opens name ∷ given_then attributes (said_then inside (Closes name ∷ said_then rest more))

-- bytes without LF and CR, with an LF behind them
line_there : (left n : ℕ) (line bytes more : List ℕ) → left ≡ (length bytes + 1) + n → Lacks 10 bytes → Lacks 13 bytes
    → lines_from left line (bytes ++ 10 ∷ more) ≡ line_of (line ++ bytes) ∷ lines_from n [] more
line_there zero n line bytes more e f r = absurd (omega arith)
line_there (suc left) n line [] more e f r =
    let same : left ≡ n = omega arith in
    rw (append-nil line, same) refl
line_there (suc left) n line (b ∷ bytes) more e f r =
    let feed = or_parts (b == 10) (list_any (λ c. c == 10) bytes) f in
    let return = or_parts (b == 13) (list_any (λ c. c == 13) bytes) r in
    let rest = line_there left n (line ++ b ∷ []) bytes more (omega arith) feed.1 return.1 in
    rw (feed.0, return.0) (rest ∙ ap (λ (l : List ℕ). line_of l ∷ lines_from n [] more)
    (append_assoc line (b ∷ []) bytes))

-- a written line
written_line : (left n first : ℕ) (bytes more : List ℕ) → left ≡ length (line_with first bytes) + n
    → Lacks 10 (first ∷ bytes) → Lacks 13 (first ∷ bytes)
    → lines_from left [] (line_with first bytes ++ more) ≡ line_of (first ∷ bytes) ∷ lines_from n [] more
written_line left n first bytes more e f r =
    let whole : line_with first bytes ++ more ≡ (first ∷ bytes) ++ 10 ∷ more =
    ap (λ (l : List ℕ). first ∷ l) (append_assoc bytes (10 ∷ []) more) in
    let size : left ≡ (length (first ∷ bytes) + 1) + n = omega (arith, length-append bytes (10 ∷ [])) in
    ap (lines_from left []) whole ∙ line_there left n [] (first ∷ bytes) more size f r

-- what such lines say
line_says : (first : ℕ) (rest : List ℕ) → first < 128 → IsUtf8 rest → line_of (first ∷ rest) ≡ line_by_byte first rest
line_says first rest less utf8 =
    let good : is_utf8 (first ∷ rest) ≡ true = is_utf8-from_IsUtf8 (first ∷ rest) (utf8_cons first rest less utf8) in
    rw good refl

-- a name lacks the space
no_space : (name : List ℕ) → list_any is_gap name ≡ false → list_any is_space name ≡ false
no_space [] e = refl
no_space (b ∷ name) e =
    let parts = or_parts (is_gap b) (list_any is_gap name) e in
    or_from _ _ (or_parts (b == 32) (b == 9) parts.0).0 (no_space name parts.1)

name_no_space : (name : List ℕ) → is_line_name name ≡ true → list_any is_space name ≡ false
name_no_space name e =
    let parts = and_parts (not (length name == 0)) (not (list_any is_gap name)) e in
    no_space name (not-true (list_any is_gap name) parts.1)

-- the lines of each kind
opens_line : (name : List ℕ) → IsReadName name → line_of (40 ∷ name) ≡ Opens name
opens_line name read = line_says 40 name (omega arith) (IsUtf8-from_is_utf8 name read.utf8) ∙ rw read.spelled refl

closes_line : (name : List ℕ) → IsReadName name → line_of (41 ∷ name) ≡ Closes name
closes_line name read = line_says 41 name (omega arith) (IsUtf8-from_is_utf8 name read.utf8) ∙ rw read.spelled refl

text_line : (text : List ℕ) → IsReadText text → line_of (45 ∷ escaped text) ≡ Says text
text_line text read = line_says 45 (escaped text) (omega arith) (utf8_escaped text (IsUtf8-from_is_utf8 text read.utf8))
    ∙ ap Says (unescaped_escaped text)

gives_line : (name value : List ℕ) → IsReadName name → IsReadText value
    → line_of (65 ∷ (name ++ 32 ∷ escaped value)) ≡ Gives name value
gives_line name value read given =
    let after_it = utf8_escaped value (IsUtf8-from_is_utf8 value given.utf8) in
    let utf8 = IsUtf8-append name (32 ∷ escaped value) (IsUtf8-from_is_utf8 name read.utf8)
    (utf8_cons 32 (escaped value) (omega arith) after_it) in
    let lacks = name_no_space name read.spelled in
    line_says 65 (name ++ 32 ∷ escaped value) (omega arith) utf8
    ∙ rw (before_space name (escaped value) lacks, behind_space name (escaped value) lacks, read.spelled)
    (ap (Gives name) (unescaped_escaped value))

-- the text of attributes, in front of others
given_lines : (attributes : List Attribute) (names : List (List ℕ)) (left n : ℕ) (more : List ℕ)
    → AreReadAfter names attributes → left ≡ length (attribute_lines attributes) + n
    → lines_from left [] (attribute_lines attributes ++ more) ≡ given_then attributes (lines_from n [] more)
given_lines [] names left n more given e = let same : left ≡ n = omega arith in rw same refl
given_lines (attribute ∷ attributes) names left n more given e =
    let bytes = attribute.name ++ 32 ∷ escaped attribute.value in
    let middle = length (attribute_lines attributes) + n in
    let size : left ≡ length (line_with 65 bytes) + middle =
    omega (arith, length-append (line_with 65 bytes) (attribute_lines attributes)) in
    let f = lacks_append 10 attribute.name (32 ∷ escaped attribute.value) given.0.no_feed
    (escaped_lacks_feed attribute.value) in
    let r = lacks_append 13 attribute.name (32 ∷ escaped attribute.value) given.0.no_return
    (escaped_lacks_return attribute.value given.1.no_return) in
    let first = written_line left middle 65 bytes (attribute_lines attributes ++ more) size f r in
    let rest = given_lines attributes (attribute.name ∷ names) middle n more given.3 refl in
    ap (lines_from left []) (append_assoc (line_with 65 bytes) (attribute_lines attributes) more)
    ∙ (first ∙ rw (gives_line attribute.name attribute.value given.0 given.1, rest) refl)

-- and that of a content
pub written_lines : (c : Content) (depth left n : ℕ) (more : List ℕ) → IsReadWithin depth c
    → left ≡ length (text_of c) + n → lines_from left [] (text_of c ++ more) ≡ said_then c (lines_from n [] more)
written_lines End depth left n more parts e = let same : left ≡ n = omega arith in rw same refl
written_lines (Chars text origin line rest) depth left n more parts e =
    let middle = length (text_of rest) + n in
    let size : left ≡ length (line_with 45 (escaped text)) + middle =
    omega (arith, length-append (line_with 45 (escaped text)) (text_of rest)) in
    let first = written_line left middle 45 (escaped text) (text_of rest ++ more) size (escaped_lacks_feed text)
    (escaped_lacks_return text parts.0.no_return) in
    let behind = written_lines rest depth middle n more parts.1 refl in
    ap (lines_from left []) (append_assoc (line_with 45 (escaped text)) (text_of rest) more)
    ∙ (first ∙ rw (text_line text parts.0, behind) refl)
written_lines (Element name attributes origin line inside rest) depth left n more parts e =
    let shut = line_with 41 name in
    let last = text_of rest in
    let within = text_of inside in
    let given = attribute_lines attributes in
    let opened = line_with 40 name in
    let a = length last + n in
    let b = length shut + a in
    let c = length within + b in
    let d = length given + c in
    let size : left ≡ length opened + d =
    omega (
      arith,
      length-append shut last,
      length-append within (shut ++ last),
      length-append given (within ++ (shut ++ last)),
      length-append opened (given ++ (within ++ (shut ++ last))),
    ) in
    let whole : (opened ++ (given ++ (within ++ (shut ++ last)))) ++ more ≡ opened
    ++ (given ++ (within ++ (shut ++ (last ++ more)))) = simp append_assoc in
    let first = written_line left d 40 name (given ++ (within ++ (shut ++ (last ++ more)))) size parts.0.no_feed
    parts.0.no_return in
    let second = given_lines attributes [] d c (within ++ (shut ++ (last ++ more))) parts.2 refl in
    let third = written_lines inside (depth + 1) c b (shut ++ (last ++ more)) parts.3 refl in
    let fourth = written_line b a 41 name (last ++ more) refl parts.0.no_feed parts.0.no_return in
    let fifth = written_lines rest depth a n more parts.4 refl in
    ap (lines_from left []) whole
    ∙ (first ∙ rw (opens_line name parts.0, second, third, fourth, closes_line name parts.0, fifth) refl)
