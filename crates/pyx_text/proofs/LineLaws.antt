-- The parts of a line: its first byte, what stands before and behind its first space, and what it says.
use Rattle.std.specs.Prelude.{◌≡◌, ◌+◌, ℕ, List, [], ◌∷◌, ◌++◌, length, if◌then◌else◌}
use Rattle.std.specs.List.{list_any, before_first, after_first, position_or_len}
use Rattle.std.specs.Str.{is_utf8, IsUtf8}
use Rattle.std.proofs.Common.{refl, sym, ap, arith, append_assoc, length-append}
use Rattle.std.proofs.lemmas.Bool.{or_parts, false_from_ne_true}
use Rattle.std.proofs.lemmas.List.{take_all, drop_all, take_at, drop_at}
use Rattle.std.proofs.lemmas.Str.{IsUtf8-from_is_utf8, is_utf8-from_IsUtf8}
use Rattle.dita_doc.specs.Bytes.{is_space, space}
use Rattle.dita_doc.specs.Cut.{Lacks}
use Rattle.dita_doc.specs.declared.fault.PyxCode.TheVariants as codes
use Rattle.dita_doc.specs.PyxLine.{Breaks, line_by_bytes, line_of}

-- the place of the first space, if there is one
place_of_space : (front back : List ℕ) → Lacks space front
    → position_or_len is_space (front ++ space ∷ back) ≡ length front
place_of_space [] back e = refl
place_of_space (b ∷ front) back e =
    let parts = or_parts (is_space b) (list_any is_space front) e in
    let rest = place_of_space front back parts.1 in
    rw parts.0 (omega arith)

-- and if there is none
no_space : (bytes : List ℕ) → Lacks space bytes → position_or_len is_space bytes ≡ length bytes
no_space [] e = refl
no_space (b ∷ bytes) e =
    let parts = or_parts (is_space b) (list_any is_space bytes) e in
    let rest = no_space bytes parts.1 in
    rw parts.0 (omega arith)

-- a front without a space is what stands before the first
pub before_space : (front back : List ℕ) → Lacks space front → before_first is_space (front ++ space ∷ back) ≡ front
before_space front back e =
    let at = place_of_space front back e in
    rw at (take_at front (space ∷ back) (length front) refl)

pub behind_space : (front back : List ℕ) → Lacks space front → after_first is_space (front ++ space ∷ back) ≡ back
behind_space front back e =
    let at = place_of_space front back e in
    let all : front ++ space ∷ back ≡ (front ++ space ∷ []) ++ back = sym (append_assoc front (space ∷ []) back) in
    let size : length front + 1 ≡ length (front ++ space ∷ []) = omega (arith, length-append front (space ∷ [])) in
    rw (at, all) (drop_at (front ++ space ∷ []) back (length front + 1) (sym size))

-- without a space all stands before it
pub before_none : (bytes : List ℕ) → Lacks space bytes → before_first is_space bytes ≡ bytes
before_none bytes e = let at = no_space bytes e in rw at (take_all (length bytes) bytes (omega arith))

pub behind_none : (bytes : List ℕ) → Lacks space bytes → after_first is_space bytes ≡ []
behind_none bytes e = let at = no_space bytes e in rw at (drop_all (length bytes + 1) bytes (omega arith))

-- what a line says, by whether it is a text
pub text_said : (bytes : List ℕ) → IsUtf8 bytes → line_of bytes ≡ line_by_bytes bytes
text_said bytes utf8 =
    ap (λ b. if b then line_by_bytes bytes else Breaks codes.NotUtf8) (is_utf8-from_IsUtf8 bytes utf8)

pub no_text_said : (bytes : List ℕ) → ¬ (IsUtf8 bytes) → line_of bytes ≡ Breaks codes.NotUtf8
no_text_said bytes none = ap (λ b. if b then line_by_bytes bytes else Breaks codes.NotUtf8)
    (false_from_ne_true (is_utf8 bytes) (λ is. none (IsUtf8-from_is_utf8 bytes is)))
