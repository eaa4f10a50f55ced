-- The lines of bytes.
use Rattle.std.specs.Prelude.{◌≡◌, ◌==◌, ℕ, Bool, true, false, List, [], ◌∷◌, ◌++◌, if◌then◌else◌}
use Rattle.std.specs.List.{list_any, All}
use Rattle.std.proofs.Common.{refl}
use Rattle.std.proofs.lemmas.Bool.{or_parts, or_from}
use Rattle.std.proofs.lemmas.List.Elements.{All-cons, All-nil, All-head, All-tail}
use Rattle.dita_doc.specs.Cut.{Lacks}
use Rattle.dita_doc.specs.Lines.{lines_of, ends_with_line}
use Rattle.dita_doc.specs.Bytes.{onto_first}

-- a front without LF is the first line of what it begins
pub lines_after : (line rest : List ℕ) → Lacks 10 line → lines_of (line ++ 10 ∷ rest) ≡ line ∷ lines_of rest
lines_after [] rest e = refl
lines_after (b ∷ line) rest e =
    let parts = or_parts (b == 10) (list_any (λ c. c == 10) line) e in
    rw (parts.0, lines_after line rest parts.1)

-- a rest without LF is one line
pub one_line : (b : ℕ) (line : List ℕ) → Lacks 10 (b ∷ line) → lines_of (b ∷ line) ≡ (b ∷ line) ∷ []
one_line b [] e = let parts = or_parts (b == 10) false e in rw parts.0
one_line b (c ∷ line) e =
    let parts = or_parts (b == 10) (list_any (λ c. c == 10) (c ∷ line)) e in
    rw (parts.0, one_line c line parts.1)

-- whether the last line is ended does not depend on what stands before an LF
pub ends_after : (front back : List ℕ) → ends_with_line (front ++ 10 ∷ back) ≡ ends_with_line (10 ∷ back)
ends_after [] back = refl
ends_after (b ∷ []) back = refl
ends_after (b ∷ c ∷ front) back = ends_after (c ∷ front) back

-- behind an LF all is as at the start
pub ends_behind : (back : List ℕ) → ends_with_line (10 ∷ back) ≡ ends_with_line back
ends_behind [] = refl
ends_behind (b ∷ back) = refl

-- a rest without LF does not end with a line
pub ends_in_rest : (b : ℕ) (line : List ℕ) → Lacks 10 (b ∷ line) → ends_with_line (b ∷ line) ≡ false
ends_in_rest b [] e = (or_parts (b == 10) false e).0
ends_in_rest b (c ∷ line) e = ends_in_rest c line (or_parts (b == 10) (list_any (λ c. c == 10) (c ∷ line)) e).1

abbrev IsOneLine : List ℕ → Type 0
IsOneLine line = Lacks 10 line

-- a byte that is no LF, put before the first line
lack_before : (b : ℕ) (lines : List (List ℕ)) → (b == 10) ≡ false → All IsOneLine lines
    → All IsOneLine (onto_first b lines)
lack_before b [] e all = All-cons IsOneLine (b ∷ []) [] (or_from (b == 10) false e refl) (All-nil IsOneLine)
lack_before b (line ∷ lines) e all =
    let first = All-head IsOneLine line lines all in
    All-cons IsOneLine (b ∷ line) lines (or_from (b == 10) (list_any (λ c. c == 10) line) e first)
    (All-tail IsOneLine line lines all)

-- one byte in front, by whether it is an LF
lack_from : (b : ℕ) (bytes : List ℕ) (feed : Bool) → (b == 10) ≡ feed → All IsOneLine (lines_of bytes)
    → All IsOneLine (if feed then [] ∷ lines_of bytes else onto_first b (lines_of bytes))
lack_from b bytes true e all = All-cons IsOneLine [] (lines_of bytes) refl all
lack_from b bytes false e all = lack_before b (lines_of bytes) e all

-- no line has an LF
pub lines_lack : (bytes : List ℕ) → All (Lacks 10) (lines_of bytes)
lines_lack [] = All-nil IsOneLine
lines_lack (b ∷ bytes) = lack_from b bytes (b == 10) refl (lines_lack bytes)
