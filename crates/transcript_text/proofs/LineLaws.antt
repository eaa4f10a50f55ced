-- The lines of bytes, cut at an LF.
use Rattle.std.specs.Prelude.{◌≡◌, ◌+◌, ◌<◌, ◌==◌, ℕ, false, List, [], ◌∷◌, ◌++◌, length, codes}
use Rattle.std.specs.Fmt.{decimal}
use Rattle.std.specs.List.{flat_map}
use Rattle.std.proofs.Common.{append_assoc, arith, length-append}
use Rattle.dita_doc.specs.Cut.{Lacks, IsCutAt}
use Rattle.dita_doc.specs.Lines.{lines_of, line}
use Rattle.transcript_text.specs.Transcript.{Lines, bar_line}
use Rattle.transcript_text.specs.Written.{shown_text}
use Rattle.dita_doc.proofs.LinesLaws.{lines_after, one_line}

-- the first line of what was cut
pub lines_cut : (bytes front back : List ℕ) → IsCutAt 10 bytes front back → lines_of bytes ≡ front ∷ lines_of back
lines_cut bytes front back cut = rw cut.whole (lines_after front back cut.first)

-- the back is shorter
pub back_shorter : (bytes front back : List ℕ) → IsCutAt 10 bytes front back
    → length back + 1 + length front ≡ length bytes
back_shorter bytes front back cut = rw cut.whole (omega (arith, length-append front (10 ∷ back)))

-- what is not cut is one line
pub rest_line : (rest : List ℕ) → Lacks 10 rest → 0 < length rest → lines_of rest ≡ rest ∷ []
rest_line [] lacks some = absurd (omega arith)
rest_line (b ∷ rest) lacks some = one_line b rest lacks

-- a test of `is_empty`
pub some_left : (rest : List ℕ) → false ≡ (length rest == 0) → 0 < length rest
some_left [] e = absurd (cc)
some_left (b ∷ rest) e = omega arith

-- one more line was put
pub one_told : (out next front bytes : List ℕ) (lines : List (List ℕ)) → lines_of bytes ≡ front ∷ lines
    → next ≡ out ++ bar_line front
    → next ++ flat_map bar_line lines ≡ out ++ flat_map bar_line (lines_of bytes)
one_told out next front bytes lines cut told =
    rw (cut, told) (append_assoc out (bar_line front) (flat_map bar_line lines))

-- the head of a text and its lines
pub text_told : (out next : List ℕ) (count : ℕ) (lines : List (List ℕ)) → count ≡ length lines
    → next ≡ out ++ line (codes "text " ++ decimal count)
    → next ++ flat_map bar_line lines ≡ out ++ shown_text (Lines lines)
text_told out next count lines counted told =
    rw (told, counted) (append_assoc out (line (codes "text " ++ decimal (length lines))) (flat_map bar_line lines))
