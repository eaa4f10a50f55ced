-- Lines, cut from bytes.
use Rattle.std.specs.Prelude.{◌≡◌, ◌==◌, ℕ, Bool, true, false, List, [], ◌∷◌, length, if◌then◌else◌}
use Rattle.std.proofs.Common.{refl, sym, ◌∙◌, arith, length-append}
use Rattle.std.proofs.Math.Dec.{eqb-suc-zero}
use Rattle.dita_doc.specs.Cut.{Lacks, IsCutAt}
use Rattle.dita_doc.specs.Lines.{lines_of}
use Rattle.dita_doc.specs.Bytes.{line_feed, onto_first}
use Rattle.script_text.specs.Script.{is_no_line}
use Rattle.dita_doc.proofs.LinesLaws.{lines_after, one_line}
use Rattle.script_text.specs.Read.{BeginsLine}

-- a cut at LF takes a line from the lines
pub line_cut : (bytes line rest : List ℕ) → IsCutAt line_feed bytes line rest → BeginsLine bytes line rest
line_cut bytes line rest cut = record {
  lines = rw (cut.whole, lines_after line rest cut.first);
  shorter = rw cut.whole (omega (arith, length-append line (line_feed ∷ rest)));
}

-- bytes without LF are one line
pub last_line : (bytes : List ℕ) → Lacks line_feed bytes → false ≡ (length bytes == 0) → BeginsLine bytes bytes []
last_line [] lacks e = absurd cc
last_line (b ∷ line) lacks e = record { lines = one_line b line lacks; shorter = omega arith }

-- one byte in front makes a line
pub has_line : (b : ℕ) (feed : Bool) (lines : List (List ℕ))
    → is_no_line (if feed then [] ∷ lines else onto_first b lines) ≡ false
has_line b true lines = refl
has_line b false [] = refl
has_line b false (line ∷ lines) = refl

-- no byte, no line
pub no_line : (bytes : List ℕ) → (length bytes == 0) ≡ is_no_line (lines_of bytes)
no_line [] = refl
no_line (b ∷ bytes) = eqb-suc-zero (length bytes) ∙ sym (has_line b (b == line_feed) (lines_of bytes))
