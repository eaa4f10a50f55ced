-- Bytes as lines.
use Rattle.std.specs.Prelude.{◌≡◌, ◌==◌, ℕ, Bool, true, List, [], ◌∷◌, ◌++◌, if◌then◌else◌}
use Rattle.std.specs.Str.{is_utf8}
use Rattle.dita_doc.specs.Bytes.{line_feed, onto_first}
use Rattle.dita_doc.specs.Cut.{Lacks}

-- the lines, each ended by LF; a rest that is not empty is a line too
abbrev pub lines_of : List ℕ → List (List ℕ)
lines_of [] = []
lines_of (b ∷ bytes) = if b == line_feed then [] ∷ lines_of bytes else onto_first b (lines_of bytes)

-- the last line is ended too
abbrev pub ends_with_line : List ℕ → Bool
ends_with_line [] = true
ends_with_line (b ∷ []) = b == line_feed
ends_with_line (b ∷ c ∷ bytes) = ends_with_line (c ∷ bytes)

-- a text as a line, with its LF
abbrev pub line : List ℕ → List ℕ
line text = text ++ line_feed ∷ []

-- a text that may stand on a line
pub record IsLineText (text : List ℕ) : Type 0 where
  pub utf8 : is_utf8 text ≡ true
  pub one : Lacks line_feed text
