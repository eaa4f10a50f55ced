-- The order of texts.
use Rattle.std.specs.Cmp.Lexicographic.{slice_cmp}
use Rattle.std.specs.Ordering.{nat_cmp}
use Rattle.std.specs.Prelude.{List, ℕ}
use Rattle.std.specs.declared.cmp.Ordering.{Ordering}

-- by the first byte that differs, and a text before each that it begins
abbrev pub text_cmp : List ℕ → List ℕ → Ordering
text_cmp text other = slice_cmp nat_cmp text other
