-- Plain text (own): each run of blanks is one space, and no space stands at the ends. A blank is a space, a tab or an
-- LF.
use Rattle.std.specs.Prelude.{◌==◌, ◌||◌, ℕ, Bool, true, false, List, [], ◌∷◌, if◌then◌else◌}
use Rattle.std.specs.List.{list_all}
use Rattle.dita_doc.specs.Bytes.{space, tab, line_feed}

abbrev pub is_blank_byte : ℕ → Bool
is_blank_byte b = (b == space) || (b == tab) || (b == line_feed)

abbrev pub is_blank : List ℕ → Bool
is_blank text = list_all is_blank_byte text

-- The flags: a character stands before, and blanks stand between it and here.
abbrev pub folded_from : Bool → Bool → List ℕ → List ℕ
folded_from begun blanks [] = []
folded_from begun blanks (b ∷ text) =
    if is_blank_byte b then folded_from begun begun text
    else if blanks then space ∷ b ∷ folded_from true false text
    else b ∷ folded_from true false text

abbrev pub folded : List ℕ → List ℕ
folded text = folded_from false false text
