-- The escapes of PYX: `\n` is an LF, `\t` a tab and `\\` a backslash. A backslash before anything else stands for
-- itself (own).
use Rattle.std.specs.Prelude.{◌==◌, ℕ, Bool, true, false, List, [], ◌∷◌, ◌++◌, if◌then◌else◌}
use Rattle.dita_doc.specs.Bytes.{tab, line_feed, backslash, small_n, small_t}

-- The flag: the byte before is a backslash that begins an escape.
abbrev pub unescaped_after : Bool → List ℕ → List ℕ
unescaped_after false [] = []
unescaped_after true [] = backslash ∷ []
unescaped_after false (b ∷ bytes) = if b == backslash then unescaped_after true bytes
    else b ∷ unescaped_after false bytes
unescaped_after true (b ∷ bytes) =
    if b == small_n then line_feed ∷ unescaped_after false bytes
    else if b == small_t then tab ∷ unescaped_after false bytes
    else if b == backslash then backslash ∷ unescaped_after false bytes
    else backslash ∷ b ∷ unescaped_after false bytes

abbrev pub unescaped : List ℕ → List ℕ
unescaped bytes = unescaped_after false bytes

abbrev pub escaped_byte : ℕ → List ℕ
escaped_byte b =
    if b == line_feed then backslash ∷ small_n ∷ []
    else if b == tab then backslash ∷ small_t ∷ []
    else if b == backslash then backslash ∷ backslash ∷ []
    else b ∷ []

abbrev pub escaped : List ℕ → List ℕ
escaped [] = []
escaped (b ∷ bytes) = escaped_byte b ++ escaped bytes
