-- The lines of PYX, one by one (PYX notation, after the line-oriented output of SGML parsers: the first byte of a line
-- says what the line is). `[` for text, the lines that are passed over but for `?`, and all faults are our own.
use Rattle.std.specs.Prelude.{◌==◌, ◌&&◌, ◌||◌, ℕ, Bool, not, List, [], ◌∷◌, length, if◌then◌else◌}
use Rattle.std.specs.List.{before_first, after_first, list_any}
use Rattle.std.specs.Str.{is_utf8}
use Rattle.dita_doc.specs.Bytes.{is_gap, is_space, open_parenthesis, close_parenthesis, hyphen, question_mark, ampersand, open_bracket, capital_a, capital_c, capital_d, capital_n, capital_u}
use Rattle.dita_doc.specs.PyxEscapes.{unescaped}
use Rattle.dita_doc.specs.declared.fault.PyxCode.{PyxCode}
use Rattle.dita_doc.specs.declared.fault.PyxCode.TheVariants as codes

-- what a line says
pub data Line : Type 0 where
  Opens : (name : List ℕ) → Line
  Gives : (name value : List ℕ) → Line
  Says : (text : List ℕ) → Line
  Closes : (name : List ℕ) → Line
  Passes : Line
  Breaks : PyxCode → Line

-- a name is not empty and holds no space and no tab
abbrev pub is_line_name : List ℕ → Bool
is_line_name name = not (length name == 0) && not (list_any is_gap name)

abbrev pub with_name : List ℕ → Line → Line
with_name name line = if is_line_name name then line else Breaks codes.BadLine

-- by the first byte: `(` opens an element, `A` gives it an attribute, `-` and `[` say text, `)` closes it;
-- `?`, `C`, `D`, `N` and `U` are passed over, and an empty line too; `&` is a fault
abbrev pub line_by_byte : ℕ → List ℕ → Line
line_by_byte b rest =
    if b == open_parenthesis then with_name rest (Opens rest)
    else if b == close_parenthesis then with_name rest (Closes rest)
    else if b == capital_a then with_name (before_first is_space rest)
    (Gives (before_first is_space rest) (unescaped (after_first is_space rest)))
    else if (b == hyphen) || (b == open_bracket) then Says (unescaped rest)
    else if (b == question_mark) || (b == capital_c) || (b == capital_d) || (b == capital_n) || (b == capital_u)
    then Passes
    else if b == ampersand then Breaks codes.Entity else Breaks codes.BadLine

abbrev pub line_by_bytes : List ℕ → Line
line_by_bytes [] = Passes
line_by_bytes (b ∷ rest) = line_by_byte b rest

-- what a line of these bytes, without CRs and its LF, says
abbrev pub line_of : List ℕ → Line
line_of bytes = if is_utf8 bytes then line_by_bytes bytes else Breaks codes.NotUtf8
