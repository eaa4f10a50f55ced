-- Bytes by their names, and bytes in parts.
use Rattle.std.specs.Prelude.{◌==◌, ◌&&◌, ◌||◌, ℕ, Bool, not, List, [], ◌∷◌, length, filter, nat_le, if◌then◌else◌}

-- a text as contracts see it
abbrev pub Bytes : Type 0
Bytes = List ℕ

-- White space and marks

abbrev pub tab : ℕ
tab = 9

abbrev pub line_feed : ℕ
line_feed = 10

abbrev pub carriage_return : ℕ
carriage_return = 13

abbrev pub space : ℕ
space = 32

abbrev pub double_quote : ℕ
double_quote = 34

abbrev pub number_sign : ℕ
number_sign = 35

abbrev pub ampersand : ℕ
ampersand = 38

abbrev pub open_parenthesis : ℕ
open_parenthesis = 40

abbrev pub close_parenthesis : ℕ
close_parenthesis = 41

abbrev pub plus_sign : ℕ
plus_sign = 43

abbrev pub hyphen : ℕ
hyphen = 45

abbrev pub slash : ℕ
slash = 47

abbrev pub colon : ℕ
colon = 58

abbrev pub less_than : ℕ
less_than = 60

abbrev pub greater_than : ℕ
greater_than = 62

abbrev pub question_mark : ℕ
question_mark = 63

abbrev pub open_bracket : ℕ
open_bracket = 91

abbrev pub backslash : ℕ
backslash = 92

abbrev pub delete : ℕ
delete = 127

-- Letters and digits that begin a line or follow a backslash

abbrev pub digit_zero : ℕ
digit_zero = 48

abbrev pub digit_nine : ℕ
digit_nine = 57

abbrev pub capital_a : ℕ
capital_a = 65

abbrev pub capital_c : ℕ
capital_c = 67

abbrev pub capital_d : ℕ
capital_d = 68

abbrev pub capital_n : ℕ
capital_n = 78

abbrev pub capital_u : ℕ
capital_u = 85

abbrev pub small_n : ℕ
small_n = 110

abbrev pub small_t : ℕ
small_t = 116

-- Tests

abbrev pub is_space : ℕ → Bool
is_space b = b == space

abbrev pub is_slash : ℕ → Bool
is_slash b = b == slash

-- a space or a tab
abbrev pub is_gap : ℕ → Bool
is_gap b = (b == space) || (b == tab)

abbrev pub is_digit : ℕ → Bool
is_digit b = nat_le digit_zero b && nat_le b digit_nine

-- Parts and words

abbrev pub onto_first : ℕ → List (List ℕ) → List (List ℕ)
onto_first b [] = (b ∷ []) ∷ []
onto_first b (first ∷ parts) = (b ∷ first) ∷ parts

-- the parts between the bytes that pass a test; a part may be empty
abbrev pub parts_by : (ℕ → Bool) → List ℕ → List (List ℕ)
parts_by ends [] = [] ∷ []
parts_by ends (b ∷ bytes) = if ends b then [] ∷ parts_by ends bytes else onto_first b (parts_by ends bytes)

abbrev pub has_bytes : List ℕ → Bool
has_bytes part = not (length part == 0)

-- the words between such bytes: the longest pieces without them
abbrev pub words_by : (ℕ → Bool) → List ℕ → List (List ℕ)
words_by ends bytes = filter has_bytes (parts_by ends bytes)

-- the parts of a line between its single spaces, and its words between runs of spaces
abbrev pub spaced_parts : List ℕ → List (List ℕ)
spaced_parts line = parts_by is_space line

abbrev pub spaced_words : List ℕ → List (List ℕ)
spaced_words line = words_by is_space line
