-- Class values (DITA 1.3, "The @class attribute rules and syntax"): blanks that may be missing, a sign, and the tokens
-- of the element's types, the base type first and the most special one last.
use Rattle.std.specs.Prelude.{◌≡◌, ◌<◌, ◌==◌, ◌&&◌, ℕ, Bool, false, List, [], ◌∷◌, Option, Some, None, Result, Ok, Err, length, if◌then◌else◌, codes, bytes_eq}
use Rattle.std.specs.List.{list_all, list_any}
use Rattle.dita_doc.specs.declared.class.Sign.{Sign}
use Rattle.dita_doc.specs.declared.class.Sign.TheVariants as signs
use Rattle.dita_doc.specs.declared.class.ClassList.{ClassList}
use Rattle.dita_doc.specs.declared.class.ClassFault.{ClassFault}
use Rattle.dita_doc.specs.declared.class.ClassFault.TheVariants as faults
use Rattle.dita_doc.specs.declared.doc.Attribute.{Attribute}
use Rattle.dita_doc.specs.Bytes.{hyphen, plus_sign, is_slash, has_bytes, parts_by, words_by}
use Rattle.dita_doc.specs.PlainText.{is_blank_byte}

-- the value without the blanks in front
abbrev pub without_blanks : List ℕ → List ℕ
without_blanks [] = []
without_blanks (b ∷ value) = if is_blank_byte b then without_blanks value else b ∷ value

-- `-` is the sign of a structural type, and `+` that of a domain's
abbrev pub sign_of : ℕ → Option Sign
sign_of b = if b == hyphen then Some signs.Structural else if b == plus_sign then Some signs.Domain else None

-- behind the blanks stands a sign, and this behind it
pub record IsSigned (value : List ℕ) (sign : Sign) (rest : List ℕ) : Type 0 where
  pub mark : ℕ
  pub begins : without_blanks value ≡ mark ∷ rest
  pub is : sign_of mark ≡ Some sign

-- a token is a module and a type with a `/` between them
abbrev pub are_module_and_type : List (List ℕ) → Bool
are_module_and_type (first ∷ second ∷ []) = has_bytes first && has_bytes second
are_module_and_type parts = false

abbrev pub is_token : List ℕ → Bool
is_token token = are_module_and_type (parts_by is_slash token)

-- the words of a text: its longest pieces without blanks
abbrev pub words_of : List ℕ → List (List ℕ)
words_of text = words_by is_blank_byte text

-- the first word of a text, and what stands behind it
pub record IsFirstWord (text word rest : List ℕ) : Type 0 where
  pub words : words_of text ≡ word ∷ words_of rest
  pub shorter : length rest < length text

-- behind the sign stands a word, and each word is a token
abbrev pub list_with : Sign → List (List ℕ) → Result ClassList ClassFault
list_with sign [] = Err faults.NoToken
list_with sign (word ∷ words) =
    if list_all is_token (word ∷ words) then Ok (record { sign = sign; tokens = word ∷ words }) else Err faults.BadToken

abbrev pub class_signed : Option Sign → List ℕ → Result ClassList ClassFault
class_signed None rest = Err faults.NoSign
class_signed (Some sign) rest = list_with sign (words_of rest)

abbrev pub class_without_blanks : List ℕ → Result ClassList ClassFault
class_without_blanks [] = Err faults.NoSign
class_without_blanks (b ∷ rest) = class_signed (sign_of b) rest

-- what a class value says, or its first fault
abbrev pub class_of : List ℕ → Result ClassList ClassFault
class_of value = class_without_blanks (without_blanks value)

-- the element is of the types whose tokens its list has
abbrev pub has_token : ClassList → List ℕ → Bool
has_token list token = list_any (bytes_eq token) list.tokens

-- the value of an attribute, if the element has it
abbrev pub value_of : List ℕ → List Attribute → Option (List ℕ)
value_of name [] = None
value_of name (attribute ∷ attributes) = if bytes_eq attribute.name name then Some attribute.value
    else value_of name attributes

abbrev pub is_read_with : List ℕ → Result ClassList ClassFault → Bool
is_read_with token (Ok list) = has_token list token
is_read_with token (Err fault) = false

abbrev pub is_class_with : List ℕ → Option (List ℕ) → Bool
is_class_with token None = false
is_class_with token (Some value) = is_read_with token (class_of value)

-- an element of these attributes has a class value that can be read and that has the token
abbrev pub has_type : List Attribute → List ℕ → Bool
has_type attributes token = is_class_with token (value_of (codes "class") attributes)
