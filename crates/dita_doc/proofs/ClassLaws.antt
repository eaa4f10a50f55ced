-- The tokens of class values.
use Rattle.std.specs.Prelude.{◌≡◌, ◌==◌, ◌&&◌, ◌||◌, ◌<◌, ◌≤◌, ℕ, Bool, true, false, not, List, [], ◌∷◌, length, take, drop, bytes_eq, if◌then◌else◌, Option, Some, None, unwrap_or, option_map}
use Rattle.std.specs.List.{list_any, position_or_len, find}
use Rattle.std.proofs.Common.{refl, sym, subst, ◌∙◌, arith, cond, ltb, Bor}
use Rattle.std.proofs.lemmas.Bool.{false≢true, eqb-true, ltb-false}
use Rattle.std.proofs.lemmas.Bool.Decides.{nat_tests}
use Rattle.std.proofs.lemmas.List.{length-drop}
use Rattle.std.proofs.lemmas.List.Sums.{prefix_len-le-length}
use Rattle.std.proofs.Math.Bool.{and-true, and-false}
use Rattle.dita_doc.specs.Bytes.{slash, is_slash, has_bytes, parts_by}
use Rattle.dita_doc.specs.PlainText.{is_blank_byte}
use Rattle.dita_doc.specs.declared.doc.Attribute.{Attribute}
use Rattle.dita_doc.specs.Cut.{Lacks, IsCutAt}
use Rattle.dita_doc.specs.ClassValue.{are_module_and_type, is_token, without_blanks, words_of, value_of, IsFirstWord}
use Rattle.dita_doc.proofs.PartLaws.{parts_after, one_part, word_to}

-- Module and type

-- there is always a part
record HasOne (parts : List (List ℕ)) : Type 0 where
  pub first : List ℕ
  pub others : List (List ℕ)
  pub is : parts ≡ first ∷ others

one_from : (ends : ℕ → Bool) (b : ℕ) (bytes : List ℕ) (ended : Bool) → ends b ≡ ended → HasOne (parts_by ends bytes)
    → HasOne (parts_by ends (b ∷ bytes))
one_from ends b bytes true e more = record { first = []; others = parts_by ends bytes; is = rw e refl }
one_from ends b bytes false e more = record { first = b ∷ more.first; others = more.others; is = rw (e, more.is) refl }

has_one : (ends : ℕ → Bool) (bytes : List ℕ) → HasOne (parts_by ends bytes)
has_one ends [] = record { first = []; others = []; is = refl }
has_one ends (b ∷ bytes) = one_from ends b bytes (ends b) refl (has_one ends bytes)

-- and with such a byte there are two or more
record HasTwo (parts : List (List ℕ)) : Type 0 where
  pub first : List ℕ
  pub second : List ℕ
  pub others : List (List ℕ)
  pub is : parts ≡ first ∷ second ∷ others

two_from : (ends : ℕ → Bool) (b : ℕ) (bytes : List ℕ) (ended : Bool) → ends b ≡ ended
    → (ended || list_any ends bytes) ≡ true → (list_any ends bytes ≡ true → HasTwo (parts_by ends bytes))
    → HasTwo (parts_by ends (b ∷ bytes))
two_from ends b bytes true e any more =
    let one = has_one ends bytes in
    record { first = []; second = one.first; others = one.others; is = rw (e, one.is) refl }
two_from ends b bytes false e any more =
    let two = more any in
    record { first = b ∷ two.first; second = two.second; others = two.others; is = rw (e, two.is) refl }

has_two : (ends : ℕ → Bool) (bytes : List ℕ) → list_any ends bytes ≡ true → HasTwo (parts_by ends bytes)
has_two ends [] any = absurd (false≢true any)
has_two ends (b ∷ bytes) any = two_from ends b bytes (ends b) refl any (has_two ends bytes)

-- what stands behind the first `/` is a type if it has bytes and no other `/`
type_at : (front back : List ℕ) (more : Bool) → list_any is_slash back ≡ more
    → are_module_and_type (front ∷ parts_by is_slash back) ≡ (has_bytes front && has_bytes back && not more)
type_at front back true e = let two = has_two is_slash back e
    in rw (two.is, and-false (has_bytes front && has_bytes back)) refl
type_at front back false e = rw (one_part is_slash back e, and-true (has_bytes front && has_bytes back)) refl

pub token_cut : (word front back : List ℕ) → IsCutAt slash word front back
    → is_token word ≡ (has_bytes front && has_bytes back && not (list_any is_slash back))
token_cut word front back cut = rw (cut.whole, parts_after is_slash front back slash refl cut.first)
    (type_at front back (list_any is_slash back) refl)

-- without `/` a word is no token
pub token_uncut : (word : List ℕ) → Lacks slash word → is_token word ≡ false
token_uncut word lacks = rw (one_part is_slash word lacks) refl

-- Words

-- where the first word of a text ends that begins with one
abbrev pub word_end : List ℕ → ℕ
word_end text = position_or_len is_blank_byte text

-- without the blanks in front a text has the same words, and begins with one if it is not empty
record IsTrimmed (text rest : List ℕ) : Type 0 where
  pub words : words_of rest ≡ words_of text
  pub shorter : length rest ≤ length text
  pub begins : 0 < length rest → 0 < word_end rest

trimmed_from : (b : ℕ) (text : List ℕ) (blank : Bool) → is_blank_byte b ≡ blank → IsTrimmed text (without_blanks text)
    → IsTrimmed (b ∷ text) (without_blanks (b ∷ text))
trimmed_from b text true e more =
    rw e (record { words = rw e more.words; shorter = omega (arith, more.shorter); begins = more.begins })
trimmed_from b text false e more =
    rw e (record { words = refl; shorter = omega arith; begins = λ some. rw e (omega arith) })

trimmed : (text : List ℕ) → IsTrimmed text (without_blanks text)
trimmed [] = record { words = refl; shorter = omega arith; begins = λ some. absurd (omega arith) }
trimmed (b ∷ text) = trimmed_from b text (is_blank_byte b) refl (trimmed text)

empty_words : (rest : List ℕ) → true ≡ (length rest == 0) → words_of rest ≡ []
empty_words [] empty = refl
empty_words (b ∷ rest) empty = absurd (omega (arith, eqb-true _ _ (sym empty)))

-- a text of blanks alone has no word
pub no_first : (text rest : List ℕ) → rest ≡ without_blanks text → true ≡ (length rest == 0) → words_of text ≡ []
no_first text rest is empty =
    let same : words_of text ≡ words_of rest = rw is (sym (trimmed text).words) in
    same ∙ empty_words rest empty

-- and any other has a first one
pub first_at : (text rest : List ℕ) → rest ≡ without_blanks text → false ≡ (length rest == 0)
    → IsFirstWord text (take (word_end rest) rest) (drop (word_end rest) rest)
first_at text rest is some =
    let P : List ℕ → Type 0 = λ l. IsTrimmed text l in
    let trim = subst P (sym is) (trimmed text) in
    let filled : 0 < length rest = grind (arith, nat_tests) in
    let begins : 0 < word_end rest = trim.begins filled in
    record {
      words = sym trim.words ∙ word_to is_blank_byte rest begins;
      shorter = omega (arith, length-drop (word_end rest) rest, trim.shorter);
    }

-- the end of the first word by what `position` found
end_at : (place count : ℕ) (small : Bool) → ltb place count ≡ small → place ≤ count
    → unwrap_or (cond small (Some place) None) count ≡ place
end_at place count true e fits = refl
end_at place count false e fits = let most : count ≤ place = ltb-false place count e in omega arith

pub end_of : (rest : List ℕ) (found : Option ℕ)
    → found ≡ cond (ltb (word_end rest) (length rest)) (Some (word_end rest)) None
    → unwrap_or found (length rest) ≡ word_end rest
end_of rest found is =
    let fits : word_end rest ≤ length rest = prefix_len-le-length _ rest in
    rw is (end_at (word_end rest) (length rest) (ltb (word_end rest) (length rest)) refl fits)

-- Attributes

-- the first of a name, and its value
abbrev pub first_named : List ℕ → List Attribute → Option Attribute
first_named name attributes = find (λ (a : Attribute). bytes_eq a.name name) attributes

abbrev value_in : Option Attribute → Option (List ℕ)
value_in found = option_map (λ (a : Attribute). a.value) found

value_from : (name : List ℕ) (attribute : Attribute) (attributes : List Attribute) (same : Bool)
    → value_of name attributes ≡ value_in (first_named name attributes)
    → (if same then Some attribute.value else value_of name attributes)
    ≡ value_in (cond same (Some attribute) (first_named name attributes))
value_from name attribute attributes true more = refl
value_from name attribute attributes false more = more

value_found : (name : List ℕ) (attributes : List Attribute)
    → value_of name attributes ≡ value_in (first_named name attributes)
value_found name [] = refl
value_found name (attribute ∷ attributes) =
    value_from name attribute attributes (bytes_eq attribute.name name) (value_found name attributes)

-- the value of an attribute is that of what `find` tells
pub value_told : (name : List ℕ) (attributes : List Attribute) (found : Option (Bor Attribute))
    → option_map (λ (a : Bor Attribute). a.now) found ≡ first_named name attributes
    → option_map (λ (a : Bor Attribute). a.now.value) found ≡ value_of name attributes
value_told name attributes None e = rw (value_found name attributes, ← e) refl
value_told name attributes (Some a) e = rw (value_found name attributes, ← e) refl
