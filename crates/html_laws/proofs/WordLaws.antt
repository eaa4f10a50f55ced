-- The names of a page are words: they are not empty, and no byte of them ends a name.
use Rattle.std.specs.Prelude.{◌≡◌, ◌==◌, ◌||◌, ℕ, Bool, true, false, not, List, [], ◌∷◌, ◌++◌, bytes_eq}
use Rattle.std.specs.List.{list_all, list_any}
use Rattle.std.proofs.Common.{refl, sym, subst}
use Rattle.std.proofs.lemmas.Bool.{and_parts, or_parts, not-true}
use Rattle.std.proofs.lemmas.Slice.Eq.{bytes_eq-Decides}
use Rattle.html_laws.specs.Markup.{attribute_names, element_names, is_among, void_names}

-- a byte that may follow a name, or make the tag an end tag: space, `/`, `=` and `>`
abbrev pub is_stop : ℕ → Bool
is_stop b = (b == 32) || (b == 47) || (b == 61) || (b == 62)

abbrev pub is_word : List ℕ → Bool
is_word [] = false
is_word (b ∷ name) = not (list_any is_stop (b ∷ name))

-- what passes a test for each of some names passes it for one among them

passes_first : (test : List ℕ → Bool) (name first : List ℕ) (names : List (List ℕ)) (same : Bool)
    → bytes_eq name first ≡ same → list_all test (first ∷ names) ≡ true → is_among (first ∷ names) name ≡ true
    → (is_among names name ≡ true → test name ≡ true) → test name ≡ true
passes_first test name first names true e all is others =
    let one : name ≡ first = (bytes_eq-Decides name first).0 e in
    subst (λ text. test text ≡ true) (sym one) (and_parts (test first) (list_all test names) all).0
passes_first test name first names false e all is others = others (rw e at is)

pub among_passes : (test : List ℕ → Bool) (names : List (List ℕ)) (name : List ℕ) → list_all test names ≡ true
    → is_among names name ≡ true → test name ≡ true
among_passes test [] name all is = absurd (cc)
among_passes test (first ∷ names) name all is = passes_first test name first names (bytes_eq name first) refl all is
    (among_passes test names name (and_parts (test first) (list_all test names) all).1)

-- so it is with the names of a page

element_words : list_all is_word element_names ≡ true
unfolding element_names
element_words = refl

void_words : list_all is_word void_names ≡ true
unfolding void_names
void_words = refl

attribute_words : list_all is_word attribute_names ≡ true
unfolding attribute_names
attribute_words = refl

void_alone : list_all (λ name. not (is_among element_names name)) void_names ≡ true
unfolding void_names element_names
void_alone = refl

pub element_word : (name : List ℕ) → is_among element_names name ≡ true → is_word name ≡ true
element_word name is = among_passes is_word element_names name element_words is

pub void_word : (name : List ℕ) → is_among void_names name ≡ true → is_word name ≡ true
void_word name is = among_passes is_word void_names name void_words is

pub attribute_word : (name : List ℕ) → is_among attribute_names name ≡ true → is_word name ≡ true
attribute_word name is = among_passes is_word attribute_names name attribute_words is

-- no name is that of a tag that holds nothing and of an element
pub not_both : (name : List ℕ) → is_among void_names name ≡ true → is_among element_names name ≡ true → ⊥
not_both name one other =
    let none = among_passes (λ name. not (is_among element_names name)) void_names name void_alone one in
    let clash : not true ≡ true = rw other at none in cc

-- Where a word ends

pub lacks_stop : (name : List ℕ) → is_word name ≡ true → list_any is_stop name ≡ false
lacks_stop [] is = absurd (cc)
lacks_stop (b ∷ name) is = not-true (list_any is_stop (b ∷ name)) is

-- a text begins with a byte that passes a test
abbrev pub begins : (ℕ → Bool) → List ℕ → Bool
begins test [] = false
begins test (b ∷ rest) = test b

-- a text without such a byte, and one that begins with such a byte, are told apart
pub cut_by : (test : ℕ → Bool) (f g x y : List ℕ) → list_any test f ≡ false → list_any test g ≡ false
    → begins test x ≡ true → begins test y ≡ true → f ++ x ≡ g ++ y → (f ≡ g) × (x ≡ y)
cut_by test [] [] x y first second one two e = (refl, e)
cut_by test [] (c ∷ g) x y first second one two e =
    let parts = or_parts (test c) (list_any test g) second in
    let clash : test c ≡ true = rw e at one in absurd (cc)
cut_by test (b ∷ f) [] x y first second one two e =
    let parts = or_parts (test b) (list_any test f) first in
    let clash : test b ≡ true = rw (sym e) at two in absurd (cc)
cut_by test (b ∷ f) (c ∷ g) x y first second one two e =
    let head : b ≡ c = cc in
    let tail : f ++ x ≡ g ++ y = cc in
    let rest = cut_by test f g x y (or_parts (test b) (list_any test f) first).1
    (or_parts (test c) (list_any test g) second).1 one two tail in
    let same : f ≡ g = rest.0 in
    (cc, rest.1)
