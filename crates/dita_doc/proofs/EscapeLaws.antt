-- What the loops of `escapes` keep.
use Rattle.std.specs.Prelude.{◌≡◌, ◌+◌, ◌<◌, ◌==◌, ℕ, suc, Bool, true, false, List, [], ◌∷◌, ◌++◌, length, take, drop, filter, codes, if◌then◌else◌}
use Rattle.std.specs.List.{flat_map, list_any, slice_split, onto_first as std_onto_first}
use Rattle.std.proofs.Common.{refl, sym, ap, ◌∙◌, arith, get_or, length-append}
use Rattle.std.proofs.lemmas.Bool.{or_parts}
use Rattle.std.proofs.lemmas.Bool.Decides.{nat_tests}
use Rattle.std.proofs.lemmas.List.{append-nil, append_assoc, take-append-drop, drop_more, drop_all}
use Rattle.std.proofs.lemmas.List.Concat.{flat_map-append}
use Rattle.std.proofs.lemmas.List.Elements.{filter_passes}
use Rattle.dita_doc.specs.Bytes.{has_bytes, onto_first, parts_by, words_by}
use Rattle.dita_doc.specs.Cut.{Lacks, IsCutAt}
use Rattle.dita_doc.specs.HtmlEscapes as html
use Rattle.dita_doc.specs.PlainText.{is_blank_byte, folded_from, folded}
use Rattle.dita_doc.specs.PyxEscapes as pyx

-- Escapes byte by byte, where `shown` says what is written for a byte

-- a byte that is escaped, behind a front that stands for itself
pub escape_at : (shown : ℕ → List ℕ) (bytes : List ℕ) (at : ℕ) (escape : List ℕ) → at < length bytes
    → shown (get_or bytes at 0) ≡ escape → flat_map shown (take at bytes) ≡ take at bytes
    → flat_map shown bytes ≡ take at bytes ++ escape ++ flat_map shown (drop (at + 1) bytes)
escape_at shown bytes at escape less e plain =
    let back : List ℕ = get_or bytes at 0 ∷ drop (at + 1) bytes in
    let behind : take at bytes ++ drop at bytes ≡ take at bytes ++ back = rw (drop_more bytes at 0 less) refl in
    let cut : bytes ≡ take at bytes ++ back = sym (take-append-drop at bytes) ∙ behind in
    let rest : flat_map shown back ≡ escape ++ flat_map shown (drop (at + 1) bytes) = rw e refl in
    ap (flat_map shown) cut ∙ flat_map-append shown (take at bytes) back ∙ rw (plain, rest, append_assoc) refl

-- PYX in these words
pub escaped_by_bytes : (bytes : List ℕ) → pyx.escaped bytes ≡ flat_map pyx.escaped_byte bytes
escaped_by_bytes [] = refl
escaped_by_bytes (b ∷ bytes) = ap (λ (rest : List ℕ). pyx.escaped_byte b ++ rest) (escaped_by_bytes bytes)

-- Values of HTML, cut at their double quotes

value_behind : (front back : List ℕ) → Lacks 34 front
    → html.escaped_value (front ++ 34 ∷ back) ≡ html.escaped front ++ codes "&quot;" ++ html.escaped_value back
value_behind [] back lacks = refl
value_behind (b ∷ front) back lacks =
    let parts = or_parts (b == 34) (list_any (λ c. c == 34) front) lacks in
    rw (parts.0, value_behind front back parts.1) (simp append_assoc)

pub value_at_quote : (value front back : List ℕ) → IsCutAt 34 value front back
    → html.escaped_value value ≡ html.escaped front ++ codes "&quot;" ++ html.escaped_value back
value_at_quote value front back cut = rw cut.whole (value_behind front back cut.first)

pub value_without_quote : (value : List ℕ) → Lacks 34 value → html.escaped_value value ≡ html.escaped value
value_without_quote [] lacks = refl
value_without_quote (b ∷ value) lacks =
    let parts = or_parts (b == 34) (list_any (λ c. c == 34) value) lacks in
    rw (parts.0, value_without_quote value parts.1) refl

-- Texts with escapes of PYX, cut at their backslashes

unescaped_behind : (front back : List ℕ) → Lacks 92 front
    → pyx.unescaped (front ++ 92 ∷ back) ≡ front ++ pyx.unescaped_after true back
unescaped_behind [] back lacks = refl
unescaped_behind (b ∷ front) back lacks =
    let parts = or_parts (b == 92) (list_any (λ c. c == 92) front) lacks in
    rw (parts.0, unescaped_behind front back parts.1) refl

pub unescaped_at : (text front behind meant back : List ℕ) → IsCutAt 92 text front behind
    → pyx.unescaped_after true behind ≡ meant ++ pyx.unescaped back
    → pyx.unescaped text ≡ front ++ meant ++ pyx.unescaped back
unescaped_at text front behind meant back cut e =
    rw (cut.whole, unescaped_behind front behind cut.first, e) (simp append_assoc)

pub unescaped_without : (text : List ℕ) → Lacks 92 text → pyx.unescaped text ≡ text
unescaped_without [] lacks = refl
unescaped_without (b ∷ text) lacks =
    let parts = or_parts (b == 92) (list_any (λ c. c == 92) text) lacks in
    rw (parts.0, unescaped_without text parts.1) refl

-- A text on one line, word by word

-- words with a space between each two, and before the first if text stands there
abbrev pub spaced_from : Bool → List (List ℕ) → List ℕ
spaced_from begun [] = []
spaced_from begun (word ∷ words) =
    if begun then 32 ∷ (word ++ spaced_from true words) else word ++ spaced_from true words

-- the rest of a word, and the words behind it
abbrev spaced_on : List (List ℕ) → List ℕ
spaced_on [] = []
spaced_on (part ∷ parts) = part ++ spaced_from true (filter has_bytes parts)

-- the words between blanks
abbrev pub words_of : List ℕ → List (List ℕ)
words_of text = words_by is_blank_byte text

begins_word : (begun : Bool) (b : ℕ) (parts : List (List ℕ))
    → spaced_from begun (filter has_bytes (onto_first b parts))
    ≡ (if begun then 32 ∷ b ∷ spaced_on parts else b ∷ spaced_on parts)
begins_word begun b [] = refl
begins_word begun b (part ∷ parts) =
    let some : (suc (length part) == 0) ≡ false = grind (arith, nat_tests) in
    rw some refl

goes_on : (b : ℕ) (parts : List (List ℕ)) → spaced_on (onto_first b parts) ≡ b ∷ spaced_on parts
goes_on b [] = refl
goes_on b (part ∷ parts) = refl

-- what a text folds to between two words, and within one
record FoldsTo (text : List ℕ) : Type 0 where
  between : (begun : Bool) → folded_from begun begun text ≡ spaced_from begun (words_of text)
  within : folded_from true false text ≡ spaced_on (parts_by is_blank_byte text)

-- one byte in front, by whether it is a blank
folds_byte : (b : ℕ) (text : List ℕ) (blank : Bool) → is_blank_byte b ≡ blank → FoldsTo text → FoldsTo (b ∷ text)
folds_byte b text true e folds = record {
  between = λ begun. rw e (folds.between begun);
  within = rw e (folds.between true);
}
folds_byte b text false e folds = record {
  between = λ begun. rw e (rw (begins_word begun b (parts_by is_blank_byte text), folds.within) refl);
  within = rw e (rw (goes_on b (parts_by is_blank_byte text), folds.within) refl);
}

folds : (text : List ℕ) → FoldsTo text
folds [] = record { between = λ begun. refl; within = refl }
folds (b ∷ text) = folds_byte b text (is_blank_byte b) refl (folds text)

pub folded_words : (text : List ℕ) → spaced_from false (words_of text) ≡ folded text
folded_words text = sym ((folds text).between false)

-- the parts into which std cuts a list
first_same : (b : ℕ) (parts : List (List ℕ)) → std_onto_first b parts ≡ onto_first b parts
first_same b [] = refl
first_same b (part ∷ parts) = refl

pub slice_split_parts : (ends : ℕ → Bool) (bytes : List ℕ) → slice_split ends bytes ≡ parts_by ends bytes
slice_split_parts ends [] = refl
slice_split_parts ends (b ∷ bytes) = rw (slice_split_parts ends bytes, first_same) refl

-- one more word, behind a space if text stands before it
more_word : (begun : Bool) (line word rest : List ℕ)
    → (if begun then line ++ 32 ∷ [] else line) ++ word ++ rest
    ≡ line ++ (if begun then 32 ∷ (word ++ rest) else word ++ rest)
more_word true line word rest = simp append_assoc
more_word false line word rest = append_assoc line word rest

some_bytes : (line word : List ℕ) → has_bytes word ≡ true → has_bytes (line ++ word) ≡ true
some_bytes line word some = let longer = length-append line word in grind (arith, nat_tests)

-- what the loop over the words of a text keeps, where `k` words are in the line
abbrev pub IsFoldedUpTo : List ℕ → List ℕ → ℕ → Type 0
IsFoldedUpTo text line k = line ++ spaced_from (has_bytes line) (drop k (words_of text)) ≡ folded text

pub fold_none : (text line : List ℕ) → line ≡ [] → IsFoldedUpTo text line 0
fold_none text line e = rw e (folded_words text)

pub fold_more : (text line gapped next word : List ℕ) (k : ℕ) → k < length (words_of text)
    → word ≡ get_or (words_of text) k word → gapped ≡ (if has_bytes line then line ++ 32 ∷ [] else line)
    → next ≡ gapped ++ word → IsFoldedUpTo text line k → IsFoldedUpTo text next (k + 1)
fold_more text line gapped next word k less here gap is sofar =
    let behind : List (List ℕ) = drop (k + 1) (words_of text) in
    let some : has_bytes word ≡ true = rw here (filter_passes has_bytes (parts_by is_blank_byte text) k word less) in
    let first : get_or (words_of text) k word ∷ behind ≡ word ∷ behind = rw (← here) refl in
    let left : drop k (words_of text) ≡ word ∷ behind = drop_more (words_of text) k word less ∙ first in
    let begun : has_bytes next ≡ true = rw is (some_bytes gapped word some) in
    rw (begun, is, gap, more_word (has_bytes line) line word (spaced_from true behind)) (rw left at sofar)

pub fold_all : (text line : List ℕ) (k : ℕ) → k ≡ length (words_of text) → IsFoldedUpTo text line k → line ≡ folded text
fold_all text line k e whole =
    let none : drop k (words_of text) ≡ [] = drop_all k (words_of text) (omega arith) in
    sym (append-nil line) ∙ rw none at whole
