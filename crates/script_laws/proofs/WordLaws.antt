-- A line is one of its words, and of no others.
use Rattle.std.specs.Prelude.{◌≡◌, ◌++◌, ℕ, Bool, true, false, List, [], ◌∷◌, if◌then◌else◌}
use Rattle.std.specs.List.{list_any, filter, All}
use Rattle.std.proofs.Common.{refl, sym, ap, subst, ◌∙◌, arith, append-nil, append_assoc}
use Rattle.std.proofs.lemmas.Bool.{and_parts, or_from, not-true}
use Rattle.std.proofs.lemmas.Bool.Decides.{nat_tests}
use Rattle.std.proofs.lemmas.List.Elements.{All-nil, All-cons, All-head, All-tail}
use Rattle.dita_doc.specs.Bytes.{space, is_space, has_bytes, onto_first, parts_by, spaced_words}
use Rattle.dita_doc.proofs.PartLaws.{first_word, no_first_word, one_word}
use Rattle.script_laws.specs.Words.{AreSpaces, AreBehind, IsLineOf}

-- a word: bytes, and no space among them
abbrev pub IsWord : List ℕ → Type 0
IsWord word = (has_bytes word ≡ true) × (list_any is_space word ≡ false)

-- A line is one of its words

-- what stands behind a word is a line of the next words
line_of_behind : (words : List (List ℕ)) (rest : List ℕ) → AreBehind words rest → IsLineOf words rest
line_of_behind [] rest are = are
line_of_behind (word ∷ words) rest behind = (space ∷ behind.0, behind.1, behind.2, behind.3, behind.4)

-- and a line with a space before it stands behind a word
behind_of_line : (words : List (List ℕ)) (line : List ℕ) → IsLineOf words line → AreBehind words (space ∷ line)
behind_of_line [] line are = are
behind_of_line (word ∷ words) line is = (is.0, is.1, is.2, ap (λ bytes. space ∷ bytes) is.3, is.4)

-- a line begins with its first part, and the words among its other parts stand behind that
HasParts : List (List ℕ) → List ℕ → Type 0
HasParts [] line = ⊥
HasParts (first ∷ others) line = (rest : List ℕ) × (line ≡ first ++ rest) × AreBehind (filter has_bytes others) rest

-- so it is a line of the words among its parts
line_by_first : (first rest : List ℕ) (others : List (List ℕ)) (some : Bool) → has_bytes first ≡ some
    → AreBehind (filter has_bytes others) rest → IsLineOf (filter has_bytes (first ∷ others)) (first ++ rest)
line_by_first first rest others true e behind = rw e ([], rest, refl, refl, behind)
line_by_first [] rest others false e behind = line_of_behind _ rest behind
line_by_first (b ∷ first) rest others false e behind = absurd (grind (arith, nat_tests))

line_by_parts : (parts : List (List ℕ)) (line : List ℕ) → HasParts parts line → IsLineOf (filter has_bytes parts) line
unfolding HasParts
line_by_parts [] line has = absurd has
line_by_parts (first ∷ others) line has =
    subst (IsLineOf (filter has_bytes (first ∷ others))) (sym has.1)
    (line_by_first first has.0 others (has_bytes first) refl has.2)

onto_parts : (b : ℕ) (line : List ℕ) (parts : List (List ℕ)) → HasParts parts line
    → HasParts (onto_first b parts) (b ∷ line)
unfolding HasParts
onto_parts b line [] has = absurd has
onto_parts b line (first ∷ others) has = (has.0, ap (λ bytes. b ∷ bytes) has.1, has.2)

parts_from : (b : ℕ) (line : List ℕ) (test : Bool) → is_space b ≡ test → HasParts (parts_by is_space line) line
    → HasParts (parts_by is_space (b ∷ line)) (b ∷ line)
unfolding HasParts
parts_from b line true e has =
    let is : b ≡ space = grind (arith, nat_tests) in
    rw (e, is) (space ∷ line, refl, behind_of_line _ line (line_by_parts (parts_by is_space line) line has))
parts_from b line false e has = rw e (onto_parts b line (parts_by is_space line) has)

parts_of_line : (line : List ℕ) → HasParts (parts_by is_space line) line
unfolding HasParts
parts_of_line [] = ([], refl, refl)
parts_of_line (b ∷ line) = parts_from b line (is_space b) refl (parts_of_line line)

-- each line is a line of its words
pub line_of_words : (line : List ℕ) → IsLineOf (spaced_words line) line
line_of_words line = line_by_parts (parts_by is_space line) line (parts_of_line line)

-- The words of a line are words

LacksSpace : List ℕ → Type 0
LacksSpace part = list_any is_space part ≡ false

onto_lacks : (b : ℕ) (parts : List (List ℕ)) → is_space b ≡ false → All LacksSpace parts
    → All LacksSpace (onto_first b parts)
unfolding LacksSpace
onto_lacks b [] e all = All-cons LacksSpace (b ∷ []) [] (or_from _ _ e refl) (All-nil LacksSpace)
onto_lacks b (first ∷ parts) e all =
    All-cons LacksSpace (b ∷ first) parts (or_from _ _ e (All-head LacksSpace first parts all))
    (All-tail LacksSpace first parts all)

lacks_from : (b : ℕ) (line : List ℕ) (test : Bool) → is_space b ≡ test → All LacksSpace (parts_by is_space line)
    → All LacksSpace (parts_by is_space (b ∷ line))
unfolding LacksSpace
lacks_from b line true e all = rw e (All-cons LacksSpace [] (parts_by is_space line) refl all)
lacks_from b line false e all = rw e (onto_lacks b (parts_by is_space line) e all)

parts_lack : (line : List ℕ) → All LacksSpace (parts_by is_space line)
unfolding LacksSpace
parts_lack [] = All-cons LacksSpace [] [] refl (All-nil LacksSpace)
parts_lack (b ∷ line) = lacks_from b line (is_space b) refl (parts_lack line)

word_kept : (part : List ℕ) (words : List (List ℕ)) (some : Bool) → has_bytes part ≡ some → LacksSpace part
    → All IsWord words → All IsWord (if some then part ∷ words else words)
unfolding LacksSpace
word_kept part words true e lacks all = All-cons IsWord part words (e, lacks) all
word_kept part words false e lacks all = all

words_among : (parts : List (List ℕ)) → All LacksSpace parts → All IsWord (filter has_bytes parts)
words_among [] all = All-nil IsWord
words_among (part ∷ parts) all =
    word_kept part (filter has_bytes parts) (has_bytes part) refl (All-head LacksSpace part parts all)
    (words_among parts (All-tail LacksSpace part parts all))

-- the words of a line are words
pub words_are_words : (line : List ℕ) → All IsWord (spaced_words line)
words_are_words line = words_among (parts_by is_space line) (parts_lack line)

-- A line of some words has these words

-- spaces alone have none
no_words : (gap : List ℕ) → AreSpaces gap → spaced_words gap ≡ []
no_words [] are = refl
no_words (b ∷ gap) are =
    let parts = and_parts (is_space b) _ are in no_first_word is_space [] gap b parts.0 refl refl ∙ no_words gap parts.1

-- and spaces before a line change none
behind_gap : (gap line : List ℕ) → AreSpaces gap → spaced_words (gap ++ line) ≡ spaced_words line
behind_gap [] line are = refl
behind_gap (b ∷ gap) line are =
    let parts = and_parts (is_space b) _ are in
    no_first_word is_space [] (gap ++ line) b parts.0 refl refl ∙ behind_gap gap line parts.1

behind_gap_word : (gap word rest : List ℕ) → AreSpaces gap
    → spaced_words (gap ++ word ++ rest) ≡ spaced_words (word ++ rest)
behind_gap_word gap word rest are = ap spaced_words (append_assoc gap word rest) ∙ behind_gap gap (word ++ rest) are

-- a word is the first
word_before : (word rest : List ℕ) → IsWord word → spaced_words (word ++ space ∷ rest) ≡ word ∷ spaced_words rest
word_before word rest is = first_word is_space word rest space refl is.1 (sym (not-true _ is.0))

words_from : (word : List ℕ) (words : List (List ℕ)) (rest : List ℕ) → IsWord word → All IsWord words
    → AreBehind words rest → spaced_words (word ++ rest) ≡ word ∷ words
words_from word [] [] is all behind =
    ap spaced_words (append-nil word) ∙ one_word is_space word is.1 (sym (not-true _ is.0))
words_from word [] (b ∷ rest) is all behind =
    let parts = and_parts (is_space b) _ behind in
    first_word is_space word rest b parts.0 is.1 (sym (not-true _ is.0))
    ∙ ap (λ words. word ∷ words) (no_words rest parts.1)
words_from word (next ∷ words) rest is all behind =
    let head = All-head IsWord next words all in
    let tail = All-tail IsWord next words all in
    let more = words_from next words behind.1 head tail behind.4 in
    ap (λ bytes. spaced_words (word ++ bytes)) behind.3 ∙ word_before word _ is
    ∙ ap (λ words. word ∷ words) (behind_gap_word behind.0 next behind.1 behind.2 ∙ more)

-- a line of some words has these words
pub words_of_line : (words : List (List ℕ)) (line : List ℕ) → All IsWord words → IsLineOf words line
    → spaced_words line ≡ words
words_of_line [] line all is = no_words line is
words_of_line (word ∷ words) line all is =
    ap spaced_words is.3 ∙ behind_gap_word is.0 word is.1 is.2
    ∙ words_from word words is.1 (All-head IsWord word words all) (All-tail IsWord word words all) is.4
