-- The words of lines.
use Rattle.std.specs.Prelude.{◌≡◌, ◌<◌, ◌==◌, ℕ, Bool, true, false, List, [], ◌∷◌, ◌++◌, Option, Some, None, length, is_some, if◌then◌else◌}
use Rattle.std.specs.Borrow.{Bor}
use Rattle.std.proofs.Common.{refl, sym, ap, ◌∙◌, arith, append_assoc, length-append}
use Rattle.std.proofs.lemmas.Bool.{eqb-true}
use Rattle.std.proofs.lemmas.List.{append_cancel_right}
use Rattle.dita_doc.specs.Cut.{Lacks, IsCutAt}
use Rattle.dita_doc.specs.Bytes.{onto_first, is_space, spaced_parts}
use Rattle.dita_doc.proofs.PartLaws.{parts_after, one_part}
use Rattle.transcript_text.specs.Words.{words_in}

-- a front without space is the first word of what it begins
pub words_after : (word rest : List ℕ) → Lacks 32 word → spaced_parts (word ++ 32 ∷ rest) ≡ word ∷ spaced_parts rest
words_after word rest e = parts_after is_space word rest 32 refl e

-- without space there is one word
pub one_word : (word : List ℕ) → Lacks 32 word → spaced_parts word ≡ word ∷ []
one_word word e = one_part is_space word e

pub words_cut : (line front back : List ℕ) → IsCutAt 32 line front back → spaced_parts line ≡ front ∷ spaced_parts back
words_cut line front back cut = rw cut.whole (words_after front back cut.first)

-- the same with the space apart
pub words_behind : (word rest : List ℕ) → Lacks 32 word
    → spaced_parts (word ++ 32 ∷ [] ++ rest) ≡ word ∷ spaced_parts rest
words_behind word rest lacks = rw append_assoc (words_after word rest lacks)

-- words, each with a space behind it
spaced : List (List ℕ) → List ℕ
spaced [] = []
spaced (word ∷ words) = word ++ 32 ∷ spaced words

spaced_onto : (b : ℕ) (words : List (List ℕ)) → 0 < length (spaced words)
    → spaced (onto_first b words) ≡ b ∷ spaced words
unfolding spaced
spaced_onto b [] some = absurd (omega arith)
spaced_onto b (word ∷ words) some = refl

spaced_from : (b : ℕ) (line : List ℕ) (space : Bool) → (b == 32) ≡ space → spaced (spaced_parts line) ≡ line ++ 32 ∷ []
    → spaced (if space then [] ∷ spaced_parts line else onto_first b (spaced_parts line)) ≡ b ∷ (line ++ 32 ∷ [])
unfolding spaced
spaced_from b line true e rest = let same : b ≡ 32 = eqb-true _ _ e in rw (rest, same) refl
spaced_from b line false e rest =
    let some : 0 < length (spaced (spaced_parts line)) = rw rest (omega (arith, length-append line (32 ∷ []))) in
    spaced_onto b (spaced_parts line) some ∙ ap (λ (l : List ℕ). b ∷ l) rest

spaced_words : (line : List ℕ) → spaced (spaced_parts line) ≡ line ++ 32 ∷ []
unfolding spaced
spaced_words [] = refl
spaced_words (b ∷ line) = spaced_from b line (b == 32) refl (spaced_words line)

-- lines of the same words are the same
pub words_same : (x y : List ℕ) → spaced_parts x ≡ spaced_parts y → x ≡ y
words_same x y e = append_cancel_right x y (32 ∷ []) (sym (spaced_words x) ∙ ap spaced e ∙ spaced_words y)

-- there is a word
pub words_some : (line : List ℕ) → spaced_parts line ≡ [] → ⊥
unfolding spaced
words_some line e =
    let same : [] ≡ line ++ 32 ∷ [] = sym (ap spaced e)
    ∙ spaced_words line in omega (arith, ap length same, length-append line (32 ∷ []))

-- where no words are left, no rest is
pub none_left : (rest : Option (Bor (List ℕ))) → is_some rest ≡ true → words_in rest ≡ [] → ⊥
none_left (Some rest) some none = words_some rest.now none
none_left None some none = absurd (cc)

peel : (a b : List ℕ) (x y : List (List ℕ)) → a ∷ x ≡ b ∷ y → (a ≡ b) × (x ≡ y)
peel a b x y e = (cc, cc)

pub one_peeled : (a b : List ℕ) (l x y : List (List ℕ)) → l ≡ a ∷ x → l ≡ b ∷ y → (a ≡ b) × (x ≡ y)
one_peeled a b l x y is e = peel a b x y (sym is ∙ e)

-- seven words that were taken one by one are those of the line
pub seven_words : (l l1 l2 l3 l4 l5 l6 l7 : List (List ℕ)) (a1 a2 a3 a4 a5 a6 a7 b1 b2 b3 b4 b5 b6 b7 : List ℕ)
    → l ≡ a1 ∷ l1 → l1 ≡ a2 ∷ l2 → l2 ≡ a3 ∷ l3 → l3 ≡ a4 ∷ l4 → l4 ≡ a5 ∷ l5 → l5 ≡ a6 ∷ l6 → l6 ≡ a7 ∷ l7
    → l ≡ b1 ∷ b2 ∷ b3 ∷ b4 ∷ b5 ∷ b6 ∷ b7 ∷ [] → (a3 ≡ b3) × (a6 ≡ b6) × (l7 ≡ [])
seven_words l l1 l2 l3 l4 l5 l6 l7 a1 a2 a3 a4 a5 a6 a7 b1 b2 b3 b4 b5 b6 b7 e1 e2 e3 e4 e5 e6 e7 e =
    let p1 = one_peeled a1 b1 l l1 _ e1 e in
    let p2 = one_peeled a2 b2 l1 l2 _ e2 p1.1 in
    let p3 = one_peeled a3 b3 l2 l3 _ e3 p2.1 in
    let p4 = one_peeled a4 b4 l3 l4 _ e4 p3.1 in
    let p5 = one_peeled a5 b5 l4 l5 _ e5 p4.1 in
    let p6 = one_peeled a6 b6 l5 l6 _ e6 p5.1 in
    (p3.0, p6.0, (one_peeled a7 b7 l6 l7 _ e7 p6.1).1)

-- lines of one, two and three words
pub words_one : (x a : List ℕ) → spaced_parts x ≡ a ∷ [] → a ≡ x
unfolding spaced
words_one x a e = append_cancel_right a x (32 ∷ []) (sym (ap spaced e) ∙ spaced_words x)

pub words_two : (x a b : List ℕ) → spaced_parts x ≡ a ∷ b ∷ [] → a ++ 32 ∷ b ≡ x
unfolding spaced
words_two x a b e =
    append_cancel_right (a ++ 32 ∷ b) x (32 ∷ [])
    (append_assoc a (32 ∷ b) (32 ∷ []) ∙ sym (ap spaced e) ∙ spaced_words x)

pub words_three : (x a b c : List ℕ) → spaced_parts x ≡ a ∷ b ∷ c ∷ [] → a ++ 32 ∷ (b ++ 32 ∷ c) ≡ x
unfolding spaced
words_three x a b c e =
    append_cancel_right (a ++ 32 ∷ (b ++ 32 ∷ c)) x (32 ∷ [])
    (append_assoc a (32 ∷ (b ++ 32 ∷ c)) (32 ∷ [])
    ∙ ap (λ (l : List ℕ). a ++ 32 ∷ l) (append_assoc b (32 ∷ c) (32 ∷ [])) ∙ sym (ap spaced e) ∙ spaced_words x)
