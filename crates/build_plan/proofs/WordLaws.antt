-- Document names: of which parts their test is made, and how they are joined.
use Rattle.std.specs.Prelude.{◌≡◌, ◌<◌, ◌≤◌, ◌^◌, ◌+◌, ◌%◌, ◌==◌, ◌++◌, ℕ, Bool, true, false, not, List, [], ◌∷◌, length, nat_le, codes, bytes_eq}
use Rattle.std.specs.Fmt.{decimal}
use Rattle.std.specs.List.{list_all}
use Rattle.std.proofs.Common.{refl, sym, ap, subst, ◌∙◌, arith, append_assoc, length-append}
use Rattle.std.proofs.lemmas.Bool.{and_from, and_parts, eqb-true, false_from_ne_true, le-leb, not-true}
use Rattle.std.proofs.lemmas.Bool.Decides.{nat_tests}
use Rattle.std.proofs.lemmas.Fmt.{decimal_by_steps, length-decimal-le}
use Rattle.std.proofs.lemmas.List.Folds.{list_all-append, list_any-append}
use Rattle.std.proofs.lemmas.Slice.Eq.{bytes_eq-Decides}
use Rattle.dita_doc.specs.Bytes.{is_slash, slash}
use Rattle.dita_doc.specs.Cut.{Lacks}
use Rattle.dita_doc.specs.Name.{is_name, is_name_byte, is_segment, name_limit, segments_of}
use Rattle.dita_doc.proofs.NameLaws.{one_uncut, segments_after}

-- the four parts that the test of a name has
pub record IsNamed (bytes : List ℕ) : Type 0 where
  pub short : nat_le (length bytes) name_limit ≡ true
  pub plain : list_all is_name_byte bytes ≡ true
  pub parts : list_all is_segment (segments_of bytes) ≡ true
  pub other : bytes_eq bytes (codes "-") ≡ false

-- the test gives the four parts
pub name_parts : (bytes : List ℕ) → is_name bytes ≡ true → IsNamed bytes
name_parts bytes e =
    let front = and_parts _ (not (bytes_eq bytes (codes "-"))) e in
    let middle = and_parts _ (list_all is_segment (segments_of bytes)) front.0 in
    let first = and_parts (nat_le (length bytes) name_limit) (list_all is_name_byte bytes) middle.0 in
    record { short = first.0; plain = first.1; parts = middle.1; other = not-true _ front.1 }

-- and from the four parts the test
pub name_from : (bytes : List ℕ) → IsNamed bytes → is_name bytes ≡ true
name_from bytes named = rw (named.short, named.plain, named.parts, named.other)

-- a shorter list is another list
pub differs_from_shorter : (xs ys : List ℕ) → length ys < length xs → bytes_eq xs ys ≡ false
differs_from_shorter xs ys less =
    false_from_ne_true (bytes_eq xs ys)
    (λ e. let same = ap length ((bytes_eq-Decides xs ys).0 e) in absurd (omega arith))

-- only `.` and `..` are refused as segments, and what is empty
segment_from_length : (bytes : List ℕ) → 2 < length bytes → is_segment bytes ≡ true
segment_from_length bytes more =
    let full : (length bytes == 0) ≡ false = grind (arith, nat_tests) in
    let one = differs_from_shorter bytes (codes ".") (omega arith) in
    let two = differs_from_shorter bytes (codes "..") (omega arith) in
    rw (full, one, two)

-- bytes of a name, none of which is `/`
pub record IsWord (bytes : List ℕ) : Type 0 where
  pub plain : list_all is_name_byte bytes ≡ true
  pub lacks : Lacks slash bytes

-- what two words make is a word
pub words_joined : (front back : List ℕ) → IsWord front → IsWord back → IsWord (front ++ back)
words_joined front back f b = record {
  plain = rw (list_all-append, f.plain, b.plain);
  lacks = rw (list_any-append, f.lacks, b.lacks);
}

-- a digit is a word
digit_is_word : (n : ℕ) → n < 10 → IsWord ((48 + n) ∷ [])
digit_is_word n small = record { plain = grind (arith, nat_tests); lacks = grind (arith, nat_tests) }

-- and so is a number
pub decimal_is_word : (n : ℕ) → n < 2 ^ 64 → IsWord (decimal n)
decimal_is_word n small =
    decimal_by_steps (λ _ digits. IsWord digits) digit_is_word
    (λ m digits more front. words_joined digits ((48 + m % 10) ∷ []) front (digit_is_word (m % 10) (omega arith))) n
    small

-- a word of 3 to 255 bytes is a name
pub word_is_name : (bytes : List ℕ) → IsWord bytes → 2 < length bytes → length bytes ≤ 255 → is_name bytes ≡ true
word_is_name bytes word more short = name_from bytes (record {
  short = le-leb _ _ short;
  plain = word.plain;
  parts = rw (one_uncut bytes word.lacks, segment_from_length bytes more);
  other = differs_from_shorter bytes (codes "-") (omega arith);
})

-- A word in the place of an end of a name

-- a byte more at a front without `/`
lacks_more : (b : ℕ) (front : List ℕ) → is_slash b ≡ false → Lacks slash front → Lacks slash (front ++ b ∷ [])
lacks_more b front e lacks = rw (list_any-append, lacks, e) refl

-- all segments are good
abbrev are_good : List ℕ → Type 0
are_good bytes = list_all is_segment (segments_of bytes) ≡ true

-- behind a byte the segments stay good, if they do behind what stands before the rest
good_behind : (front rest end word : List ℕ) (b : ℕ) (test : Bool) → is_slash b ≡ test → Lacks slash front
    → ((before : List ℕ) → Lacks slash before → are_good (before ++ (rest ++ end))
    → are_good (before ++ (rest ++ word)))
    → are_good (front ++ b ∷ (rest ++ end)) → are_good (front ++ b ∷ (rest ++ word))
good_behind front rest end word b true e lacks more good =
    let slashed : b ≡ slash = eqb-true b slash e in
    let here : are_good (front ++ slash ∷ (rest ++ end)) =
    subst (λ (byte : ℕ). are_good (front ++ byte ∷ (rest ++ end))) slashed good in
    let parts = and_parts (is_segment front) (list_all is_segment (segments_of (rest ++ end)))
    (rw (segments_after front (rest ++ end) lacks) at here) in
    rw (slashed, segments_after front (rest ++ word) lacks) (and_from _ _ parts.0 (more [] refl parts.1))
good_behind front rest end word b false e lacks more good =
    subst are_good (append_assoc front (b ∷ []) (rest ++ word))
    (more (front ++ b ∷ []) (lacks_more b front e lacks)
    (subst are_good (sym (append_assoc front (b ∷ []) (rest ++ end))) good))

-- the segments stay good; `front` is what stands behind the last `/` before the rest
good_with_end : (rest end word : List ℕ) → IsWord word → 2 < length word → (front : List ℕ) → Lacks slash front
    → are_good (front ++ (rest ++ end)) → are_good (front ++ (rest ++ word))
good_with_end [] end word is long front lacks good =
    one_uncut (front ++ word) (rw (list_any-append, lacks, is.lacks) refl)
    ∙ segment_from_length (front ++ word) (omega (arith, length-append front word))
good_with_end (b ∷ rest) end word is long front lacks good =
    good_behind front rest end word b (is_slash b) refl lacks (good_with_end rest end word is long) good

-- a name with a word in the place of its end is a name, if it is short
pub name_with_end : (front end word : List ℕ) → is_name (front ++ end) ≡ true → IsWord word → 2 < length word
    → length front + length word ≤ 255 → is_name (front ++ word) ≡ true
name_with_end front end word named is long short =
    let parts = name_parts (front ++ end) named in
    let plain : list_all is_name_byte front ≡ true =
    (and_parts _ (list_all is_name_byte end) (rw list_all-append at parts.plain)).0 in
    name_from (front ++ word) (record {
      short = le-leb _ _ (omega (arith, length-append front word));
      plain = rw (list_all-append, plain, is.plain);
      parts = good_with_end front end word is long [] refl parts.parts;
      other = differs_from_shorter (front ++ word) (codes "-") (omega (arith, length-append front word));
    })

-- Names under the folder of a build

-- a name under a folder of `b` and at most five digits
under_digits : (digits name : List ℕ) → IsWord digits → length digits ≤ 5 → is_name name ≡ true → length name ≤ 248
    → is_name (98 ∷ digits ++ 47 ∷ name) ≡ true
under_digits digits name word few named short =
    let parts = name_parts name named in
    let front = words_joined (98 ∷ []) digits (record { plain = refl; lacks = refl }) word in
    let full : (length (98 ∷ digits) == 0) ≡ false = grind (arith, nat_tests) in
    name_from (98 ∷ digits ++ 47 ∷ name) (record {
      short = le-leb _ _ (omega (arith, length-append (98 ∷ digits) (47 ∷ name)));
      plain = rw (list_all-append, front.plain, parts.plain);
      parts = rw (segments_after (98 ∷ digits) name front.lacks, full, parts.parts);
      other = refl;
    })

-- and so under the folder of any build of a script
pub name_under : (number : ℕ) (name : List ℕ) → number ≤ 65536 → is_name name ≡ true → length name ≤ 248
    → is_name (codes "b" ++ decimal number ++ codes "/" ++ name) ≡ true
name_under number name small named short =
    let digits = length-decimal-le 5 number (omega arith) (omega arith) (omega arith) in
    rw (append_assoc (decimal number) (codes "/") name)
    (under_digits (decimal number) name (decimal_is_word number (omega arith)) digits named short)
