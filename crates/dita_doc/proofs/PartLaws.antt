-- The parts of bytes between those that pass a test, and the words.
use Rattle.std.specs.Prelude.{◌≡◌, ◌==◌, ◌+◌, ◌<◌, ◌≤◌, ℕ, suc, Bool, true, false, List, [], ◌∷◌, ◌++◌, length, take, drop}
use Rattle.std.specs.List.{list_any, filter, position_or_len}
use Rattle.std.proofs.Common.{refl, sym, subst, arith, length-append}
use Rattle.std.proofs.lemmas.Bool.{or_parts}
use Rattle.std.proofs.lemmas.Bool.Decides.{nat_tests}
use Rattle.std.proofs.lemmas.List.{length-take-le}
use Rattle.std.proofs.lemmas.List.Sums.{prefix_len-le-length}
use Rattle.dita_doc.specs.Bytes.{has_bytes, parts_by, words_by}

-- a front without such a byte is the first part of what it begins
pub parts_after : (ends : ℕ → Bool) (front back : List ℕ) (byte : ℕ) → ends byte ≡ true → list_any ends front ≡ false
    → parts_by ends (front ++ byte ∷ back) ≡ front ∷ parts_by ends back
parts_after ends [] back byte ended e = rw ended refl
parts_after ends (b ∷ front) back byte ended e =
    let parts = or_parts (ends b) (list_any ends front) e in
    rw (parts.0, parts_after ends front back byte ended parts.1) refl

-- and without such a byte there is one part
pub one_part : (ends : ℕ → Bool) (front : List ℕ) → list_any ends front ≡ false → parts_by ends front ≡ front ∷ []
one_part ends [] e = refl
one_part ends (b ∷ front) e =
    let parts = or_parts (ends b) (list_any ends front) e in
    rw (parts.0, one_part ends front parts.1) refl

-- a back is shorter than what it ends
pub shorter : (front back : List ℕ) (byte : ℕ) → length back < length (front ++ byte ∷ back)
shorter front back byte = omega (arith, length-append front (byte ∷ back))

-- a front without such a byte is the first word of what it begins
pub first_word : (ends : ℕ → Bool) (front back : List ℕ) (byte : ℕ) → ends byte ≡ true → list_any ends front ≡ false
    → false ≡ (length front == 0) → words_by ends (front ++ byte ∷ back) ≡ front ∷ words_by ends back
first_word ends front back byte ended e some = rw (parts_after ends front back byte ended e, ← some) refl

-- and an empty front is no word
pub no_first_word : (ends : ℕ → Bool) (front back : List ℕ) (byte : ℕ) → ends byte ≡ true → list_any ends front ≡ false
    → true ≡ (length front == 0) → words_by ends (front ++ byte ∷ back) ≡ words_by ends back
no_first_word ends front back byte ended e empty = rw (parts_after ends front back byte ended e, ← empty) refl

-- without such a byte there is one word
pub one_word : (ends : ℕ → Bool) (front : List ℕ) → list_any ends front ≡ false → false ≡ (length front == 0)
    → words_by ends front ≡ front ∷ []
one_word ends front e some = rw (one_part ends front e, ← some) refl

-- or none
pub no_word : (ends : ℕ → Bool) (front : List ℕ) → list_any ends front ≡ false → true ≡ (length front == 0)
    → words_by ends front ≡ []
no_word ends front e empty = rw (one_part ends front e, ← empty) refl

-- The first word goes on to the first such byte

-- the first part has so many bytes, and the words of the other parts are those of what stands behind it
record PartTo (ends : ℕ → Bool) (bytes : List ℕ) (end : ℕ) : Type 0 where
  pub others : List (List ℕ)
  pub parts : parts_by ends bytes ≡ take end bytes ∷ others
  pub words : filter has_bytes others ≡ words_by ends (drop end bytes)

part_more : (ends : ℕ → Bool) (b : ℕ) (bytes : List ℕ) (end : ℕ) → ends b ≡ false → PartTo ends bytes end
    → PartTo ends (b ∷ bytes) (1 + end)
part_more ends b bytes end e more =
    let one : 1 + end ≡ suc end = omega arith in
    let P : ℕ → Type 0 = λ n. PartTo ends (b ∷ bytes) n in
    subst P (sym one) (record { others = more.others; parts = rw (e, more.parts) refl; words = more.words })

part_from : (ends : ℕ → Bool) (b : ℕ) (bytes : List ℕ) (ended : Bool) → ends b ≡ ended
    → PartTo ends bytes (position_or_len ends bytes) → PartTo ends (b ∷ bytes) (position_or_len ends (b ∷ bytes))
part_from ends b bytes true e more =
    rw e (record { others = parts_by ends bytes; parts = rw e refl; words = rw e refl })
part_from ends b bytes false e more = rw e (part_more ends b bytes (position_or_len ends bytes) e more)

part_to : (ends : ℕ → Bool) (bytes : List ℕ) → PartTo ends bytes (position_or_len ends bytes)
part_to ends [] = record { others = []; parts = refl; words = refl }
part_to ends (b ∷ bytes) = part_from ends b bytes (ends b) refl (part_to ends bytes)

-- if it is not empty, it is the first word
pub word_to : (ends : ℕ → Bool) (bytes : List ℕ) → 0 < position_or_len ends bytes
    → words_by ends bytes ≡ take (position_or_len ends bytes) bytes ∷ words_by ends
    (drop (position_or_len ends bytes) bytes)
word_to ends bytes some =
    let part = part_to ends bytes in
    let fits : position_or_len ends bytes ≤ length bytes = prefix_len-le-length _ bytes in
    let count : length (take (position_or_len ends bytes) bytes) ≡ position_or_len ends bytes =
    length-take-le _ bytes fits in
    let has : (position_or_len ends bytes == 0) ≡ false = grind (arith, nat_tests) in
    rw (part.parts, count, has, part.words) refl
