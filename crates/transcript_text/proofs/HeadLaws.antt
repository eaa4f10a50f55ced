-- The lines that begin entries and rows, and the last line, by their words.
use Rattle.std.specs.Prelude.{◌≡◌, ◌<◌, ◌^◌, ℕ, List, [], ◌∷◌, ◌++◌, Option, Some, None, codes, length}
use Rattle.std.specs.Fmt.{decimal}
use Rattle.std.proofs.Common.{refl, sym, ap, ◌∙◌, arith, append_assoc}
use Rattle.std.proofs.lemmas.Fmt.{decimal_injective}
use Rattle.dita_doc.specs.Cut.{Lacks}
use Rattle.transcript_text.specs.Transcript.{Fits64, IsValShown, PartShown, IsPage, IsContents, part_text, part_index, val_text, RowShown, IsRowShown, row_head, Totals, end_head}
use Rattle.transcript_text.specs.declared.below.Below.{Below}
use Rattle.dita_doc.specs.Bytes.{spaced_parts}
use Rattle.transcript_text.specs.Below.{below_of}
use Rattle.transcript_text.specs.Heads.{IsEntryLine, IsRowLine, row_words, IsEndLine}
use Rattle.transcript_text.specs.Written.{numbers_text}
use Rattle.dita_doc.proofs.LackLaws.{lacks_decimal, lacks_name}
use Rattle.transcript_text.proofs.WordLaws.{words_behind, one_word, one_peeled}
use Rattle.transcript_text.proofs.TextLaws.{decimal_word}

-- a number and what stands behind its space
pub number_word : (n : ℕ) (rest : List ℕ) → n < 2 ^ 64
    → spaced_parts (decimal n ++ 32 ∷ [] ++ rest) ≡ decimal n ∷ spaced_parts rest
number_word n rest small = words_behind (decimal n) rest (lacks_decimal 32 n (λ range. omega (arith, range.0)) small)

pub small_from : (n : ℕ) → n < 2 ^ 32 → n < 2 ^ 64
small_from n less = omega arith

-- entries

parts_of_numbers : (place session number reply : List ℕ)
    → place ++ 32 ∷ [] ++ session ++ 32 ∷ [] ++ number ++ 32 ∷ [] ++ reply ≡ place ++ 32 ∷ [] ++
    (session ++ 32 ∷ [] ++ (number ++ 32 ∷ [] ++ reply))
parts_of_numbers place session number reply = simp append_assoc

three_numbers : (place session number : ℕ) (reply : List ℕ) → place < 2 ^ 64 → session < 2 ^ 64 → number < 2 ^ 64
    → spaced_parts (decimal place ++ 32 ∷ [] ++ (decimal session ++ 32 ∷ [] ++ (decimal number ++ 32 ∷ [] ++ reply)))
    ≡ decimal place ∷ decimal session ∷ decimal number ∷ spaced_parts reply
three_numbers place session number reply first second third =
    number_word place _ first
    ∙ ap (λ words. decimal place ∷ words)
    (number_word session _ second ∙ ap (λ words. decimal session ∷ words) (number_word number reply third))

pub entry_head_words : (place session number : ℕ) (reply : List ℕ) → place < 2 ^ 64 → session < 2 ^ 32 → number < 2 ^ 32
    → spaced_parts (numbers_text place session number ++ reply)
    ≡ codes "entry" ∷ decimal place ∷ decimal session ∷ decimal number ∷ spaced_parts reply
entry_head_words place session number reply first second third =
    ap (λ words. codes "entry" ∷ words)
    (ap spaced_parts (parts_of_numbers (decimal place) (decimal session) (decimal number) reply)
    ∙ three_numbers place session number reply first (small_from session second) (small_from number third))

-- what the reply of a line says is said once
pub entry_line_once : (line reply other : List ℕ) (p s n q t m : ℕ) (below less : Below)
    → IsEntryLine line p s n reply below → IsEntryLine line q t m other less → below ≡ less
entry_line_once line reply other p s n q t m below less first second =
    let p1 = one_peeled _ _ _ _ _ first.words second.words in
    let p2 = one_peeled _ _ _ _ _ refl p1.1 in
    let p3 = one_peeled _ _ _ _ _ refl p2.1 in
    let p4 = one_peeled _ _ _ _ _ refl p3.1 in
    let same : spaced_parts reply ≡ spaced_parts other = p4.1 in
    let said : Some below ≡ Some less = sym first.said ∙ ap below_of same ∙ second.said in
    cc

-- rows

part_lacks : (part : PartShown) → Lacks 32 (part_text part)
part_lacks (IsPage index) = refl
part_lacks IsContents = refl

val_lacks : (val : Option (List ℕ)) → IsValShown val → Lacks 32 (val_text val)
val_lacks None named = refl
val_lacks (Some val) named = lacks_name 32 val (omega arith) named.named

parts_of_row : (a b c d e f : List ℕ)
    → a ++ 32 ∷ [] ++ b ++ 32 ∷ [] ++ c ++ 32 ∷ [] ++ d ++ 32 ∷ [] ++ e ++ 32 ∷ [] ++ f
    ≡ a ++ 32 ∷ [] ++ (b ++ 32 ∷ [] ++ (c ++ 32 ∷ [] ++ (d ++ 32 ∷ [] ++ (e ++ 32 ∷ [] ++ f))))
parts_of_row a b c d e f = simp append_assoc

six_words : (a b c d e f : List ℕ) → Lacks 32 a → Lacks 32 b → Lacks 32 c → Lacks 32 d → Lacks 32 e → Lacks 32 f
    → spaced_parts (a ++ 32 ∷ [] ++ (b ++ 32 ∷ [] ++ (c ++ 32 ∷ [] ++ (d ++ 32 ∷ [] ++ (e ++ 32 ∷ [] ++ f)))))
    ≡ a ∷ b ∷ c ∷ d ∷ e ∷ f ∷ []
six_words a b c d e f la lb lc ld le lf =
    words_behind a _ la ∙ ap (λ words. a ∷ words)
    (words_behind b _ lb ∙ ap (λ words. b ∷ words) (words_behind c _ lc ∙ ap (λ words. c ∷ words)
    (words_behind d _ ld ∙ ap (λ words. d ∷ words) (words_behind e _ le ∙ ap (λ words. e ∷ words) (one_word f lf)))))

pub row_head_words : (row : RowShown) → IsRowShown row
    → spaced_parts (row_head row) ≡ row_words row.serial row.part row.map row.val (length row.lines)
row_head_words row is =
    let digits : (n : ℕ) → n < 2 ^ 64
    → Lacks 32 (decimal n) = λ n small. lacks_decimal 32 n (λ range. omega (arith, range.0)) small in
    ap (λ words. codes "row" ∷ words)
    (ap spaced_parts (parts_of_row (decimal row.serial) (part_text row.part) row.map (val_text row.val)
    (decimal (part_index row.part)) (decimal (length row.lines)))
    ∙ six_words (decimal row.serial) (part_text row.part) row.map (val_text row.val) (decimal (part_index row.part))
    (decimal (length row.lines))
    (digits row.serial is.serial) (part_lacks row.part) (lacks_name 32 row.map (omega arith) is.map.named)
    (val_lacks row.val is.val)
    (digits (part_index row.part) (small_from (part_index row.part) is.index)) (digits (length row.lines) is.count))

pub row_head_is : (row : RowShown) → IsRowShown row
    → IsRowLine (row_head row) row.serial row.part row.map row.val (length row.lines)
row_head_is row is =
    record {
      serial_fits = is.serial;
      index_fits = is.index;
      map_named = is.map;
      val_named = is.val;
      count_fits = is.count;
      words = row_head_words row is;
    }

-- a row's line has one serial and one count
pub row_line_once : (line map other : List ℕ) (serial more count few : ℕ) (part apart : PartShown)
    (val vale : Option (List ℕ))
    → IsRowLine line serial part map val count → IsRowLine line more apart other vale few
    → (serial ≡ more) × (count ≡ few)
row_line_once line map other serial more count few part apart val vale first second =
    let p1 = one_peeled _ _ _ _ _ first.words second.words in
    let p2 = one_peeled _ _ _ _ _ refl p1.1 in
    let p3 = one_peeled _ _ _ _ _ refl p2.1 in
    let p4 = one_peeled _ _ _ _ _ refl p3.1 in
    let p5 = one_peeled _ _ _ _ _ refl p4.1 in
    let p6 = one_peeled _ _ _ _ _ refl p5.1 in
    let p7 = one_peeled _ _ _ _ _ refl p6.1 in (
      decimal_injective serial more first.serial_fits second.serial_fits p2.0,
      decimal_injective count few first.count_fits second.count_fits p7.0,
    )

-- the last line

parts_of_three : (a b c : List ℕ) → a ++ 32 ∷ [] ++ b ++ 32 ∷ [] ++ c ≡ a ++ 32 ∷ [] ++ (b ++ 32 ∷ [] ++ c)
parts_of_three a b c = simp append_assoc

pub end_head_words : (totals : Totals) → totals.entries < 2 ^ 64 → totals.made < 2 ^ 64 → totals.dropped < 2 ^ 64
    → spaced_parts (end_head totals)
    ≡ codes "end" ∷ decimal totals.entries ∷ decimal totals.made ∷ decimal totals.dropped ∷ []
end_head_words totals first second third = ap (λ words. codes "end" ∷ words)
    (ap spaced_parts (parts_of_three (decimal totals.entries) (decimal totals.made) (decimal totals.dropped))
    ∙ number_word totals.entries _ first
    ∙ ap (λ words. decimal totals.entries ∷ words)
    (number_word totals.made _ second ∙ ap (λ words. decimal totals.made ∷ words) (decimal_word totals.dropped third)))

pub end_is : (totals : Totals) → Fits64 totals.entries → Fits64 totals.made → Fits64 totals.dropped
    → IsEndLine (end_head totals) totals.entries totals.made totals.dropped
end_is totals first second third = record {
  entries_fits = first;
  made_fits = second;
  dropped_fits = third;
  words = end_head_words totals first second third;
}

-- three kinds of lines
other_words : (a b : List ℕ) (l x y : List (List ℕ)) → (a ≡ b → ⊥) → l ≡ a ∷ x → l ≡ b ∷ y → ⊥
other_words a b l x y other first second = other (one_peeled a b l x y first second).0

pub entry_no_row : (line reply map : List ℕ) (p s n serial count : ℕ) (below : Below) (part : PartShown)
    (val : Option (List ℕ)) → IsEntryLine line p s n reply below → IsRowLine line serial part map val count → ⊥
entry_no_row line reply map p s n serial count below part val first second =
    other_words (codes "entry") (codes "row") _ _ _ (λ e. cc) first.words second.words

pub entry_no_end : (line reply : List ℕ) (p s n entries made dropped : ℕ) (below : Below)
    → IsEntryLine line p s n reply below → IsEndLine line entries made dropped → ⊥
entry_no_end line reply p s n entries made dropped below first second =
    other_words (codes "entry") (codes "end") _ _ _ (λ e. cc) first.words second.words

pub row_no_end : (line map : List ℕ) (serial count entries made dropped : ℕ) (part : PartShown) (val : Option (List ℕ))
    → IsRowLine line serial part map val count → IsEndLine line entries made dropped → ⊥
row_no_end line map serial count entries made dropped part val first second =
    other_words (codes "row") (codes "end") _ _ _ (λ e. cc) first.words second.words
