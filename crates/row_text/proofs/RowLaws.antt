-- Bytes whose last line is ended are their lines, each with its end; and what a row shows.
use Rattle.std.proofs.Common.{◌≡◌, ◌++◌, ◌==◌, ◌∙◌, ℕ, Bool, true, false, List, [], ◌∷◌, Option, Some, None, IfSome, ap, append_assoc, codes, length, refl, subst, sym, if◌then◌else◌}
use Rattle.std.specs.Fmt.{decimal}
use Rattle.std.specs.List.{flat_map}
use Rattle.std.specs.Prelude.{option_map, unwrap_or}
use Rattle.std.specs.Str.{is_utf8}
use Rattle.std.proofs.lemmas.Bool.{eqb-true}
use Rattle.std.proofs.lemmas.Option.{none-some}
use Rattle.dita_doc.specs.Bytes.{line_feed, onto_first}
use Rattle.dita_doc.specs.Lines.{ends_with_line, line, lines_of}
use Rattle.dita_doc.specs.declared.fact.Part.{Part}
use Rattle.dita_doc.specs.declared.fact.Part.TheVariants as parts
use Rattle.facts.specs.Rows.{RowData}
use Rattle.row_text.specs.RowWritten.{HasPage, bytes_of, front_text, index_of, part_shown, row_shown, with_part, word_of}
use Rattle.transcript_text.specs.Transcript.{Fits32, Fits64, IsContents, IsNameShown, IsPage, IsRowShown, IsValShown, PartShown, RowShown, bar_line, part_index, part_text, row_text, val_text}
use Rattle.transcript_text.proofs.WrittenForm.{text_is_shown}

-- one byte before the lines of bytes that are not empty
onto_line : (b c : ℕ) (bytes : List ℕ) (lines : List (List ℕ)) → flat_map line lines ≡ c ∷ bytes
    → flat_map line (onto_first b lines) ≡ b ∷ c ∷ bytes
onto_line b c bytes [] is = absurd cc
onto_line b c bytes (first ∷ lines) is = ap (λ (rest : List ℕ). b ∷ rest) is

line_by : (b c : ℕ) (bytes : List ℕ) (feed : Bool) → (b == line_feed) ≡ feed
    → flat_map line (lines_of (c ∷ bytes)) ≡ c ∷ bytes
    → flat_map line (if feed then [] ∷ lines_of (c ∷ bytes) else onto_first b (lines_of (c ∷ bytes))) ≡ b ∷ c ∷ bytes
line_by b c bytes true e is = let same : b ≡ line_feed = eqb-true b line_feed e in cc
line_by b c bytes false e is = onto_line b c bytes (lines_of (c ∷ bytes)) is

last_by : (b : ℕ) (feed : Bool) → (b == line_feed) ≡ feed → feed ≡ true
    → flat_map line (if feed then [] ∷ [] else onto_first b []) ≡ b ∷ []
last_by b true e ended = let same : b ≡ line_feed = eqb-true b line_feed e in cc
last_by b false e ended = absurd cc

-- the lines of ended bytes, each with its end, are the bytes
pub lines_whole : (bytes : List ℕ) → ends_with_line bytes ≡ true → flat_map line (lines_of bytes) ≡ bytes
lines_whole [] ended = refl
lines_whole (b ∷ []) ended = last_by b (b == line_feed) refl ended
lines_whole (b ∷ c ∷ bytes) ended = line_by b c bytes (b == line_feed) refl (lines_whole (c ∷ bytes) ended)

-- What is shown of the part of a row

each_shown : (row : RowData) (P : RowShown → Type 0) (part : Option PartShown)
    → ((shown : PartShown) → part ≡ Some shown → P (with_part row shown))
    → IfSome (option_map (with_part row) part) P
each_shown row P None each = tt
each_shown row P (Some shown) each = each shown refl

shown_one : (one shown : PartShown) → Some one ≡ Some shown → one ≡ shown
shown_one one shown is = ap (λ (some : Option PartShown). unwrap_or some IsContents) is

-- its word and its index are those of the part
words_are : (part : Part) (shown : PartShown) → part_shown part ≡ Some shown
    → (part_text shown ≡ word_of part) × (part_index shown ≡ index_of part)
words_are parts.Plan shown is = absurd (none-some shown is)
words_are (parts.Page index) shown is =
    subst (λ (one : PartShown). (part_text one ≡ codes "page") × (part_index one ≡ index))
    (shown_one (IsPage index) shown is) (refl, refl)
words_are parts.Contents shown is =
    subst (λ (one : PartShown). (part_text one ≡ codes "contents") × (part_index one ≡ 0))
    (shown_one IsContents shown is) (refl, refl)

-- the texts that are appended are the text of the row
texts_join : (row serial space word map val index count end rest : List ℕ)
    → (([] ++ (row ++ serial ++ space ++ word ++ space ++ map ++ space ++ val ++ space))
    ++ ((index ++ space ++ count) ++ end)) ++ rest
    ≡ ((row ++ serial ++ space ++ word ++ space ++ map ++ space ++ val ++ space ++ index ++ space ++ count) ++ end) ++ rest
texts_join row serial space word map val index count end rest = simp append_assoc

pub row_written : (row : RowData) (first second third bytes : List ℕ) (count : ℕ)
    → first ≡ [] ++ front_text row.serial row.fact.key
    → second ≡ first ++ line (decimal (index_of row.fact.key.part) ++ codes " " ++ decimal count)
    → third ≡ second ++ flat_map bar_line (lines_of bytes) → count ≡ length (lines_of bytes) → bytes ≡ bytes_of row.fact
    → IfSome (row_shown row) (λ shown. third ≡ row_text shown)
row_written row first second third bytes count one two three counted same =
    each_shown row (λ shown. third ≡ row_text shown) (part_shown row.fact.key.part) (λ shown is.
    let words = words_are row.fact.key.part shown is in
    three
    ∙ ap (λ front. front ++ flat_map bar_line (lines_of bytes)) (two
    ∙ ap (λ front. front ++ line (decimal (index_of row.fact.key.part) ++ codes " " ++ decimal count)) one)
    ∙ texts_join (codes "row ") (decimal row.serial) (codes " ") (word_of row.fact.key.part) row.fact.key.map
    (val_text row.fact.key.val) (decimal (index_of row.fact.key.part)) (decimal count) (line_feed ∷ [])
    (flat_map bar_line (lines_of bytes))
    ∙ rw (words.0, words.1, ← same, ← counted) refl)

-- what is shown is in the form
pub row_formed : (row : RowData) (bytes : List ℕ) (count : ℕ) → Fits64 row.serial → IsNameShown row.fact.key.map
    → IsValShown row.fact.key.val → Fits32 (index_of row.fact.key.part) → count ≡ length (lines_of bytes)
    → Fits64 count → bytes ≡ bytes_of row.fact → is_utf8 (bytes_of row.fact) ≡ true
    → IfSome (row_shown row) IsRowShown
row_formed row bytes count serial map val index counted few same utf8 =
    each_shown row IsRowShown (part_shown row.fact.key.part) (λ shown is.
    let lines = text_is_shown (bytes_of row.fact) count utf8 (counted ∙ ap (λ all. length (lines_of all)) same) few in
    record {
      serial = serial;
      index = subst Fits32 (sym (words_are row.fact.key.part shown is).1) index;
      map = map;
      val = val;
      count = lines.0;
      lines = lines.1;
    })

-- and its lines are the page
pub row_whole : (row : RowData) → HasPage row.fact
    → IfSome (row_shown row) (λ shown. flat_map line shown.lines ≡ bytes_of row.fact)
row_whole row page = each_shown row (λ shown. flat_map line shown.lines ≡ bytes_of row.fact)
    (part_shown row.fact.key.part) (λ shown is. lines_whole (bytes_of row.fact) page.ended)
