-- A text is the text of one transcript at most.
use Rattle.std.specs.Prelude.{◌≡◌, ℕ, false, List, [], ◌∷◌, ◌++◌, Option, Some, None, codes, length, map, All, bytes_eq, if◌then◌else◌}
use Rattle.std.specs.List.{flat_map}
use Rattle.std.proofs.Common.{refl, sym, ap, subst, ◌∙◌, append_assoc}
use Rattle.std.proofs.lemmas.Bool.{and_parts, not-true}
use Rattle.std.proofs.lemmas.Fmt.{decimal_injective}
use Rattle.std.proofs.lemmas.List.{length-map}
use Rattle.std.proofs.lemmas.List.Elements.{All-head, All-tail}
use Rattle.dita_doc.specs.Lines.{lines_of}
use Rattle.transcript_text.specs.Transcript.{Fits64, IsNameShown, shown_words, shown_lines, EntryShown, IsEntryShown, entry_head, PartShown, IsPage, IsContents, part_text, part_index, val_text, IsValShown, RowShown, IsRowShown, row_head, Totals, end_head, IsTranscript, transcript_text}
use Rattle.transcript_text.specs.Transcript as shown
use Rattle.dita_doc.specs.Bytes.{spaced_parts}
use Rattle.transcript_text.specs.Below.{count_of}
use Rattle.transcript_text.specs.Heads.{IsEntryLine, IsRowLine, IsEndLine}
use Rattle.transcript_text.specs.Told.{bar, entry_lines, row_lines, transcript_lines}
use Rattle.transcript_text.proofs.FormLaws.{below_shown, shown_counted, entry_head_is}
use Rattle.transcript_text.proofs.HeadLaws.{small_from, entry_line_once, entry_no_row, entry_no_end, row_head_is, row_no_end, end_is}
use Rattle.transcript_laws.proofs.LineOnceLaws.{front_once}
use Rattle.transcript_text.proofs.OneLineLaws.{lines_of_text}
use Rattle.transcript_laws.proofs.ShownOnceLaws.{shown_once}
use Rattle.transcript_text.proofs.WordLaws.{words_same, one_peeled}

-- lines with a bar in front

bars_once : (x y : List (List ℕ)) → map bar x ≡ map bar y → x ≡ y
bars_once [] [] e = refl
bars_once [] (b ∷ y) e = absurd (cc)
bars_once (a ∷ x) [] e = absurd (cc)
bars_once (a ∷ x) (b ∷ y) e =
    let head : bar a ≡ bar b = cc in
    let first : a ≡ b = cc in
    let tail : map bar x ≡ map bar y = cc in
    let rest : x ≡ y = bars_once x y tail in
    cc

some_bars_once : (x y back other : List (List ℕ)) → length x ≡ length y → map bar x ++ back ≡ map bar y ++ other
    → (x ≡ y) × (back ≡ other)
some_bars_once x y back other many e =
    let parts = front_once (map bar x) (map bar y) back other (length-map x bar ∙ many ∙ sym (length-map y bar)) e in
    (bars_once x y parts.0, parts.1)

-- entries

entry_once : (a b : EntryShown) (back other : List (List ℕ)) → IsEntryShown a → IsEntryShown b
    → entry_head a ≡ entry_head b → map bar (shown_lines a.shown) ++ back ≡ map bar (shown_lines b.shown) ++ other
    → (a ≡ b) × (back ≡ other)
entry_once a b back other first second head lines =
    let is = entry_head_is a first in
    let too = subst (λ (l : List ℕ). IsEntryLine l b.place b.session b.number (shown_words b.shown)
    (below_shown b.shown)) (sym head) (entry_head_is b second) in
    let p1 = one_peeled _ _ _ _ _ is.words too.words in
    let p2 = one_peeled _ _ _ _ _ refl p1.1 in
    let p3 = one_peeled _ _ _ _ _ refl p2.1 in
    let p4 = one_peeled _ _ _ _ _ refl p3.1 in
    let place : a.place ≡ b.place = decimal_injective a.place b.place first.place second.place p2.0 in
    let session : a.session ≡ b.session =
    decimal_injective a.session b.session (small_from a.session first.session)
    (small_from b.session second.session) p3.0 in
    let number : a.number ≡ b.number =
    decimal_injective a.number b.number (small_from a.number first.number) (small_from b.number second.number) p4.0 in
    let words : shown_words a.shown ≡ shown_words b.shown =
    words_same (shown_words a.shown) (shown_words b.shown) p4.1 in
    let said : below_shown a.shown ≡ below_shown b.shown =
    entry_line_once (entry_head a) (shown_words a.shown)
    (shown_words b.shown) a.place a.session a.number b.place b.session b.number (below_shown a.shown)
    (below_shown b.shown) is too in
    let many : length (shown_lines a.shown) ≡ length (shown_lines b.shown) = shown_counted a.shown ∙ ap count_of said
    ∙ sym (shown_counted b.shown) in
    let parts = some_bars_once (shown_lines a.shown) (shown_lines b.shown) back other many lines in
    let same : a.shown ≡ b.shown = shown_once a.shown b.shown first.shown second.shown words parts.0 said in
    (rw (place, session, number, same) refl, parts.1)

-- rows

part_from : List ℕ → ℕ → PartShown
part_from word index = if bytes_eq word (codes "page") then IsPage index else IsContents

part_is : (part : PartShown) → part_from (part_text part) (part_index part) ≡ part
unfolding part_from
part_is (IsPage index) = refl
part_is IsContents = refl

val_from : List ℕ → Option (List ℕ)
val_from word = if bytes_eq word (codes "-") then None else Some word

val_is : (val : Option (List ℕ)) → IsValShown val → val_from (val_text val) ≡ val
unfolding val_from
val_is None named = refl
val_is (Some val) named =
    let other : bytes_eq val (codes "-") ≡ false = not-true _ (and_parts _ _ named.named).1 in rw other refl

row_once : (a b : RowShown) (back other : List (List ℕ)) → IsRowShown a → IsRowShown b → row_head a ≡ row_head b
    → map bar a.lines ++ back ≡ map bar b.lines ++ other → (a ≡ b) × (back ≡ other)
row_once a b back other first second head lines =
    let p1 = one_peeled _ _ _ _ _ (row_head_is a first).words (ap spaced_parts head ∙ (row_head_is b second).words) in
    let p2 = one_peeled _ _ _ _ _ refl p1.1 in
    let p3 = one_peeled _ _ _ _ _ refl p2.1 in
    let p4 = one_peeled _ _ _ _ _ refl p3.1 in
    let p5 = one_peeled _ _ _ _ _ refl p4.1 in
    let p6 = one_peeled _ _ _ _ _ refl p5.1 in
    let p7 = one_peeled _ _ _ _ _ refl p6.1 in
    let serial : a.serial ≡ b.serial = decimal_injective a.serial b.serial first.serial second.serial p2.0 in
    let index : part_index a.part ≡ part_index b.part =
    decimal_injective (part_index a.part) (part_index b.part) (small_from (part_index a.part) first.index)
    (small_from (part_index b.part) second.index) p6.0 in
    let part : a.part ≡ b.part = sym (part_is a.part) ∙ ap (λ word. part_from word (part_index a.part)) p3.0
    ∙ ap (part_from (part_text b.part)) index ∙ part_is b.part in
    let map_too : a.map ≡ b.map = p4.0 in
    let val : a.val ≡ b.val = sym (val_is a.val first.val) ∙ ap val_from p5.0 ∙ val_is b.val second.val in
    let many : length a.lines ≡ length b.lines =
    decimal_injective (length a.lines) (length b.lines) first.count second.count p7.0 in
    let parts = some_bars_once a.lines b.lines back other many lines in
    let below : a.lines ≡ b.lines = parts.0 in
    (rw (serial, part, map_too, val, below) refl, parts.1)

-- the end

record IsTotals (totals : Totals) : Type 0 where
  counted : Fits64 totals.entries
  made : Fits64 totals.made
  dropped : Fits64 totals.dropped

end_line : (totals : Totals) → IsTotals totals → IsEndLine (end_head totals) totals.entries totals.made totals.dropped
end_line totals is = end_is totals is.counted is.made is.dropped

end_once : (a b : Totals) → IsTotals a → IsTotals b → end_head a ≡ end_head b → a ≡ b
end_once a b first second head =
    let p1 = one_peeled _ _ _ _ _ (end_line a first).words (ap spaced_parts head ∙ (end_line b second).words) in
    let p2 = one_peeled _ _ _ _ _ refl p1.1 in
    let p3 = one_peeled _ _ _ _ _ refl p2.1 in
    let p4 = one_peeled _ _ _ _ _ refl p3.1 in
    let counted : a.entries ≡ b.entries = decimal_injective a.entries b.entries first.counted second.counted p2.0 in
    let made : a.made ≡ b.made = decimal_injective a.made b.made first.made second.made p3.0 in
    let dropped : a.dropped ≡ b.dropped = decimal_injective a.dropped b.dropped first.dropped second.dropped p4.0 in
    rw (counted, made, dropped) refl

-- the rows and the end

row_not_end : (a : RowShown) (totals : Totals) → IsRowShown a → IsTotals totals → row_head a ≡ end_head totals → ⊥
row_not_end a totals first second head =
    row_no_end (row_head a) a.map a.serial (length a.lines) totals.entries totals.made totals.dropped a.part a.val
    (row_head_is a first)
    (subst (λ (l : List ℕ). IsEndLine l totals.entries totals.made totals.dropped) (sym head) (end_line totals second))

rows_once : (a b : List RowShown) (s t : Totals) → All IsRowShown a → All IsRowShown b → IsTotals s → IsTotals t
    → flat_map row_lines a ++ end_head s ∷ [] ≡ flat_map row_lines b ++ end_head t ∷ [] → (a ≡ b) × (s ≡ t)
rows_once [] [] s t first second one two e =
    let head : end_head s ≡ end_head t = cc in (refl, end_once s t one two head)
rows_once [] (y ∷ b) s t first second one two e =
    let head : row_head y ≡ end_head s = cc in absurd (row_not_end y s (All-head IsRowShown y b second) one head)
rows_once (x ∷ a) [] s t first second one two e =
    let head : row_head x ≡ end_head t = cc in absurd (row_not_end x t (All-head IsRowShown x a first) two head)
rows_once (x ∷ a) (y ∷ b) s t first second one two e =
    let head : row_head x ≡ row_head y = cc in
    let tail : map bar x.lines ++ flat_map row_lines a ++ end_head s ∷ []
    ≡ map bar y.lines ++ flat_map row_lines b ++ end_head t ∷ [] = cc in
    let parts = row_once x y (flat_map row_lines a ++ end_head s ∷ []) (flat_map row_lines b ++ end_head t ∷ [])
    (All-head IsRowShown x a first) (All-head IsRowShown y b second) head
    (sym (append_assoc (map bar x.lines) (flat_map row_lines a) (end_head s ∷ [])) ∙ tail
    ∙ append_assoc (map bar y.lines) (flat_map row_lines b) (end_head t ∷ [])) in
    let rest = rows_once a b s t (All-tail IsRowShown x a first) (All-tail IsRowShown y b second) one two parts.1 in
    let same : x ≡ y = parts.0 in
    let others : a ≡ b = rest.0 in
    (cc, rest.1)

-- no entry begins as the rows and the end do
entry_not_row : (entry : EntryShown) (rows : List RowShown) (totals : Totals) (back : List (List ℕ))
    → IsEntryShown entry → All IsRowShown rows → IsTotals totals
    → entry_head entry ∷ back ≡ flat_map row_lines rows ++ end_head totals ∷ [] → ⊥
entry_not_row entry [] totals back is valid fits e =
    let head : entry_head entry ≡ end_head totals = cc in
    entry_no_end (entry_head entry)
    (shown_words entry.shown) entry.place entry.session entry.number totals.entries totals.made totals.dropped
    (below_shown entry.shown) (entry_head_is entry is)
    (subst (λ (l : List ℕ). IsEndLine l totals.entries totals.made totals.dropped) (sym head) (end_line totals fits))
entry_not_row entry (row ∷ rows) totals back is valid fits e =
    let head : entry_head entry ≡ row_head row = cc in
    entry_no_row (entry_head entry) (shown_words entry.shown) row.map entry.place entry.session entry.number row.serial
    (length row.lines) (below_shown entry.shown) row.part row.val (entry_head_is entry is)
    (subst (λ (l : List ℕ). IsRowLine l row.serial row.part row.map row.val (length row.lines)) (sym head)
    (row_head_is row (All-head IsRowShown row rows valid)))

-- the entries, the rows and the end

record IsRest (rows : List RowShown) (totals : Totals) (back : List (List ℕ)) : Type 0 where
  valid : All IsRowShown rows
  fits : IsTotals totals
  lines : back ≡ flat_map row_lines rows ++ end_head totals ∷ []

entries_once : (a b : List EntryShown) (r s : List RowShown) (t u : Totals) (back other : List (List ℕ))
    → All IsEntryShown a → All IsEntryShown b → IsRest r t back → IsRest s u other
    → flat_map entry_lines a ++ back ≡ flat_map entry_lines b ++ other → (a ≡ b) × (back ≡ other)
entries_once [] [] r s t u back other first second one two e = (refl, e)
entries_once [] (y ∷ b) r s t u back other first second one two e =
    absurd (entry_not_row y r t _ (All-head IsEntryShown y b second) one.valid one.fits (sym e ∙ one.lines))
entries_once (x ∷ a) [] r s t u back other first second one two e =
    absurd (entry_not_row x s u _ (All-head IsEntryShown x a first) two.valid two.fits (e ∙ two.lines))
entries_once (x ∷ a) (y ∷ b) r s t u back other first second one two e =
    let head : entry_head x ≡ entry_head y = cc in
    let tail : map bar (shown_lines x.shown) ++ flat_map entry_lines a ++ back ≡ map bar
    (shown_lines y.shown) ++ flat_map entry_lines b ++ other = cc in
    let parts = entry_once x y (flat_map entry_lines a ++ back) (flat_map entry_lines b ++ other)
    (All-head IsEntryShown x a first) (All-head IsEntryShown y b second) head
    (sym (append_assoc (map bar (shown_lines x.shown)) (flat_map entry_lines a) back) ∙ tail
    ∙ append_assoc (map bar (shown_lines y.shown)) (flat_map entry_lines b) other) in
    let rest = entries_once a b r s t u back other (All-tail IsEntryShown x a first)
    (All-tail IsEntryShown y b second) one two parts.1 in
    let same : x ≡ y = parts.0 in
    let others : a ≡ b = rest.0 in
    (cc, rest.1)

totals_fit : (s : shown.Transcript) → IsTranscript s → IsTotals s.totals
totals_fit s is = record { counted = is.counted; made = is.made; dropped = is.dropped }

pub one_transcript : (s other : shown.Transcript) → IsTranscript s → IsTranscript other
    → transcript_text s ≡ transcript_text other → s ≡ other
one_transcript s other first second e =
    let lines : transcript_lines s ≡ transcript_lines other = sym (lines_of_text s first) ∙ ap lines_of e
    ∙ lines_of_text other second in
    let tail : flat_map entry_lines s.entries ++ (flat_map row_lines s.rows ++ end_head s.totals ∷ [])
    ≡ flat_map entry_lines other.entries ++ (flat_map row_lines other.rows ++ end_head other.totals ∷ []) = cc in
    let one : IsRest s.rows s.totals (flat_map row_lines s.rows ++ end_head s.totals ∷ []) =
    record { valid = first.rows; fits = totals_fit s first; lines = refl } in
    let two : IsRest other.rows other.totals (flat_map row_lines other.rows ++ end_head other.totals ∷ []) =
    record { valid = second.rows; fits = totals_fit other second; lines = refl } in
    let parts = entries_once s.entries other.entries s.rows other.rows s.totals other.totals _ _ first.entries
    second.entries one two tail in
    let rest = rows_once s.rows other.rows s.totals other.totals first.rows second.rows (totals_fit s first)
    (totals_fit other second) parts.1 in
    let entries : s.entries ≡ other.entries = parts.0 in
    let rows : s.rows ≡ other.rows = rest.0 in
    let totals : s.totals ≡ other.totals = rest.1 in
    rw (entries, rows, totals) refl
