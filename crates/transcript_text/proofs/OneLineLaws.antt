-- No line of a transcript has an LF, and its text is its lines.
use Rattle.std.specs.Prelude.{◌≡◌, ◌<◌, ◌^◌, ℕ, List, [], ◌∷◌, ◌++◌, Option, Some, None, codes, length, map, All}
use Rattle.std.specs.Fmt.{decimal}
use Rattle.std.specs.List.{flat_map}
use Rattle.std.proofs.Common.{refl, sym, ap, ◌∙◌, arith, append_assoc, append-nil}
use Rattle.std.proofs.lemmas.Grind.{flat_map-append}
use Rattle.std.proofs.lemmas.List.Elements.{All-nil, All-cons, All-head, All-tail, All-append, All-map, All-weaker}
use Rattle.dita_doc.specs.Cut.{Lacks}
use Rattle.dita_doc.specs.Lines.{lines_of, line, IsLineText}
use Rattle.dita_doc.specs.declared.plan.PlanStop.{PlanStop}
use Rattle.dita_doc.specs.declared.plan.PlanStop.TheVariants as stops
use Rattle.dita_doc.specs.Faults.{pyx_code_text, fault_code_text}
use Rattle.fault_report.specs.FaultLine.{with_detail}
use Rattle.transcript_text.specs.Transcript.{RefusalShown, RefusedFor, ConflictAt, IsAbsent, IsFull, IsRefusalShown, refusal_words, Shown, StoredAt, RemovedAt, Refuses, GroupedAs, StoppedAt, Lines, Names, OfBuild, BuildShown, BuiltPages, StoppedBy, PagesTooLarge, IsBuildShown, IsShown, shown_words, shown_lines, built_words, built_lines, stop_text, IsNameShown, IsNameLine, name_line, PageMark, InOutlet, InRow, IsMark, mark_words, PageShown, IsPageShown, page_line, FaultShown, IsFaultShown, fault_line, EntryShown, IsEntryShown, entry_head, entry_text, PartShown, IsPage, IsContents, part_text, part_index, val_text, IsValShown, RowShown, IsRowShown, row_head, row_text, bar_line, Totals, end_head, IsTranscript, transcript_text}
use Rattle.transcript_text.specs.Transcript as shown
use Rattle.dita_doc.proofs.LinesLaws.{lines_after}
use Rattle.transcript_text.specs.Told.{bar, first_line, entry_lines, row_lines, transcript_lines}
use Rattle.transcript_text.proofs.CodeLaws.{pyx_code_lacks, fault_code_lacks}
use Rattle.transcript_text.proofs.HeadLaws.{small_from}
use Rattle.dita_doc.proofs.LackLaws.{lacks_append, lacks_decimal, lacks_name}
use Rattle.dita_doc.proofs.Lists.{joined_four}

number_one : (n : ℕ) → n < 2 ^ 64 → Lacks 10 (decimal n)
number_one n small = lacks_decimal 10 n (λ range. omega (arith, range.0)) small

name_one : (name : List ℕ) → IsNameShown name → Lacks 10 name
name_one name is = lacks_name 10 name (omega arith) is.named

-- two parts with a space between them
spaced_one : (x y : List ℕ) → Lacks 10 x → Lacks 10 y → Lacks 10 (x ++ 32 ∷ [] ++ y)
spaced_one x y first second = lacks_append 10 (x ++ 32 ∷ []) y (lacks_append 10 x (32 ∷ []) first refl) second

stop_one : (stop : PlanStop) → Lacks 10 (stop_text stop)
stop_one stops.NoMap = refl
stop_one stops.NotMap = refl
stop_one stops.NoDitaval = refl
stop_one stops.TooManyNodes = refl
stop_one stops.TooManyPages = refl

build_words_one_line : (built : BuildShown) → IsBuildShown built → Lacks 10 (built_words built)
build_words_one_line (BuiltPages pages faults) valid =
    spaced_one (codes "built " ++ decimal (length pages)) (decimal (length faults))
    (lacks_append 10 (codes "built ") (decimal (length pages)) refl (number_one (length pages) valid.0))
    (number_one (length faults) valid.1)
build_words_one_line (StoppedBy stop) valid = stop_one stop
build_words_one_line (PagesTooLarge total) small =
    lacks_append 10 (codes "toolarge ") (decimal total) refl (number_one total small)

refusal_one_line : (refusal : RefusalShown) → IsRefusalShown refusal → Lacks 10 (refusal_words refusal)
refusal_one_line (RefusedFor code number) less =
    spaced_one (codes "refused " ++ pyx_code_text code) (decimal number)
    (lacks_append 10 (codes "refused ") (pyx_code_text code) refl (pyx_code_lacks 10 code (omega arith)))
    (number_one number (small_from number less))
refusal_one_line (ConflictAt version) small =
    lacks_append 10 (codes "conflict ") (decimal version) refl (number_one version small)
refusal_one_line IsAbsent valid = refl
refusal_one_line IsFull valid =
    lacks_append 10 (codes "toomanynames ") (decimal 10000) refl (number_one 10000 (omega arith))

pub words_one_line : (shown : Shown) → IsShown shown → Lacks 10 (shown_words shown)
words_one_line (StoredAt version) small =
    lacks_append 10 (codes "stored ") (decimal version) refl (number_one version small)
words_one_line (RemovedAt version) small =
    lacks_append 10 (codes "removed ") (decimal version) refl (number_one version small)
words_one_line (Refuses refusal) valid = refusal_one_line refusal valid
words_one_line (GroupedAs edits) less =
    lacks_append 10 (codes "grouped ") (decimal edits) refl (number_one edits (small_from edits less))
words_one_line (StoppedAt number refusal) valid =
    spaced_one (codes "stopped " ++ decimal number) (refusal_words refusal)
    (lacks_append 10 (codes "stopped ") (decimal number) refl (number_one number (small_from number valid.0)))
    (refusal_one_line refusal valid.1)
words_one_line (Lines lines) valid =
    lacks_append 10 (codes "text ") (decimal (length lines)) refl (number_one (length lines) valid.0)
words_one_line (Names names) valid =
    lacks_append 10 (codes "names ") (decimal (length names)) refl (number_one (length names) valid.0)
words_one_line (OfBuild built) valid = build_words_one_line built valid

mark_one : (mark : PageMark) → IsMark mark → Lacks 10 (mark_words mark)
mark_one (InOutlet n) small = lacks_append 10 (codes "bytes ") (decimal n) refl (number_one n small)
mark_one (InRow n) small = lacks_append 10 (codes "row ") (decimal n) refl (number_one n small)

name_line_one : (named : List ℕ × ℕ) → IsNameLine named → Lacks 10 (name_line named)
name_line_one named is = spaced_one named.0 (decimal named.1) (name_one named.0 is.name) (number_one named.1 is.version)

page_line_one : (page : PageShown) → IsPageShown page → Lacks 10 (page_line page)
page_line_one page is =
    spaced_one (codes "page " ++ page.name) (mark_words page.mark)
    (lacks_append 10 (codes "page ") page.name refl (name_one page.name is.name)) (mark_one page.mark is.mark)

detail_one : (detail : List ℕ) → Lacks 10 detail → Lacks 10 (with_detail detail)
detail_one [] lacks = refl
detail_one (b ∷ detail) lacks = lacks

fault_line_one : (fault : FaultShown) → IsFaultShown fault → Lacks 10 (fault_line fault)
fault_line_one fault is =
    let place = lacks_append 10 (fault.name ++ codes ":") (decimal fault.line)
    (lacks_append 10 fault.name (codes ":") (name_one fault.name is.name) refl)
    (number_one fault.line (small_from fault.line is.line)) in
    lacks_append 10 (fault.name ++ codes ":" ++ decimal fault.line ++ codes " " ++ fault_code_text fault.code)
    (with_detail fault.detail)
    (spaced_one (fault.name ++ codes ":" ++ decimal fault.line) (fault_code_text fault.code) place
    (fault_code_lacks 10 fault.code (omega arith))) (detail_one fault.detail is.detail.one)

build_lines_one_line : (built : BuildShown) → IsBuildShown built → All (Lacks 10) (built_lines built)
build_lines_one_line (BuiltPages pages faults) valid =
    All-append (Lacks 10) (map page_line pages) (map fault_line faults)
    (All-map (Lacks 10) page_line pages
    (All-weaker IsPageShown (λ page. Lacks 10 (page_line page)) page_line_one pages valid.2))
    (All-map (Lacks 10) fault_line faults
    (All-weaker IsFaultShown (λ fault. Lacks 10 (fault_line fault)) fault_line_one faults valid.3))
build_lines_one_line (StoppedBy stop) valid = All-nil (Lacks 10)
build_lines_one_line (PagesTooLarge total) valid = All-nil (Lacks 10)

pub lines_one_line : (shown : Shown) → IsShown shown → All (Lacks 10) (shown_lines shown)
lines_one_line (StoredAt version) valid = All-nil (Lacks 10)
lines_one_line (RemovedAt version) valid = All-nil (Lacks 10)
lines_one_line (Refuses refusal) valid = All-nil (Lacks 10)
lines_one_line (GroupedAs edits) valid = All-nil (Lacks 10)
lines_one_line (StoppedAt number refusal) valid = All-nil (Lacks 10)
lines_one_line (Lines lines) valid = All-weaker IsLineText (Lacks 10) (λ text is. is.one) lines valid.1
lines_one_line (Names names) valid =
    All-map (Lacks 10) name_line names
    (All-weaker IsNameLine (λ named. Lacks 10 (name_line named)) name_line_one names valid.1)
lines_one_line (OfBuild built) valid = build_lines_one_line built valid

bars_one : (lines : List (List ℕ)) → All (Lacks 10) lines → All (Lacks 10) (map bar lines)
bars_one lines all = All-map (Lacks 10) bar lines all

pub entry_lines_one : (entry : EntryShown) → IsEntryShown entry → All (Lacks 10) (entry_lines entry)
entry_lines_one entry is =
    let first = lacks_append 10 (codes "entry ") (decimal entry.place) refl (number_one entry.place is.place) in
    let second = spaced_one (codes "entry " ++ decimal entry.place) (decimal entry.session) first
    (number_one entry.session (small_from entry.session is.session)) in
    let third = spaced_one (codes "entry " ++ decimal entry.place ++ codes " " ++ decimal entry.session)
    (decimal entry.number) second (number_one entry.number (small_from entry.number is.number)) in
    All-cons (Lacks 10) (entry_head entry) (map bar (shown_lines entry.shown))
    (spaced_one (codes "entry " ++ decimal entry.place ++ codes " " ++ decimal entry.session ++ codes " "
    ++ decimal entry.number) (shown_words entry.shown) third (words_one_line entry.shown is.shown))
    (bars_one (shown_lines entry.shown) (lines_one_line entry.shown is.shown))

part_one : (part : PartShown) → Lacks 10 (part_text part)
part_one (IsPage index) = refl
part_one IsContents = refl

val_one : (val : Option (List ℕ)) → IsValShown val → Lacks 10 (val_text val)
val_one None named = refl
val_one (Some val) named = name_one val named

pub row_lines_one : (row : RowShown) → IsRowShown row → All (Lacks 10) (row_lines row)
row_lines_one row is =
    let x1 = codes "row " ++ decimal row.serial in
    let x2 = x1 ++ codes " " ++ part_text row.part in
    let x3 = x2 ++ codes " " ++ row.map in
    let x4 = x3 ++ codes " " ++ val_text row.val in
    let x5 = x4 ++ codes " " ++ decimal (part_index row.part) in
    let l1 = lacks_append 10 (codes "row ") (decimal row.serial) refl (number_one row.serial is.serial) in
    let l2 = spaced_one x1 (part_text row.part) l1 (part_one row.part) in
    let l3 = spaced_one x2 row.map l2 (name_one row.map is.map) in
    let l4 = spaced_one x3 (val_text row.val) l3 (val_one row.val is.val) in
    let l5 = spaced_one x4 (decimal (part_index row.part)) l4
    (number_one (part_index row.part) (small_from (part_index row.part) is.index)) in
    All-cons (Lacks 10) (row_head row) (map bar row.lines)
    (spaced_one x5 (decimal (length row.lines)) l5 (number_one (length row.lines) is.count))
    (bars_one row.lines (All-weaker IsLineText (Lacks 10) (λ text fits. fits.one) row.lines is.lines))

pub end_line_one : (totals : Totals) → totals.entries < 2 ^ 64 → totals.made < 2 ^ 64 → totals.dropped < 2 ^ 64
    → Lacks 10 (end_head totals)
end_line_one totals first second third =
    spaced_one (codes "end " ++ decimal totals.entries ++ codes " " ++ decimal totals.made) (decimal totals.dropped)
    (spaced_one (codes "end " ++ decimal totals.entries) (decimal totals.made)
    (lacks_append 10 (codes "end ") (decimal totals.entries) refl (number_one totals.entries first))
    (number_one totals.made second))
    (number_one totals.dropped third)

-- lines of each of some things
each_one : {X : Type 0} (f : X → List (List ℕ)) (P : X → Type 0) → ((x : X) → P x → All (Lacks 10) (f x))
    → (xs : List X) → All P xs → All (Lacks 10) (flat_map f xs)
each_one f P each [] all = All-nil (Lacks 10)
each_one f P each (x ∷ xs) all =
    All-append (Lacks 10) (f x) (flat_map f xs) (each x (All-head P x xs all))
    (each_one f P each xs (All-tail P x xs all))

pub transcript_lines_one : (s : shown.Transcript) → IsTranscript s → All (Lacks 10) (transcript_lines s)
transcript_lines_one s is =
    All-cons (Lacks 10) first_line _ refl
    (All-append (Lacks 10) (flat_map entry_lines s.entries) (flat_map row_lines s.rows ++ end_head s.totals ∷ [])
    (each_one entry_lines IsEntryShown entry_lines_one s.entries is.entries)
    (All-append (Lacks 10) (flat_map row_lines s.rows) (end_head s.totals ∷ [])
    (each_one row_lines IsRowShown row_lines_one s.rows is.rows)
    (All-cons (Lacks 10) (end_head s.totals) [] (end_line_one s.totals is.counted is.made is.dropped)
    (All-nil (Lacks 10)))))

-- The text

bars_text : (lines : List (List ℕ)) → flat_map line (map bar lines) ≡ flat_map bar_line lines
bars_text [] = refl
bars_text (text ∷ lines) = ap (λ (l : List ℕ). bar_line text ++ l) (bars_text lines)

each_text : {X : Type 0} (f : X → List (List ℕ)) (g : X → List ℕ) → ((x : X) → flat_map line (f x) ≡ g x)
    → (xs : List X) → flat_map line (flat_map f xs) ≡ flat_map g xs
each_text f g each [] = refl
each_text f g each (x ∷ xs) =
    flat_map-append line (f x) (flat_map f xs) ∙ ap (λ (l : List ℕ). l ++ flat_map line (flat_map f xs)) (each x)
    ∙ ap (λ (l : List ℕ). g x ++ l) (each_text f g each xs)

entry_is : (entry : EntryShown) → flat_map line (entry_lines entry) ≡ entry_text entry
entry_is entry = ap (λ (l : List ℕ). line (entry_head entry) ++ l) (bars_text (shown_lines entry.shown))

row_is : (row : RowShown) → flat_map line (row_lines row) ≡ row_text row
row_is row = ap (λ (l : List ℕ). line (row_head row) ++ l) (bars_text row.lines)

pub transcript_is : (s : shown.Transcript) → transcript_text s ≡ flat_map line (transcript_lines s)
transcript_is s =
    let entries = flat_map entry_lines s.entries in
    let rows = flat_map row_lines s.rows in
    let last = end_head s.totals ∷ [] in
    let rest : flat_map line (entries ++ (rows ++ last)) ≡ flat_map entry_text s.entries ++
    (flat_map row_text s.rows ++ line (end_head s.totals)) =
    flat_map-append line entries (rows ++ last)
    ∙ ap (λ (l : List ℕ). l ++ flat_map line (rows ++ last)) (each_text entry_lines entry_text entry_is s.entries)
    ∙ ap (λ (l : List ℕ). flat_map entry_text s.entries ++ l)
    (flat_map-append line rows last
    ∙ ap (λ (l : List ℕ). l ++ flat_map line last) (each_text row_lines row_text row_is s.rows)
    ∙ ap (λ (l : List ℕ). flat_map row_text s.rows ++ l) (append-nil (line (end_head s.totals)))) in
    joined_four (line first_line) (flat_map entry_text s.entries) (flat_map row_text s.rows) (line (end_head s.totals))
    ∙ ap (λ (l : List ℕ). line first_line ++ l) (sym rest)

-- bytes that begin with lines
pub one_more : (text lines rest : List ℕ) → line text ++ lines ++ rest ≡ text ++ 10 ∷ (lines ++ rest)
one_more text lines rest = simp append_assoc

pub lines_of_lines : (lines : List (List ℕ)) (rest : List ℕ) → All (Lacks 10) lines
    → lines_of (flat_map line lines ++ rest) ≡ lines ++ lines_of rest
lines_of_lines [] rest all = refl
lines_of_lines (text ∷ lines) rest all =
    ap lines_of (one_more text (flat_map line lines) rest)
    ∙ lines_after text (flat_map line lines ++ rest) (All-head (Lacks 10) text lines all)
    ∙ ap (λ (ls : List (List ℕ)). text ∷ ls) (lines_of_lines lines rest (All-tail (Lacks 10) text lines all))

-- the lines of a text are those of the transcript
pub lines_of_text : (s : shown.Transcript) → IsTranscript s → lines_of (transcript_text s) ≡ transcript_lines s
lines_of_text s is =
    ap lines_of (transcript_is s ∙ sym (append-nil (flat_map line (transcript_lines s))))
    ∙ lines_of_lines (transcript_lines s) [] (transcript_lines_one s is) ∙ append-nil (transcript_lines s)

pub lines_begin : (s : shown.Transcript) (lines : List (List ℕ)) (rest : List ℕ) → IsTranscript s → All (Lacks 10) lines
    → transcript_text s ≡ flat_map line lines ++ rest → transcript_lines s ≡ lines ++ lines_of rest
lines_begin s lines rest is all same = sym (lines_of_text s is) ∙ ap lines_of same ∙ lines_of_lines lines rest all
