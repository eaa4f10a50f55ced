-- What is shown is UTF-8: the words of replies, and the lines below entries.
use Rattle.std.specs.Prelude.{◌≡◌, ◌<◌, ◌^◌, ℕ, Bool, true, false, List, [], ◌∷◌, ◌++◌, Some, codes, length, nat_lt, MatchBool}
use Rattle.std.specs.Fmt.{decimal}
use Rattle.std.specs.Str.{IsUtf8}
use Rattle.std.proofs.Common.{refl, subst, sym, arith}
use Rattle.std.proofs.lemmas.Bool.{and_parts, ltb-true}
use Rattle.std.proofs.lemmas.Fmt.{IsAscii-decimal}
use Rattle.std.proofs.lemmas.Str.{IsUtf8-nil, IsUtf8-append, IsUtf8-from_ascii, IsUtf8-from_is_utf8}
use Rattle.dita_doc.specs.declared.plan.PlanStop.{PlanStop}
use Rattle.dita_doc.specs.declared.plan.PlanStop.TheVariants as stops
use Rattle.dita_doc.specs.Bytes.{space, spaced_parts}
use Rattle.dita_doc.specs.Desk.{stored_limit}
use Rattle.dita_doc.specs.Faults.{pyx_code_text, fault_code_text}
use Rattle.dita_doc.proofs.Utf8Laws.{utf8_cons}
use Rattle.fault_report.specs.FaultLine.{with_detail}
use Rattle.transcript_text.specs.Transcript.{RefusalShown, RefusedFor, ConflictAt, IsAbsent, IsFull, IsRefusalShown, refusal_words, Shown, StoredAt, RemovedAt, Refuses, GroupedAs, StoppedAt, Lines, Names, OfBuild, BuildShown, BuiltPages, StoppedBy, PagesTooLarge, IsBuildShown, IsShown, shown_words, built_words, stop_text, IsNameShown, PageMark, InOutlet, InRow, IsMark, mark_words}
use Rattle.transcript_text.specs.declared.below.Below.{Below}
use Rattle.transcript_text.specs.declared.below.Below.TheVariants as belows
use Rattle.transcript_text.specs.Below.{count_of, FitsAt, IsNameText, IsPageText, IsFaultText, below_of}
use Rattle.transcript_text.proofs.AliveLaws.{pads, pads_fit, pads_many}
use Rattle.transcript_text.proofs.CodeLaws.{is_low, fault_code_low, pyx_code_low}
use Rattle.transcript_text.proofs.HeadLaws.{small_from}
use Rattle.transcript_text.proofs.ShownLaws.{shown_of}

-- bytes of ASCII alone
low_utf8 : (text : List ℕ) → is_low text ≡ true → IsUtf8 text
low_utf8 [] e = IsUtf8-nil
low_utf8 (b ∷ text) e =
    let parts = and_parts (nat_lt b 128) (is_low text) e in
    utf8_cons b text (ltb-true _ _ parts.0) (low_utf8 text parts.1)

number_utf8 : (n : ℕ) → n < 2 ^ 64 → IsUtf8 (decimal n)
number_utf8 n small = IsUtf8-from_ascii (decimal n) (IsAscii-decimal n small)

-- words of ASCII, and a number
numbered_utf8 : (words : List ℕ) (n : ℕ) → is_low words ≡ true → n < 2 ^ 64 → IsUtf8 (words ++ decimal n)
numbered_utf8 words n low small = IsUtf8-append words (decimal n) (low_utf8 words low) (number_utf8 n small)

-- two parts with a space between them
spaced_utf8 : (x y : List ℕ) → IsUtf8 x → IsUtf8 y → IsUtf8 (x ++ space ∷ [] ++ y)
spaced_utf8 x y first second =
    IsUtf8-append (x ++ space ∷ []) y (IsUtf8-append x (space ∷ []) first (low_utf8 (space ∷ []) refl)) second

-- Replies

stop_low : (stop : PlanStop) → is_low (stop_text stop) ≡ true
stop_low stops.NoMap = refl
stop_low stops.NotMap = refl
stop_low stops.NoDitaval = refl
stop_low stops.TooManyNodes = refl
stop_low stops.TooManyPages = refl

build_utf8 : (built : BuildShown) → IsBuildShown built → IsUtf8 (built_words built)
build_utf8 (BuiltPages pages faults) valid =
    spaced_utf8 (codes "built " ++ decimal (length pages)) (decimal (length faults))
    (numbered_utf8 (codes "built ") (length pages) refl valid.0) (number_utf8 (length faults) valid.1)
build_utf8 (StoppedBy stop) valid = low_utf8 (stop_text stop) (stop_low stop)
build_utf8 (PagesTooLarge total) small = numbered_utf8 (codes "toolarge ") total refl small

refusal_utf8 : (refusal : RefusalShown) → IsRefusalShown refusal → IsUtf8 (refusal_words refusal)
refusal_utf8 (RefusedFor code number) less =
    spaced_utf8 (codes "refused " ++ pyx_code_text code) (decimal number)
    (IsUtf8-append (codes "refused ") (pyx_code_text code) (low_utf8 (codes "refused ") refl)
    (low_utf8 (pyx_code_text code) (pyx_code_low code))) (number_utf8 number (small_from number less))
refusal_utf8 (ConflictAt version) small = numbered_utf8 (codes "conflict ") version refl small
refusal_utf8 IsAbsent valid = low_utf8 (codes "absent") refl
refusal_utf8 IsFull valid = numbered_utf8 (codes "toomanynames ") stored_limit refl (omega arith)

words_utf8 : (shown : Shown) → IsShown shown → IsUtf8 (shown_words shown)
words_utf8 (StoredAt version) small = numbered_utf8 (codes "stored ") version refl small
words_utf8 (RemovedAt version) small = numbered_utf8 (codes "removed ") version refl small
words_utf8 (Refuses refusal) valid = refusal_utf8 refusal valid
words_utf8 (GroupedAs edits) less = numbered_utf8 (codes "grouped ") edits refl (small_from edits less)
words_utf8 (StoppedAt number refusal) valid =
    spaced_utf8 (codes "stopped " ++ decimal number) (refusal_words refusal)
    (numbered_utf8 (codes "stopped ") number refl (small_from number valid.0)) (refusal_utf8 refusal valid.1)
words_utf8 (Lines lines) valid = numbered_utf8 (codes "text ") (length lines) refl valid.0
words_utf8 (Names names) valid = numbered_utf8 (codes "names ") (length names) refl valid.0
words_utf8 (OfBuild built) valid = build_utf8 built valid

-- a reply that says what stands below is one that is shown with such lines, and so its words are UTF-8
pub reply_utf8 : (reply : List ℕ) (below : Below) → below_of (spaced_parts reply) ≡ Some below → IsUtf8 reply
reply_utf8 reply below said =
    let shown = shown_of reply below (pads below 0 (count_of below)) said (pads_fit below 0 (count_of below))
    (pads_many below 0 (count_of below)) in
    subst IsUtf8 shown.words (words_utf8 shown.shown shown.valid)

-- The lines below an entry

name_utf8 : (name : List ℕ) → IsNameShown name → IsUtf8 name
name_utf8 name is = IsUtf8-from_is_utf8 name is.utf8

name_text_utf8 : (text : List ℕ) → IsNameText text → IsUtf8 text
name_text_utf8 text is =
    subst IsUtf8 (sym is.2)
    (spaced_utf8 is.0.0 (decimal is.0.1) (name_utf8 is.0.0 is.1.name) (number_utf8 is.0.1 is.1.version))

mark_utf8 : (mark : PageMark) → IsMark mark → IsUtf8 (mark_words mark)
mark_utf8 (InOutlet n) small = numbered_utf8 (codes "bytes ") n refl small
mark_utf8 (InRow n) small = numbered_utf8 (codes "row ") n refl small

page_text_utf8 : (text : List ℕ) → IsPageText text → IsUtf8 text
page_text_utf8 text is =
    subst IsUtf8 (sym is.2)
    (spaced_utf8 (codes "page " ++ is.0.name) (mark_words is.0.mark)
    (IsUtf8-append (codes "page ") is.0.name (low_utf8 (codes "page ") refl) (name_utf8 is.0.name is.1.name))
    (mark_utf8 is.0.mark is.1.mark))

detail_utf8 : (detail : List ℕ) → IsUtf8 detail → IsUtf8 (with_detail detail)
detail_utf8 [] utf8 = IsUtf8-nil
detail_utf8 (b ∷ detail) utf8 = utf8_cons space (b ∷ detail) (omega arith) utf8

fault_text_utf8 : (text : List ℕ) → IsFaultText text → IsUtf8 text
fault_text_utf8 text is =
    let fault = is.0 in
    let valid = is.1 in
    let name = IsUtf8-append fault.name (codes ":") (name_utf8 fault.name valid.name) (low_utf8 (codes ":") refl) in
    let place = IsUtf8-append (fault.name ++ codes ":") (decimal fault.line) name
    (number_utf8 fault.line (small_from fault.line valid.line)) in
    let coded = spaced_utf8 (fault.name ++ codes ":" ++ decimal fault.line) (fault_code_text fault.code) place
    (low_utf8 (fault_code_text fault.code) (fault_code_low fault.code)) in
    subst IsUtf8 (sym is.2)
    (IsUtf8-append (fault.name ++ codes ":" ++ decimal fault.line ++ codes " " ++ fault_code_text fault.code)
    (with_detail fault.detail) coded
    (detail_utf8 fault.detail (IsUtf8-from_is_utf8 fault.detail valid.detail.utf8)))

built_text_utf8 : (test : Bool) (text : List ℕ) → MatchBool test (IsPageText text) (IsFaultText text) → IsUtf8 text
built_text_utf8 true text is = page_text_utf8 text is
built_text_utf8 false text is = fault_text_utf8 text is

-- what may stand on a line is UTF-8
pub fits_utf8 : (below : Below) (at : ℕ) (text : List ℕ) → FitsAt below at text → IsUtf8 text
fits_utf8 (belows.Texts count) at text is = IsUtf8-from_is_utf8 text is.utf8
fits_utf8 (belows.Names count) at text is = name_text_utf8 text is
fits_utf8 (belows.Built pages faults) at text is = built_text_utf8 (nat_lt at pages) text is
