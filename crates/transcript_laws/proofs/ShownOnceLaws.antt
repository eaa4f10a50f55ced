-- A reply with its lines shows one thing: it is built again from its words and its lines.
use Rattle.std.specs.Prelude.{◌≡◌, ◌<◌, ◌^◌, ℕ, List, [], ◌∷◌, ◌++◌, codes, length, map, drop, All, bytes_eq, if◌then◌else◌, unwrap_or}
use Rattle.std.specs.Fmt.{decimal}
use Rattle.std.specs.Str.Parse.{digits_value}
use Rattle.std.proofs.Common.{refl, sym, ap, ◌∙◌}
use Rattle.std.proofs.lemmas.Fmt.{digits_value-decimal}
use Rattle.std.proofs.lemmas.List.{length-map}
use Rattle.dita_doc.specs.declared.fault.PyxCode.{PyxCode}
use Rattle.dita_doc.specs.declared.fault.PyxCode.TheVariants as pyx
use Rattle.dita_doc.specs.declared.plan.PlanStop.{PlanStop}
use Rattle.dita_doc.specs.declared.plan.PlanStop.TheVariants as stops
use Rattle.transcript_text.specs.Transcript.{RefusalShown, RefusedFor, ConflictAt, IsAbsent, IsFull, IsRefusalShown, Shown, StoredAt, RemovedAt, Refuses, GroupedAs, StoppedAt, Lines, Names, OfBuild, BuildShown, BuiltPages, StoppedBy, PagesTooLarge, IsBuildShown, IsShown, shown_words, shown_lines, built_words, built_lines, stop_text, IsNameLine, name_line, PageShown, IsPageShown, page_line, FaultShown, IsFaultShown, fault_line}
use Rattle.transcript_text.specs.declared.below.Below.{Below}
use Rattle.transcript_text.specs.declared.below.Below.TheVariants as belows
use Rattle.dita_doc.specs.Bytes.{spaced_parts}
use Rattle.transcript_text.proofs.FormLaws.{below_built, below_shown}
use Rattle.transcript_text.proofs.HeadLaws.{small_from}
use Rattle.transcript_laws.proofs.LineOnceLaws.{map_once, front_once, name_line_once, page_line_once, fault_line_once, pyx_code_from, pyx_code_is}
use Rattle.transcript_text.proofs.NumberLaws.{own}
use Rattle.transcript_text.proofs.RefusalLaws.{words_of_refusal, refusal_parts, stopped_parts}
use Rattle.transcript_text.proofs.TextLaws.{decimal_word}

-- the lists that some lines show
data Lists : Type 0 where
  NoLists : Lists
  NameLists : (names : List (List ℕ × ℕ)) → Lists
  BuildLists : (pages : List PageShown) (faults : List FaultShown) → Lists

lists_of_built : BuildShown → Lists
lists_of_built (BuiltPages pages faults) = BuildLists pages faults
lists_of_built (StoppedBy stop) = NoLists
lists_of_built (PagesTooLarge total) = NoLists

lists_of : Shown → Lists
lists_of (StoredAt version) = NoLists
lists_of (RemovedAt version) = NoLists
lists_of (Refuses refusal) = NoLists
lists_of (GroupedAs edits) = NoLists
lists_of (StoppedAt number refusal) = NoLists
lists_of (Lines lines) = NoLists
lists_of (Names names) = NameLists names
lists_of (OfBuild built) = lists_of_built built

-- lists with their lines, and what stands below
abbrev HasLists : List (List ℕ) → Below → Lists → Type 0
HasLists lines below NoLists = (count : ℕ) × (below ≡ belows.Texts count)
HasLists lines below (NameLists names) =
    All IsNameLine names × (lines ≡ map name_line names) × (below ≡ belows.Names (length names))
HasLists lines below (BuildLists pages faults) =
    All IsPageShown pages × All IsFaultShown faults × (lines ≡ map page_line pages ++ map fault_line faults)
    × (below ≡ belows.Built (length pages) (length faults))

built_has_lists : (built : BuildShown) → IsBuildShown built
    → HasLists (built_lines built) (below_built built) (lists_of_built built)
unfolding lists_of_built
built_has_lists (BuiltPages pages faults) valid = (valid.2, valid.3, refl, refl)
built_has_lists (StoppedBy stop) valid = (0, refl)
built_has_lists (PagesTooLarge total) valid = (0, refl)

has_lists : (shown : Shown) → IsShown shown → HasLists (shown_lines shown) (below_shown shown) (lists_of shown)
unfolding lists_of
has_lists (StoredAt version) valid = (0, refl)
has_lists (RemovedAt version) valid = (0, refl)
has_lists (Refuses refusal) valid = (0, refl)
has_lists (GroupedAs edits) valid = (0, refl)
has_lists (StoppedAt number refusal) valid = (0, refl)
has_lists (Lines lines) valid = (length lines, refl)
has_lists (Names names) valid = (valid.1, refl, refl)
has_lists (OfBuild built) valid = built_has_lists built valid

other_below : {a b : Lists} (x y : Below) → (x ≡ y → ⊥) → x ≡ y → a ≡ b
other_below x y other same = absurd (other same)

-- the same lines show the same lists
lists_once : (lines more : List (List ℕ)) (below less : Below) (a b : Lists) → HasLists lines below a
    → HasLists more less b → lines ≡ more → below ≡ less → a ≡ b
lists_once lines more below less NoLists NoLists has also e said = refl
lists_once lines more below less NoLists (NameLists names) has also e said =
    other_below (belows.Texts has.0) (belows.Names (length names)) (λ is. cc) (sym has.1 ∙ said ∙ also.2)
lists_once lines more below less NoLists (BuildLists pages faults) has also e said =
    other_below (belows.Texts has.0) (belows.Built (length pages) (length faults)) (λ is. cc)
    (sym has.1 ∙ said ∙ also.3)
lists_once lines more below less (NameLists names) NoLists has also e said =
    other_below (belows.Names (length names)) (belows.Texts also.0) (λ is. cc) (sym has.2 ∙ said ∙ also.1)
lists_once lines more below less (NameLists names) (NameLists others) has also e said =
    ap NameLists (map_once name_line IsNameLine name_line_once names others has.0 also.0 (sym has.1 ∙ e ∙ also.1))
lists_once lines more below less (NameLists names) (BuildLists pages faults) has also e said =
    other_below (belows.Names (length names)) (belows.Built (length pages) (length faults)) (λ is. cc)
    (sym has.2 ∙ said ∙ also.3)
lists_once lines more below less (BuildLists pages faults) NoLists has also e said =
    other_below (belows.Built (length pages) (length faults)) (belows.Texts also.0) (λ is. cc)
    (sym has.3 ∙ said ∙ also.1)
lists_once lines more below less (BuildLists pages faults) (NameLists names) has also e said =
    other_below (belows.Built (length pages) (length faults)) (belows.Names (length names)) (λ is. cc)
    (sym has.3 ∙ said ∙ also.2)
lists_once lines more below less (BuildLists pages faults) (BuildLists others ills) has also e said =
    let built : belows.Built (length pages) (length faults) ≡ belows.Built (length others) (length ills) = sym has.3
    ∙ said ∙ also.3 in
    let many : length pages ≡ length others = cc in
    let counted : length (map page_line pages) ≡ length (map page_line others) = length-map pages page_line ∙ many
    ∙ sym (length-map others page_line) in
    let parts = front_once (map page_line pages) (map page_line others) (map fault_line faults)
    (map fault_line ills) counted (sym has.2 ∙ e ∙ also.2) in
    let same_pages : pages ≡ others = map_once page_line IsPageShown page_line_once pages others has.0 also.0 parts.0 in
    let same_faults : faults ≡ ills =
    map_once fault_line IsFaultShown fault_line_once faults ills has.1 also.1 parts.1 in
    cc

-- what is shown, from the words of the reply, the lists and the lines

value_of : List (List ℕ) → ℕ
value_of [] = 0
value_of (word ∷ words) = digits_value 10 word

second_value : List (List ℕ) → ℕ
second_value [] = 0
second_value (word ∷ words) = value_of words

code_of : List (List ℕ) → PyxCode
code_of [] = pyx.BadLine
code_of (word ∷ words) = unwrap_or (pyx_code_from word) pyx.BadLine

names_in : Lists → List (List ℕ × ℕ)
names_in NoLists = []
names_in (NameLists names) = names
names_in (BuildLists pages faults) = []

pages_in : Lists → List PageShown
pages_in NoLists = []
pages_in (NameLists names) = []
pages_in (BuildLists pages faults) = pages

faults_in : Lists → List FaultShown
faults_in NoLists = []
faults_in (NameLists names) = []
faults_in (BuildLists pages faults) = faults

refusal_by : List ℕ → List (List ℕ) → RefusalShown
refusal_by word words =
    if bytes_eq word (codes "conflict") then ConflictAt (value_of words)
    else if bytes_eq word (codes "absent") then IsAbsent
    else if bytes_eq word (codes "toomanynames") then IsFull
    else RefusedFor (code_of words) (second_value words)

refusal_from : List (List ℕ) → RefusalShown
refusal_from [] = IsAbsent
refusal_from (word ∷ words) = refusal_by word words

again_by : List ℕ → List (List ℕ) → Lists → List (List ℕ) → Shown
again_by word words lists lines =
    if bytes_eq word (codes "stored") then StoredAt (value_of words)
    else if bytes_eq word (codes "removed") then RemovedAt (value_of words)
    else if bytes_eq word (codes "grouped") then GroupedAs (value_of words)
    else if bytes_eq word (codes "stopped") then StoppedAt (value_of words) (refusal_from (drop 1 words))
    else if bytes_eq word (codes "text") then Lines lines
    else if bytes_eq word (codes "names") then Names (names_in lists)
    else if bytes_eq word (codes "built") then OfBuild (BuiltPages (pages_in lists) (faults_in lists))
    else if bytes_eq word (codes "nomap") then OfBuild (StoppedBy stops.NoMap)
    else if bytes_eq word (codes "notmap") then OfBuild (StoppedBy stops.NotMap)
    else if bytes_eq word (codes "noditaval") then OfBuild (StoppedBy stops.NoDitaval)
    else if bytes_eq word (codes "toomanynodes") then OfBuild (StoppedBy stops.TooManyNodes)
    else if bytes_eq word (codes "toomanypages") then OfBuild (StoppedBy stops.TooManyPages)
    else if bytes_eq word (codes "toolarge") then OfBuild (PagesTooLarge (value_of words))
    else Refuses (refusal_by word words)

again : List (List ℕ) → Lists → List (List ℕ) → Shown
again [] lists lines = Refuses IsAbsent
again (word ∷ words) lists lines = again_by word words lists lines

value_is : (n : ℕ) → n < 2 ^ 64 → value_of (spaced_parts (decimal n)) ≡ n
unfolding value_of
value_is n small = ap value_of (decimal_word n small) ∙ digits_value-decimal own n small

again_stop : (stop : PlanStop) (lists : Lists) (lines : List (List ℕ))
    → again (spaced_parts (stop_text stop)) lists lines ≡ OfBuild (StoppedBy stop)
unfolding again again_by
again_stop stops.NoMap lists lines = refl
again_stop stops.NotMap lists lines = refl
again_stop stops.NoDitaval lists lines = refl
again_stop stops.TooManyNodes lists lines = refl
again_stop stops.TooManyPages lists lines = refl

refusal_again : (refusal : RefusalShown) → IsRefusalShown refusal
    → refusal_from (words_of_refusal refusal) ≡ refusal
unfolding refusal_from refusal_by code_of second_value value_of
refusal_again (RefusedFor code number) less =
    ap (λ found. RefusedFor (unwrap_or found pyx.BadLine) (digits_value 10 (decimal number))) (pyx_code_is code)
    ∙ ap (RefusedFor code) (digits_value-decimal own number (small_from number less))
refusal_again (ConflictAt version) small = ap ConflictAt (digits_value-decimal own version small)
refusal_again IsAbsent valid = refl
refusal_again IsFull valid = refl

refused_again : (refusal : RefusalShown) (lists : Lists) (lines : List (List ℕ))
    → again (words_of_refusal refusal) lists lines ≡ Refuses (refusal_from (words_of_refusal refusal))
unfolding again again_by refusal_from
refused_again (RefusedFor code number) lists lines = refl
refused_again (ConflictAt version) lists lines = refl
refused_again IsAbsent lists lines = refl
refused_again IsFull lists lines = refl

stopped_again : (number : ℕ) (refusal : RefusalShown) (lists : Lists) (lines : List (List ℕ)) → number < 2 ^ 32
    → IsRefusalShown refusal
    → again (codes "stopped" ∷ decimal number ∷ words_of_refusal refusal) lists lines ≡ StoppedAt number refusal
unfolding again again_by value_of
stopped_again number refusal lists lines less valid =
    ap (λ n. StoppedAt n (refusal_from (words_of_refusal refusal)))
    (digits_value-decimal own number (small_from number less))
    ∙ ap (StoppedAt number) (refusal_again refusal valid)

again_built : (built : BuildShown) → IsBuildShown built
    → again (spaced_parts (built_words built)) (lists_of_built built) (built_lines built) ≡ OfBuild built
unfolding again again_by lists_of_built pages_in faults_in
again_built (BuiltPages pages faults) valid = refl
again_built (StoppedBy stop) valid = again_stop stop NoLists []
again_built (PagesTooLarge total) small = ap (λ n. OfBuild (PagesTooLarge n)) (value_is total small)

again_is : (shown : Shown) → IsShown shown
    → again (spaced_parts (shown_words shown)) (lists_of shown) (shown_lines shown) ≡ shown
unfolding again again_by lists_of names_in
again_is (StoredAt version) small = ap StoredAt (value_is version small)
again_is (RemovedAt version) small = ap RemovedAt (value_is version small)
again_is (Refuses refusal) valid =
    ap (λ words. again words NoLists []) (refusal_parts refusal valid) ∙ refused_again refusal NoLists []
    ∙ ap Refuses (refusal_again refusal valid)
again_is (GroupedAs edits) less = ap GroupedAs (value_is edits (small_from edits less))
again_is (StoppedAt number refusal) valid =
    ap (λ words. again words NoLists []) (stopped_parts number refusal valid.0 valid.1)
    ∙ stopped_again number refusal NoLists [] valid.0 valid.1
again_is (Lines lines) valid = refl
again_is (Names names) valid = refl
again_is (OfBuild built) valid = again_built built valid

-- the same reply with the same lines shows the same
pub shown_once : (a b : Shown) → IsShown a → IsShown b → shown_words a ≡ shown_words b → shown_lines a ≡ shown_lines b
    → below_shown a ≡ below_shown b → a ≡ b
shown_once a b first second words lines said =
    let lists : lists_of a ≡ lists_of b =
    lists_once (shown_lines a) (shown_lines b) (below_shown a) (below_shown b) (lists_of a) (lists_of b)
    (has_lists a first) (has_lists b second) lines said in
    sym (again_is a first) ∙ ap (λ ws. again (spaced_parts ws) (lists_of a) (shown_lines a)) words
    ∙ ap (λ l. again (spaced_parts (shown_words b)) l (shown_lines a)) lists
    ∙ ap (again (spaced_parts (shown_words b)) (lists_of b)) lines ∙ again_is b second
