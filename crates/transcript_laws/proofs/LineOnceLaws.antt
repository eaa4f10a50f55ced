-- What is shown on lines is shown by nothing else.
use Rattle.std.specs.Prelude.{◌≡◌, ◌<◌, ◌^◌, ℕ, List, [], ◌∷◌, ◌++◌, Option, Some, codes, length, map, find, All, bytes_eq, if◌then◌else◌}
use Rattle.std.specs.Fmt.{decimal}
use Rattle.std.proofs.Common.{refl, sym, ap, subst, ◌∙◌, arith, append_assoc, append-nil}
use Rattle.std.proofs.lemmas.Fmt.{decimal_injective}
use Rattle.std.proofs.lemmas.List.Elements.{All-head, All-tail}
use Rattle.dita_doc.specs.declared.fault.FaultCode.{FaultCode}
use Rattle.dita_doc.specs.declared.fault.FaultCode.TheVariants as fault
use Rattle.dita_doc.specs.declared.fault.PyxCode.{PyxCode}
use Rattle.dita_doc.specs.declared.fault.PyxCode.TheVariants as pyx
use Rattle.dita_doc.specs.Faults.{pyx_code_text, fault_code_text}
use Rattle.dita_doc.specs.Cut.{Lacks}
use Rattle.fault_report.specs.FaultLine.{with_detail}
use Rattle.transcript_text.specs.Transcript.{IsNameLine, name_line, PageMark, InOutlet, InRow, IsMark, mark_words, PageShown, IsPageShown, page_line, FaultShown, IsFaultShown, fault_line}
use Rattle.transcript_text.specs.declared.below.TheConstants.{PYX_CODES, FAULT_CODES}
use Rattle.dita_doc.specs.Bytes.{spaced_parts}
use Rattle.transcript_text.proofs.CodeLaws.{fault_code_lacks}
use Rattle.transcript_text.proofs.FaultLaws.{place_lacks, fault_line_parts}
use Rattle.transcript_text.proofs.HeadLaws.{small_from}
use Rattle.dita_doc.proofs.LackLaws.{lacks_decimal, has_byte, cut_once, cut_last}
use Rattle.transcript_text.proofs.TextLaws.{decimal_word, name_words, page_words}
use Rattle.transcript_text.proofs.WordLaws.{one_peeled}

-- lists of lines of one kind

pub map_once : {X : Type 0} (f : X → List ℕ) (P : X → Type 0) → ((x y : X) → P x → P y → f x ≡ f y → x ≡ y)
    → (xs ys : List X) → All P xs → All P ys → map f xs ≡ map f ys → xs ≡ ys
map_once f P once [] [] all more e = refl
map_once f P once [] (y ∷ ys) all more e = absurd (cc)
map_once f P once (x ∷ xs) [] all more e = absurd (cc)
map_once f P once (x ∷ xs) (y ∷ ys) all more e =
    let head : f x ≡ f y = cc in
    let tail : map f xs ≡ map f ys = cc in
    let first : x ≡ y = once x y (All-head P x xs all) (All-head P y ys more) head in
    let rest : xs ≡ ys = map_once f P once xs ys (All-tail P x xs all) (All-tail P y ys more) tail in
    cc

-- a front of a known length
pub front_once : {X : Type 0} (x y back other : List X) → length x ≡ length y → x ++ back ≡ y ++ other
    → (x ≡ y) × (back ≡ other)
front_once [] [] back other many e = (refl, e)
front_once [] (b ∷ y) back other many e = absurd (omega arith)
front_once (a ∷ x) [] back other many e = absurd (omega arith)
front_once (a ∷ x) (b ∷ y) back other many e =
    let tail : x ++ back ≡ y ++ other = cc in
    let head : a ≡ b = cc in
    let rest = front_once x y back other (omega arith) tail in
    let same : x ≡ y = rest.0 in
    (cc, rest.1)

-- names

pub name_line_once : (a b : List ℕ × ℕ) → IsNameLine a → IsNameLine b → name_line a ≡ name_line b → a ≡ b
name_line_once a b first second e =
    let p1 = one_peeled _ _ _ _ _ (name_words a.0 a.1 first.name first.version)
    (ap spaced_parts e ∙ name_words b.0 b.1 second.name second.version) in
    let p2 = one_peeled _ _ _ _ _ refl p1.1 in
    let name : a.0 ≡ b.0 = p1.0 in
    let version : a.1 ≡ b.1 = decimal_injective a.1 b.1 first.version second.version p2.0 in
    rw (name, version) refl

-- pages

mark_kind : PageMark → List ℕ
mark_kind (InOutlet n) = codes "bytes"
mark_kind (InRow n) = codes "row"

mark_number : PageMark → ℕ
mark_number (InOutlet n) = n
mark_number (InRow n) = n

mark_from : List ℕ → ℕ → PageMark
mark_from kind n = if bytes_eq kind (codes "bytes") then InOutlet n else InRow n

mark_is : (mark : PageMark) → mark_from (mark_kind mark) (mark_number mark) ≡ mark
unfolding mark_from mark_kind mark_number
mark_is (InOutlet n) = refl
mark_is (InRow n) = refl

mark_small : (mark : PageMark) → IsMark mark → mark_number mark < 2 ^ 64
unfolding mark_number
mark_small (InOutlet n) small = small
mark_small (InRow n) small = small

mark_told : (mark : PageMark) → IsMark mark
    → spaced_parts (mark_words mark) ≡ mark_kind mark ∷ decimal (mark_number mark) ∷ []
unfolding mark_kind mark_number
mark_told (InOutlet n) small = ap (λ words. codes "bytes" ∷ words) (decimal_word n small)
mark_told (InRow n) small = ap (λ words. codes "row" ∷ words) (decimal_word n small)

mark_once : (a b : PageMark) → IsMark a → IsMark b → spaced_parts (mark_words a) ≡ spaced_parts (mark_words b) → a ≡ b
mark_once a b first second e =
    let p1 = one_peeled _ _ _ _ _ (mark_told a first) (e ∙ mark_told b second) in
    let p2 = one_peeled _ _ _ _ _ refl p1.1 in
    let kind : mark_kind a ≡ mark_kind b = p1.0 in
    let number : mark_number a ≡ mark_number b =
    decimal_injective (mark_number a) (mark_number b) (mark_small a first) (mark_small b second) p2.0 in
    sym (mark_is a) ∙ ap (λ k. mark_from k (mark_number a)) kind ∙ ap (mark_from (mark_kind b)) number ∙ mark_is b

pub page_line_once : (a b : PageShown) → IsPageShown a → IsPageShown b → page_line a ≡ page_line b → a ≡ b
page_line_once a b first second e =
    let p1 = one_peeled _ _ _ _ _ (page_words a.name a.mark first.name)
    (ap spaced_parts e ∙ page_words b.name b.mark second.name) in
    let p2 = one_peeled _ _ _ _ _ refl p1.1 in
    let name : a.name ≡ b.name = p2.0 in
    let mark : a.mark ≡ b.mark = mark_once a.mark b.mark first.mark second.mark p2.1 in
    rw (name, mark) refl

-- codes

fault_code_from : List ℕ → Option FaultCode
fault_code_from word = find (λ code. bytes_eq (fault_code_text code) word) FAULT_CODES

fault_code_is : (code : FaultCode) → fault_code_from (fault_code_text code) ≡ Some code
unfolding fault_code_from
fault_code_is fault.NoClass = refl
fault_code_is fault.BadClass = refl
fault_code_is fault.BadReference = refl
fault_code_is fault.MapMissing = refl
fault_code_is fault.MapCycle = refl
fault_code_is fault.TopicMissing = refl
fault_code_is fault.NotTopic = refl
fault_code_is fault.MapConref = refl
fault_code_is fault.GroupValue = refl
fault_code_is fault.DitavalMissing = refl
fault_code_is fault.DitavalTwice = refl
fault_code_is fault.BadAction = refl
fault_code_is fault.CopyTo = refl
fault_code_is fault.Chunk = refl
fault_code_is fault.NameChanged = refl
fault_code_is fault.BadKeyName = refl
fault_code_is fault.BadScopeName = refl
fault_code_is fault.KeyUndefined = refl
fault_code_is fault.KeyCycle = refl
fault_code_is fault.KeyNoText = refl
fault_code_is fault.ConrefMissing = refl
fault_code_is fault.ConrefType = refl
fault_code_is fault.ConrefCycle = refl
fault_code_is fault.ConrefDepth = refl
fault_code_is fault.RangeEnd = refl
fault_code_is fault.PushPlace = refl
fault_code_is fault.PushTwice = refl
fault_code_is fault.TooManyResolved = refl
fault_code_is fault.LinkNoPage = refl
fault_code_is fault.PageTooLarge = refl
fault_code_is fault.Foreign = refl

fault_code_once : (a b : FaultCode) → fault_code_text a ≡ fault_code_text b → a ≡ b
fault_code_once a b e =
    let same : Some a ≡ Some b = sym (fault_code_is a) ∙ ap fault_code_from e ∙ fault_code_is b in cc

pub pyx_code_from : List ℕ → Option PyxCode
pyx_code_from word = find (λ code. bytes_eq (pyx_code_text code) word) PYX_CODES

pub pyx_code_is : (code : PyxCode) → pyx_code_from (pyx_code_text code) ≡ Some code
unfolding pyx_code_from
pyx_code_is pyx.BadLine = refl
pyx_code_is pyx.Entity = refl
pyx_code_is pyx.AttributePlace = refl
pyx_code_is pyx.AttributeTwice = refl
pyx_code_is pyx.Unclosed = refl
pyx_code_is pyx.CloseMismatch = refl
pyx_code_is pyx.NoRoot = refl
pyx_code_is pyx.SecondRoot = refl
pyx_code_is pyx.TextOutside = refl
pyx_code_is pyx.TooDeep = refl
pyx_code_is pyx.TooLong = refl
pyx_code_is pyx.NotUtf8 = refl

-- faults

code_once : (a b : FaultCode) (x y : List ℕ) → fault_code_text a ++ with_detail x ≡ fault_code_text b ++ with_detail y
    → (fault_code_text a ≡ fault_code_text b) × (x ≡ y)
code_once a b [] [] e = (sym (append-nil (fault_code_text a)) ∙ e ∙ append-nil (fault_code_text b), refl)
code_once a b [] (c ∷ y) e =
    absurd (has_byte 32 (fault_code_text b) (c ∷ y)
    (subst (Lacks 32) (sym (append-nil (fault_code_text a)) ∙ e) (fault_code_lacks 32 a (omega arith))))
code_once a b (c ∷ x) [] e =
    absurd (has_byte 32 (fault_code_text a) (c ∷ x)
    (subst (Lacks 32) (sym (append-nil (fault_code_text b)) ∙ sym e) (fault_code_lacks 32 b (omega arith))))
code_once a b (c ∷ x) (d ∷ y) e =
    cut_once 32 (fault_code_text a) (fault_code_text b) (c ∷ x) (d ∷ y) (fault_code_lacks 32 a (omega arith))
    (fault_code_lacks 32 b (omega arith)) e

line_lacks : (n : ℕ) → n < 2 ^ 32 → Lacks 58 (decimal n)
line_lacks n less = lacks_decimal 58 n (λ range. omega (arith, range.1)) (small_from n less)

pub fault_line_once : (a b : FaultShown) → IsFaultShown a → IsFaultShown b → fault_line a ≡ fault_line b → a ≡ b
fault_line_once a b first second e =
    let place_a = a.name ++ codes ":" ++ decimal a.line in
    let place_b = b.name ++ codes ":" ++ decimal b.line in
    let whole = sym (fault_line_parts place_a (fault_code_text a.code) (with_detail a.detail)) ∙ e
    ∙ fault_line_parts place_b (fault_code_text b.code) (with_detail b.detail) in
    let parts = cut_once 32 place_a place_b _ _
    (place_lacks 32 place_a (omega arith) (a.name, a.line, first.name, first.line, refl))
    (place_lacks 32 place_b (omega arith) (b.name, b.line, second.name, second.line, refl)) whole in
    let places = cut_last 58 a.name b.name (decimal a.line) (decimal b.line) (line_lacks a.line first.line)
    (line_lacks b.line second.line)
    (sym (append_assoc a.name (codes ":") (decimal a.line)) ∙ parts.0
    ∙ append_assoc b.name (codes ":") (decimal b.line)) in
    let codes_too = code_once a.code b.code a.detail b.detail parts.1 in
    let name : a.name ≡ b.name = places.0 in
    let line : a.line ≡ b.line =
    decimal_injective a.line b.line (small_from a.line first.line) (small_from b.line second.line) places.1 in
    let code : a.code ≡ b.code = fault_code_once a.code b.code codes_too.0 in
    let detail : a.detail ≡ b.detail = codes_too.1 in
    rw (name, line, code, detail) refl
