-- The names of codes.
use Rattle.std.specs.Prelude.{◌≡◌, ◌<◌, ◌≤◌, ◌==◌, ◌||◌, ℕ, Bool, true, false, List, [], ◌∷◌, nat_lt, nat_le, bytes_eq}
use Rattle.std.specs.List.{list_any, list_all}
use Rattle.std.proofs.Common.{refl, sym, ap, ◌∙◌, arith}
use Rattle.std.proofs.lemmas.Bool.{or_from, and_parts, leb-true}
use Rattle.std.proofs.lemmas.Bool.Decides.{nat_tests}
use Rattle.std.proofs.lemmas.Slice.Eq.{bytes_eq-Decides}
use Rattle.dita_doc.specs.declared.fault.PyxCode.{PyxCode}
use Rattle.dita_doc.specs.declared.fault.PyxCode.TheVariants as pyx
use Rattle.dita_doc.specs.declared.fault.FaultCode.{FaultCode}
use Rattle.dita_doc.specs.declared.fault.FaultCode.TheVariants as fault
use Rattle.dita_doc.specs.Cut.{Lacks}
use Rattle.dita_doc.specs.Faults.{pyx_code_text, fault_code_text}
use Rattle.transcript_text.specs.Below.{is_pyx_code, is_fault_code}
use Rattle.transcript_text.specs.declared.below.TheConstants.{PYX_CODES, FAULT_CODES}

-- what one of some texts is, is the text of one of them
found_first : {X : Type 0} (f : X → List ℕ) (word : List ℕ) (x : X) (xs : List X) (test : Bool)
    → bytes_eq (f x) word ≡ test → (test || list_any (λ y. bytes_eq (f y) word) xs) ≡ true
    → (list_any (λ y. bytes_eq (f y) word) xs ≡ true → (y : X) × (f y ≡ word)) → (y : X) × (f y ≡ word)
found_first f word x xs true is e rest = (x, (bytes_eq-Decides (f x) word).0 is)
found_first f word x xs false is e rest = rest e

found_one : {X : Type 0} (f : X → List ℕ) (word : List ℕ) (xs : List X) → list_any (λ y. bytes_eq (f y) word) xs ≡ true
    → (y : X) × (f y ≡ word)
found_one f word [] e = absurd (cc)
found_one f word (x ∷ xs) e = found_first f word x xs (bytes_eq (f x) word) refl e (found_one f word xs)

-- what holds of all of them holds of it
pass_first : {X : Type 0} (f : X → List ℕ) (p : List ℕ → Bool) (word : List ℕ) (x : X) (xs : List X) (test : Bool)
    → bytes_eq (f x) word ≡ test → (test || list_any (λ y. bytes_eq (f y) word) xs) ≡ true
    → p (f x) ≡ true → (list_any (λ y. bytes_eq (f y) word) xs ≡ true → p word ≡ true) → p word ≡ true
pass_first f p word x xs true is e first rest = ap p (sym ((bytes_eq-Decides (f x) word).0 is)) ∙ first
pass_first f p word x xs false is e first rest = rest e

pass_all : {X : Type 0} (f : X → List ℕ) (p : List ℕ → Bool) (word : List ℕ) (xs : List X)
    → list_any (λ y. bytes_eq (f y) word) xs ≡ true → list_all (λ y. p (f y)) xs ≡ true → p word ≡ true
pass_all f p word [] e all = absurd (cc)
pass_all f p word (x ∷ xs) e all =
    let parts = and_parts (p (f x)) _ all in
    pass_first f p word x xs (bytes_eq (f x) word) refl e parts.0 (λ more. pass_all f p word xs more parts.1)

-- texts of letters
abbrev is_lettered : List ℕ → Bool
is_lettered text = list_all (λ b. nat_le 49 b) text

lettered_lack : (byte : ℕ) (text : List ℕ) → byte < 49 → is_lettered text ≡ true → Lacks byte text
lettered_lack byte [] low e = refl
lettered_lack byte (b ∷ text) low e =
    let parts = and_parts (nat_le 49 b) (list_all (λ c. nat_le 49 c) text) e in
    let high : 49 ≤ b = leb-true _ _ parts.0 in
    let other : (b == byte) ≡ false = grind (arith, nat_tests) in
    or_from _ _ other (lettered_lack byte text low parts.1)

pub fault_code_found : (word : List ℕ) → is_fault_code word ≡ true → (code : FaultCode) × (fault_code_text code ≡ word)
fault_code_found word e = found_one fault_code_text word FAULT_CODES e

pub pyx_code_found : (word : List ℕ) → is_pyx_code word ≡ true → (code : PyxCode) × (pyx_code_text code ≡ word)
pyx_code_found word e = found_one pyx_code_text word PYX_CODES e

pub fault_code_known : (code : FaultCode) → is_fault_code (fault_code_text code) ≡ true
fault_code_known fault.NoClass = refl
fault_code_known fault.BadClass = refl
fault_code_known fault.BadReference = refl
fault_code_known fault.MapMissing = refl
fault_code_known fault.MapCycle = refl
fault_code_known fault.TopicMissing = refl
fault_code_known fault.NotTopic = refl
fault_code_known fault.MapConref = refl
fault_code_known fault.GroupValue = refl
fault_code_known fault.DitavalMissing = refl
fault_code_known fault.DitavalTwice = refl
fault_code_known fault.BadAction = refl
fault_code_known fault.CopyTo = refl
fault_code_known fault.Chunk = refl
fault_code_known fault.NameChanged = refl
fault_code_known fault.BadKeyName = refl
fault_code_known fault.BadScopeName = refl
fault_code_known fault.KeyUndefined = refl
fault_code_known fault.KeyCycle = refl
fault_code_known fault.KeyNoText = refl
fault_code_known fault.ConrefMissing = refl
fault_code_known fault.ConrefType = refl
fault_code_known fault.ConrefCycle = refl
fault_code_known fault.ConrefDepth = refl
fault_code_known fault.RangeEnd = refl
fault_code_known fault.PushPlace = refl
fault_code_known fault.PushTwice = refl
fault_code_known fault.TooManyResolved = refl
fault_code_known fault.LinkNoPage = refl
fault_code_known fault.PageTooLarge = refl
fault_code_known fault.Foreign = refl

pub pyx_code_known : (code : PyxCode) → is_pyx_code (pyx_code_text code) ≡ true
pyx_code_known pyx.BadLine = refl
pyx_code_known pyx.Entity = refl
pyx_code_known pyx.AttributePlace = refl
pyx_code_known pyx.AttributeTwice = refl
pyx_code_known pyx.Unclosed = refl
pyx_code_known pyx.CloseMismatch = refl
pyx_code_known pyx.NoRoot = refl
pyx_code_known pyx.SecondRoot = refl
pyx_code_known pyx.TextOutside = refl
pyx_code_known pyx.TooDeep = refl
pyx_code_known pyx.TooLong = refl
pyx_code_known pyx.NotUtf8 = refl

pub fault_code_lacks : (byte : ℕ) (code : FaultCode) → byte < 49 → Lacks byte (fault_code_text code)
fault_code_lacks byte code low =
    lettered_lack byte (fault_code_text code) low
    (pass_all fault_code_text is_lettered (fault_code_text code) FAULT_CODES (fault_code_known code) refl)

pub pyx_code_lacks : (byte : ℕ) (code : PyxCode) → byte < 49 → Lacks byte (pyx_code_text code)
pyx_code_lacks byte code low =
    lettered_lack byte (pyx_code_text code) low
    (pass_all pyx_code_text is_lettered (pyx_code_text code) PYX_CODES (pyx_code_known code) refl)

-- bytes of ASCII alone
abbrev pub is_low : List ℕ → Bool
is_low text = list_all (λ b. nat_lt b 128) text

pub fault_code_low : (code : FaultCode) → is_low (fault_code_text code) ≡ true
fault_code_low code = pass_all fault_code_text is_low (fault_code_text code) FAULT_CODES (fault_code_known code) refl

pub pyx_code_low : (code : PyxCode) → is_low (pyx_code_text code) ≡ true
pyx_code_low code = pass_all pyx_code_text is_low (pyx_code_text code) PYX_CODES (pyx_code_known code) refl
