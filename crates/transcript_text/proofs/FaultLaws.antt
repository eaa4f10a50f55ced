-- The parts of the line of a fault.
use Rattle.std.specs.Prelude.{◌≡◌, ◌<◌, ◌^◌, ℕ, Bool, true, false, List, [], ◌∷◌, ◌++◌, Option, Some, None, codes, length, is_some, not, MatchBool}
use Rattle.std.specs.Borrow.{Bor}
use Rattle.std.specs.Fmt.{decimal}
use Rattle.std.proofs.Common.{refl, sym, ap, subst, ◌∙◌, arith, append_assoc, append-nil}
use Rattle.std.proofs.lemmas.Str.{IsUtf8-nil, is_utf8-from_IsUtf8}
use Rattle.dita_doc.specs.declared.fault.FaultCode.{FaultCode}
use Rattle.dita_doc.specs.Cut.{Lacks, IsCutAt, IsCutAtLast}
use Rattle.dita_doc.specs.Faults.{fault_code_text}
use Rattle.dita_doc.specs.Lines.{IsLineText}
use Rattle.fault_report.specs.FaultLine.{with_detail}
use Rattle.transcript_text.specs.Transcript.{IsNameShown, FaultShown}
use Rattle.dita_doc.specs.Bytes.{spaced_parts}
use Rattle.transcript_text.specs.Words.{words_in, number_of}
use Rattle.transcript_text.specs.Below.{IsLastNumber, IsPlaceText, IsCodeText, IsDetail, IsFaultText, is_fault_code}
use Rattle.transcript_text.proofs.CodeLaws.{fault_code_found, fault_code_known, fault_code_lacks}
use Rattle.dita_doc.proofs.LackLaws.{lacks_append, lacks_cons, lacks_end, lacks_decimal, lacks_name, has_byte, cut_once, cut_last, no_equal}
use Rattle.transcript_text.proofs.WordLaws.{words_some}
use Rattle.transcript_text.proofs.NumberLaws.{number_is, number_says}

-- a number, and nothing behind it
pub last_by : (n : ℕ) (words : List (List ℕ)) (behind : Option (Bor (List ℕ))) (test : Bool)
    → words ≡ decimal n ∷ words_in behind → n < 2 ^ 64 → is_some behind ≡ not test
    → MatchBool test (IsLastNumber words) (IsLastNumber words → ⊥)
last_by n words None true is small e = (n, small, is)
last_by n words None false is small e = absurd (cc)
last_by n words (Some rest) true is small e = absurd (cc)
last_by n words (Some rest) false is small e =
    λ last. let none : spaced_parts rest.now ≡ [] = cc (last.2) in words_some rest.now none

-- the name and the line of a fault

place_parts : (text name line : List ℕ) (is : IsPlaceText text) → IsCutAtLast 58 text name line
    → (name ≡ is.0) × (line ≡ decimal is.1)
place_parts text name line is cut =
    let small : is.1 < 2 ^ 64 = omega (arith, is.3) in
    cut_last 58 name is.0 line (decimal is.1) cut.last (lacks_decimal 58 is.1 (λ range. omega (arith, range.1)) small)
    (sym cut.whole ∙ is.4 ∙ append_assoc is.0 (codes ":") (decimal is.1))

pub place_not_named : (text name line : List ℕ) → IsCutAtLast 58 text name line → (IsNameShown name → ⊥)
    → IsPlaceText text → ⊥
place_not_named text name line cut none is = none (subst IsNameShown (sym (place_parts text name line is cut).0) is.2)

place_true : (text name line : List ℕ) (found : Option ℕ) → IsCutAtLast 58 text name line → IsNameShown name
    → number_of 32 line ≡ found → is_some found ≡ true → IsPlaceText text
place_true text name line (Some n) cut named is some =
    let says = number_says 32 n line is in (
      name,
      n,
      named,
      says.0,
      cut.whole ∙ ap (λ (l : List ℕ). name ++ 58 ∷ l) (sym says.1)
          ∙ sym (append_assoc name (codes ":") (decimal n)),
    )
place_true text name line None cut named is some = absurd (cc)

pub place_by : (text name line : List ℕ) (test : Bool) → IsCutAtLast 58 text name line → IsNameShown name
    → is_some (number_of 32 line) ≡ test → MatchBool test (IsPlaceText text) (IsPlaceText text → ⊥)
place_by text name line true cut named some = place_true text name line (number_of 32 line) cut named refl some
place_by text name line false cut named none = λ is.
    let less : is.1 < 2 ^ 32 = is.3 in
    let small : is.1 < 2 ^ 64 = omega arith in
    let read = number_is 32 is.1 line less small (place_parts text name line is cut).1 in
    absurd (cc)

-- a place has no space
pub place_lacks : (byte : ℕ) (text : List ℕ) → byte < 33 → IsPlaceText text → Lacks byte text
place_lacks byte text low is =
    let small : is.1 < 2 ^ 64 = omega (arith, is.3) in
    subst (Lacks byte) (sym (is.4 ∙ append_assoc is.0 (codes ":") (decimal is.1)))
    (lacks_append byte is.0 (58 ∷ decimal is.1) (lacks_name byte is.0 low is.2.named)
    (lacks_cons byte 58 (decimal is.1) (no_equal 58 byte (λ same. omega arith))
    (lacks_decimal byte is.1 (λ range. omega (arith, range.0)) small)))

-- the code and the detail

record HasCode (text : List ℕ) : Type 0 where
  code : FaultCode
  detail : List ℕ
  fits : IsLineText detail
  whole : text ≡ fault_code_text code ++ with_detail detail

code_told : (text : List ℕ) → IsCodeText text → HasCode text
code_told text is = record { code = is.0; detail = is.1; fits = is.2; whole = is.3 }

lone_code : (code : FaultCode) (text detail : List ℕ) → Lacks 32 text
    → text ≡ fault_code_text code ++ with_detail detail → text ≡ fault_code_text code
lone_code code text [] lacks is = is ∙ append-nil (fault_code_text code)
lone_code code text (b ∷ detail) lacks is =
    absurd (has_byte 32 (fault_code_text code) (b ∷ detail) (subst (Lacks 32) is lacks))

pub code_alone : (text : List ℕ) (test : Bool) → Lacks 32 text → test ≡ is_fault_code text
    → MatchBool test (IsCodeText text) (IsCodeText text → ⊥)
code_alone text true lacks e =
    let found = fault_code_found text (sym e) in (
      found.0,
      [],
      record { utf8 = is_utf8-from_IsUtf8 [] IsUtf8-nil; one = refl },
      sym found.1
          ∙ sym (append-nil (fault_code_text found.0)),
    )
code_alone text false lacks e = λ is.
    let told = code_told text is in
    let same = lone_code told.code text told.detail lacks told.whole in
    let known = fault_code_known told.code in
    let read : is_fault_code text ≡ true = rw same known in
    absurd (cc)

-- a detail, cut behind its code
cut_code : (code : FaultCode) (text front back detail : List ℕ) → IsCutAt 32 text front back
    → text ≡ fault_code_text code ++ with_detail detail
    → (front ≡ fault_code_text code) × (back ≡ detail) × (0 < length detail)
cut_code code text front back [] cut is =
    absurd (has_byte 32 front back
    (subst (Lacks 32) (sym is ∙ cut.whole)
    (rw (append-nil (fault_code_text code)) (fault_code_lacks 32 code (omega arith)))))
cut_code code text front back (b ∷ detail) cut is =
    let parts = cut_once 32 front (fault_code_text code) back (b ∷ detail) cut.first
    (fault_code_lacks 32 code (omega arith)) (sym cut.whole ∙ is) in
    (parts.0, parts.1, omega arith)

pub code_not_known : (text front back : List ℕ) → IsCutAt 32 text front back → false ≡ is_fault_code front
    → IsCodeText text → ⊥
code_not_known text front back cut e is =
    let told = code_told text is in
    let parts = cut_code told.code text front back told.detail cut told.whole in
    let known = fault_code_known told.code in
    let read : is_fault_code front ≡ true = rw (parts.0) known in
    absurd (cc)

pub detail_shown : (detail : List ℕ) → 0 < length detail → with_detail detail ≡ 32 ∷ detail
detail_shown [] some = absurd (omega arith)
detail_shown (b ∷ detail) some = refl

pub code_by : (text front back : List ℕ) (test : Bool) → IsCutAt 32 text front back → true ≡ is_fault_code front
    → MatchBool test (IsDetail back) (IsDetail back → ⊥)
    → MatchBool test (IsCodeText text) (IsCodeText text → ⊥)
code_by text front back true cut e is =
    let found = fault_code_found front (sym e) in (
      found.0,
      back,
      is.1,
      cut.whole ∙ ap (λ (l : List ℕ). l ++ 32 ∷ back) (sym found.1)
          ∙ ap (λ (l : List ℕ). fault_code_text found.0 ++ l) (sym (detail_shown back is.0)),
    )
code_by text front back false cut e none = λ is.
    let told = code_told text is in
    let parts = cut_code told.code text front back told.detail cut told.whole in
    none (rw parts.1 (parts.2, told.fits))

pub back_lacks : (byte : ℕ) (text front back : List ℕ) → IsCutAt 32 text front back → Lacks byte text → Lacks byte back
back_lacks byte text front back cut lacks =
    lacks_end byte (front ++ 32 ∷ []) back
    (subst (Lacks byte) (cut.whole ∙ sym (append_assoc front (32 ∷ []) back)) lacks)

-- the whole line

pub fault_line_parts : (place code detail : List ℕ)
    → place ++ codes " " ++ code ++ detail ≡ place ++ 32 ∷ (code ++ detail)
fault_line_parts place code detail = simp append_assoc

record HasFault (text : List ℕ) : Type 0 where
  place : List ℕ
  code : List ℕ
  placed : IsPlaceText place
  coded : IsCodeText code
  whole : text ≡ place ++ 32 ∷ code

fault_told : (text : List ℕ) → IsFaultText text → HasFault text
fault_told text is =
    let fault = is.0 in
    let valid = is.1 in
    record {
      place = fault.name ++ codes ":" ++ decimal fault.line;
      code = fault_code_text fault.code ++ with_detail fault.detail;
      placed = (fault.name, fault.line, valid.name, valid.line, refl);
      coded = (fault.code, fault.detail, valid.detail, refl);
      whole = is.2 ∙ fault_line_parts (fault.name ++ codes ":" ++ decimal fault.line) (fault_code_text fault.code)
          (with_detail fault.detail);
    }

fault_parts : (text place code : List ℕ) (told : HasFault text) → IsCutAt 32 text place code
    → (place ≡ told.place) × (code ≡ told.code)
fault_parts text place code told cut =
    cut_once 32 place told.place code told.code cut.first (place_lacks 32 told.place (omega arith) told.placed)
    (sym cut.whole ∙ told.whole)

pub fault_not_placed : (text place code : List ℕ) → IsCutAt 32 text place code → (IsPlaceText place → ⊥)
    → IsFaultText text → ⊥
fault_not_placed text place code cut none is =
    let told = fault_told text is in
    none (subst IsPlaceText (sym (fault_parts text place code told cut).0) told.placed)

pub fault_by : (text place code : List ℕ) (test : Bool) → IsCutAt 32 text place code → IsPlaceText place
    → MatchBool test (IsCodeText code) (IsCodeText code → ⊥) → MatchBool test (IsFaultText text) (IsFaultText text → ⊥)
fault_by text place code true cut placed coded =
    let name = placed.0 in
    let number = placed.1 in
    let fault : FaultShown = record { name = name; line = number; code = coded.0; detail = coded.1 } in (
      fault,
      record { name = placed.2; line = placed.3; detail = coded.2 },
      cut.whole ∙ ap (λ (l : List ℕ). l ++ 32 ∷ code) placed.4
          ∙ ap (λ (l : List ℕ). (name ++ codes ":" ++ decimal number) ++ 32 ∷ l) coded.3
          ∙ sym (fault_line_parts (name ++ codes ":" ++ decimal number) (fault_code_text coded.0)
          (with_detail coded.1)),
    )
fault_by text place code false cut placed none = λ is.
    let told = fault_told text is in
    none (subst IsCodeText (sym (fault_parts text place code told cut).1) told.coded)
