-- When a text tells a fault: the faults of lines, and how many lines are ended.
use Rattle.std.proofs.Common.{◌≡◌, ◌≢◌, ℕ, ◌+◌, ◌<◌, ◌≤◌, ◌==◌, Bool, true, false, if◌then◌else◌, List, [], ◌∷◌, ◌++◌, ◌||◌, ◌&&◌, not, nat_le, bytes_eq, Option, None, Some, Ok, Err, length, cond, sym, refl, ap, ◌∙◌, subst, arith}
use Rattle.std.proofs.lemmas.List.Sums.{sum_by-append}
use Rattle.std.proofs.lemmas.Bool.Decides.{nat_tests}
use Rattle.dita_doc.specs.Bytes.{Bytes, is_space}
use Rattle.dita_doc.specs.declared.fault.PyxCode.{PyxCode}
use Rattle.dita_doc.specs.declared.fault.PyxCode.TheVariants as codes
use Rattle.dita_doc.specs.declared.fault.PyxFault.{PyxFault}
use Rattle.dita_doc.specs.PyxEscapes.{unescaped}
use Rattle.dita_doc.specs.PyxLine.{Line, Opens, Gives, Says, Closes, Passes, Breaks, is_line_name, line_by_bytes, line_of}
use Rattle.dita_doc.specs.PyxEvent.{Event, fault_of, fault_of_open, fault_of_give, fault_of_close, open_names, given_names, has_root, is_outside}
use Rattle.dita_doc.specs.PlainText.{is_blank}
use Rattle.dita_doc.specs.Pyx.{ends, goes_on, is_none_open}
use Rattle.std.specs.List.{before_first, after_first, list_any}
use Rattle.std.specs.Str.{is_utf8}
use Rattle.pyx_text.specs.Pieces.{is_of_line, ended_lines}
use Rattle.pyx_text.specs.Reader.{EventsOrFault}

-- Faults of lines

-- the fault is of a line, if there is one
abbrev pub IsOfLine : Option PyxCode → Type 0
IsOfLine None = Unit {0}
IsOfLine (Some code) = is_of_line code ≡ true

-- and so is what a line breaks
abbrev pub BreaksLine : Line → Type 0
BreaksLine (Opens name) = Unit {0}
BreaksLine (Gives name value) = Unit {0}
BreaksLine (Says text) = Unit {0}
BreaksLine (Closes name) = Unit {0}
BreaksLine Passes = Unit {0}
BreaksLine (Breaks code) = is_of_line code ≡ true

either : (test : Bool) (x y : Line) → BreaksLine x → BreaksLine y → BreaksLine (if test then x else y)
either true x y first second = first
either false x y first second = second

breaks_bytes : (bytes : Bytes) → BreaksLine (line_by_bytes bytes)
breaks_bytes [] = tt
breaks_bytes (b ∷ rest) =
    either (b == 40) _ _ (either (is_line_name rest) (Opens rest) _ tt refl)
    (either (b == 41) _ _ (either (is_line_name rest) (Closes rest) _ tt refl)
    (either (b == 65) _ _ (either (is_line_name (before_first is_space rest))
    (Gives (before_first is_space rest) (unescaped (after_first is_space rest))) _ tt refl)
    (either ((b == 45) || (b == 91)) _ _ tt
    (either ((b == 63) || (b == 67) || (b == 68) || (b == 78) || (b == 85)) _ _ tt
    (either (b == 38) _ _ refl refl)))))

breaks_line : (bytes : Bytes) → BreaksLine (line_of bytes)
breaks_line bytes = either (is_utf8 bytes) (line_by_bytes bytes) (Breaks codes.NotUtf8) (breaks_bytes bytes) refl

one_of : (test : Bool) (x y : Option PyxCode) → IsOfLine x → IsOfLine y → IsOfLine (if test then x else y)
one_of true x y first second = first
one_of false x y first second = second

of_open : (rooted : Bool) (names : List Bytes) → IsOfLine (fault_of_open rooted names)
of_open rooted [] = one_of rooted (Some codes.SecondRoot) None refl tt
of_open rooted (name ∷ names) = one_of (nat_le 256 (length (name ∷ names))) (Some codes.TooDeep) None refl tt

of_give : (name : Bytes) (given : Option (List Bytes)) → IsOfLine (fault_of_give name given)
of_give name None = refl
of_give name (Some names) = one_of (list_any (bytes_eq name) names) (Some codes.AttributeTwice) None refl tt

of_close : (name : Bytes) (names : List Bytes) → IsOfLine (fault_of_close name names)
of_close name [] = refl
of_close name (innermost ∷ names) = one_of (bytes_eq name innermost) None (Some codes.CloseMismatch) tt refl

of_line : (before : List Event) (line : Line) → BreaksLine line → IsOfLine (fault_of before line)
of_line before (Opens name) breaks = of_open (has_root before) (open_names before)
of_line before (Gives name value) breaks = of_give name (given_names before)
of_line before (Says text) breaks = one_of (is_outside before && not (is_blank text)) (Some codes.TextOutside) None refl tt
of_line before (Closes name) breaks = of_close name (open_names before)
of_line before Passes breaks = tt
of_line before (Breaks code) breaks = breaks

-- what is wrong with a line is a fault of a line
pub fault_of_line : (before : List Event) (bytes : Bytes) → IsOfLine (fault_of before (line_of bytes))
fault_of_line before bytes = of_line before (line_of bytes) (breaks_line bytes)

-- a fault that stands whatever follows
pub record IsLineFault (number : ℕ) (fault : PyxFault) : Type 0 where
  pub line : is_of_line fault.code ≡ true
  pub at : fault.line ≡ number

pub told_by : (found : Option PyxCode) (number : ℕ) (fault : PyxFault) → IsOfLine found
    → ((rest : EventsOrFault) → goes_on found number rest ≡ Err fault) → IsLineFault number fault
told_by None number fault is bad = absurd (let e = bad (Ok []) in cc)
told_by (Some code) number fault is bad =
    let e = bad (Ok []) in
    let same : code ≡ fault.code = cc in
    record { line = subst (λ c. is_of_line c ≡ true) same is; at = cc }

-- the end tells no fault of a line
ends_if : (none rooted : Bool) (number : ℕ) (events : List Event) (fault : PyxFault)
    → (if none then (if rooted then Ok events else Err (record { code = codes.NoRoot; line = number }))
    else Err (record { code = codes.Unclosed; line = number })) ≡ Err fault
    → is_of_line fault.code ≡ false
ends_if true true number events fault e = absurd cc
ends_if true false number events fault e =
    let same : codes.NoRoot ≡ fault.code = cc in
    ap is_of_line (sym same)
ends_if false rooted number events fault e =
    let same : codes.Unclosed ≡ fault.code = cc in
    ap is_of_line (sym same)

pub ends_fault : (number : ℕ) (events : List Event) (fault : PyxFault) → ends number events ≡ Err fault
    → is_of_line fault.code ≡ false
ends_fault number events fault e = ends_if (is_none_open (open_names events)) (has_root events) number events fault e

-- a fault of the last line, which is not ended
pub last_line : (found : Option PyxCode) (number : ℕ) (rest : EventsOrFault) (fault : PyxFault)
    → goes_on found (number + 1) rest ≡ Err fault → (rest ≡ Err fault → is_of_line fault.code ≡ false)
    → is_of_line fault.code ≡ true → number < fault.line
last_line None number rest fault e at_end is = absurd (let other = at_end e in cc)
last_line (Some code) number rest fault e at_end is =
    let same : number + 1 ≡ fault.line = cc in
    omega arith

-- Ended lines

pub ended_append : (text more : Bytes) → ended_lines (text ++ more) ≡ ended_lines text + ended_lines more
ended_append text more = sum_by-append (λ (b : ℕ). cond (b == 10) 1 0) text more

-- a line more
pub ended_more : (text : Bytes) → ended_lines (text ++ 10 ∷ []) ≡ ended_lines text + 1
ended_more text = ended_append text (10 ∷ [])

-- no line more
pub ended_same : (text : Bytes) (b : ℕ) → b ≢ 10 → ended_lines (text ++ b ∷ []) ≡ ended_lines text
ended_same text b other =
    let ten : (b == 10) ≡ false = grind (arith, nat_tests) in
    ended_append text (b ∷ []) ∙ ap (λ (test : Bool). ended_lines text + (0 + cond test 1 0)) ten ∙ omega arith

-- a line more, and whatever follows
pub ended_at_least : (text rest : Bytes) (number : ℕ) → ended_lines text ≡ number
    → number + 1 ≤ ended_lines ((text ++ 10 ∷ []) ++ rest)
ended_at_least text rest number is = omega (arith, ended_append (text ++ 10 ∷ []) rest, ended_more text)
