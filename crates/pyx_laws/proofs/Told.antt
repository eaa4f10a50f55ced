-- A fault that a text tells stays told, whatever follows: its line is ended.
use Rattle.std.specs.Prelude.{◌≡◌, ◌+◌, ◌≤◌, ◌==◌, ◌&&◌, ◌++◌, ℕ, zero, suc, Bool, true, false, List, [], ◌∷◌, Option, Some, None, Result, Ok, Err, cond, if◌then◌else◌}
use Rattle.std.proofs.Common.{refl, ap, ◌∙◌, subst, arith}
use Rattle.std.proofs.lemmas.Bool.Decides.{nat_tests}
use Rattle.std.proofs.lemmas.List.Sums.{sum_by-append, sum_by-cons}
use Rattle.dita_doc.specs.Bytes.{line_feed, carriage_return}
use Rattle.dita_doc.specs.Pyx.{ends, goes_on, is_none_open, is_empty_line, lines_from, read_from, reads, text_limit}
use Rattle.dita_doc.specs.PyxEvent.{Event, after, fault_of, has_root, open_names}
use Rattle.dita_doc.specs.PyxLine.{Breaks, Line, line_of}
use Rattle.dita_doc.specs.declared.fault.PyxCode.{PyxCode}
use Rattle.dita_doc.specs.declared.fault.PyxCode.TheVariants as codes
use Rattle.dita_doc.specs.declared.fault.PyxFault.{PyxFault}
use Rattle.pyx_text.specs.Pieces.{TellsFault, ended_lines, is_of_line}

abbrev Outcome : Type 0
Outcome = Result (List Event) PyxFault

-- what a fault says, of any outcome

abbrev is_line_told : Outcome → Bool
is_line_told (Ok events) = true
is_line_told (Err fault) = is_of_line fault.code

abbrev line_told : Outcome → ℕ
line_told (Ok events) = 0
line_told (Err fault) = fault.line

-- The end tells no fault of a line that is ended

abbrev ends_by : Bool → Bool → ℕ → List Event → Outcome
ends_by none rooted number events =
    if none then (if rooted then Ok events else Err (record { code = codes.NoRoot; line = number }))
    else Err (record { code = codes.Unclosed; line = number })

no_end_by : (none rooted : Bool) (number : ℕ) (events : List Event) (fault : PyxFault) → is_of_line fault.code ≡ true
    → ends_by none rooted number events ≡ Err fault → ⊥
no_end_by true true number events fault of is = cc is
no_end_by true false number events fault of is = cc (ap is_line_told is ∙ of)
no_end_by false rooted number events fault of is = cc (ap is_line_told is ∙ of)

no_end : (number : ℕ) (events : List Event) (fault : PyxFault) → is_of_line fault.code ≡ true
    → ends number events ≡ Err fault → ⊥
no_end number events fault of is =
    no_end_by (is_none_open (open_names events)) (has_root events) number events fault of is

no_last : (found : Option PyxCode) (number : ℕ) (events : List Event) (fault : PyxFault)
    → is_of_line fault.code ≡ true → fault.line ≤ number
    → goes_on found (number + 1) (ends (number + 1) events) ≡ Err fault → ⊥
no_last None number events fault of ended is = no_end (number + 1) events fault of is
no_last (Some code) number events fault of ended is =
    let line : number + 1 ≡ fault.line = ap line_told is in
    absurd (omega (arith, line, ended))

nothing_more : (left : ℕ) (line : List ℕ) (number : ℕ) (before : List Event) (fault : PyxFault)
    → is_of_line fault.code ≡ true → fault.line ≤ number → read_from left line number before [] ≡ Err fault → ⊥
nothing_more zero [] number before fault of ended is = no_end number before fault of is
nothing_more (suc left) [] number before fault of ended is = no_end number before fault of is
nothing_more zero (b ∷ line) number before fault of ended is =
    no_last (fault_of before (line_of (b ∷ line))) number (after (number + 1) before (line_of (b ∷ line)))
    fault of ended is
nothing_more (suc left) (b ∷ line) number before fault of ended is =
    no_last (fault_of before (line_of (b ∷ line))) number (after (number + 1) before (line_of (b ∷ line)))
    fault of ended is

-- A line behind which the fault stays

go_on : (found : Option PyxCode) (number : ℕ) (some more : Outcome) (fault : PyxFault)
    → (some ≡ Err fault → more ≡ Err fault) → goes_on found number some ≡ Err fault
    → goes_on found number more ≡ Err fault
go_on None number some more fault step is = step is
go_on (Some code) number some more fault step is = is

-- what is shown of the bytes behind the first
abbrev Stays : PyxFault → List ℕ → List ℕ → Type 0
Stays fault text rest = (left : ℕ) (line : List ℕ) (number : ℕ) (before : List Event)
    → fault.line ≤ number + ended_lines text → read_from left line number before text ≡ Err fault
    → read_from left line number before (text ++ rest) ≡ Err fault

abbrev lines_by : Bool → Bool → ℕ → List ℕ → ℕ → List ℕ → List Line
lines_by feed dropped left line b bytes =
    if feed then line_of line ∷ lines_from left [] bytes
    else if dropped then lines_from left line bytes
    else lines_from left (line ++ b ∷ []) bytes

by_byte : (feed dropped : Bool) (b : ℕ) (text rest : List ℕ) (fault : PyxFault) → Stays fault text rest → (left : ℕ)
    (line : List ℕ) (number : ℕ) (before : List Event) → fault.line ≤ number + (cond feed 1 0 + ended_lines text)
    → reads number before (lines_by feed dropped left line b text) ≡ Err fault
    → reads number before (lines_by feed dropped left line b (text ++ rest)) ≡ Err fault
by_byte true dropped b text rest fault stays left line number before ended is =
    go_on (fault_of before (line_of line)) (number + 1)
    (reads (number + 1) (after (number + 1) before (line_of line)) (lines_from left [] text))
    (reads (number + 1) (after (number + 1) before (line_of line)) (lines_from left [] (text ++ rest)))
    fault
    (stays left [] (number + 1) (after (number + 1) before (line_of line)) (omega (arith, ended))) is
by_byte false true b text rest fault stays left line number before ended is =
    stays left line number before (omega (arith, ended)) is
by_byte false false b text rest fault stays left line number before ended is =
    stays left (line ++ b ∷ []) number before (omega (arith, ended)) is

abbrev rest_by : Bool → List ℕ → List ℕ → List Line
rest_by passed line bytes = if passed then lines_from zero line bytes else Breaks codes.TooLong ∷ []

by_rest : (passed : Bool) (text rest : List ℕ) (fault : PyxFault) → Stays fault text rest → (line : List ℕ)
    (number : ℕ) (before : List Event) → (passed ≡ true → fault.line ≤ number + ended_lines text)
    → reads number before (rest_by passed line text) ≡ Err fault
    → reads number before (rest_by passed line (text ++ rest)) ≡ Err fault
by_rest true text rest fault stays line number before ended is = stays zero line number before (ended refl) is
by_rest false text rest fault stays line number before ended is = is

abbrev one_if : Bool → ℕ
one_if passed = cond passed 1 0

ended_more : (b : ℕ) (text : List ℕ) → ended_lines (b ∷ text) ≡ one_if (b == line_feed) + ended_lines text
ended_more b text = sum_by-cons (λ (byte : ℕ). one_if (byte == line_feed)) b text

-- a CR is no LF
no_feed : (b : ℕ) (more : Bool) → ((b == carriage_return) && more) ≡ true → (b == line_feed) ≡ false
no_feed b more is = grind (arith, nat_tests)

by_left : (left b : ℕ) (text rest : List ℕ) (fault : PyxFault) → Stays fault text rest → (line : List ℕ) (number : ℕ)
    (before : List Event) → fault.line ≤ number + ended_lines (b ∷ text)
    → read_from left line number before (b ∷ text) ≡ Err fault
    → read_from left line number before (b ∷ (text ++ rest)) ≡ Err fault
by_left zero b text rest fault stays line number before ended is =
    by_rest ((b == carriage_return) && is_empty_line line) text rest fault stays line number before
    (λ passed.
    let feed : (b == line_feed) ≡ false = no_feed b (is_empty_line line) passed in
    let same : ended_lines (b ∷ text) ≡ 0 + ended_lines text =
    ended_more b text ∙ ap (λ (some : Bool). one_if some + ended_lines text) feed in
    omega (arith, ended, same)) is
by_left (suc left) b text rest fault stays line number before ended is =
    by_byte (b == line_feed) (b == carriage_return) b text rest fault stays left line number before
    (subst (λ (lines : ℕ). fault.line ≤ number + lines) (ended_more b text) ended) is

stays : (text rest : List ℕ) (fault : PyxFault) → is_of_line fault.code ≡ true → Stays fault text rest
stays [] rest fault of = λ left line number before ended is.
    absurd (nothing_more left line number before fault of (omega (arith, ended)) is)
stays (b ∷ text) rest fault of = λ left line number before ended is.
    by_left left b text rest fault (stays text rest fault of) line number before ended is

more_lines : (text rest : List ℕ) (line : ℕ) → line ≤ ended_lines text → line ≤ ended_lines (text ++ rest)
more_lines text rest line within =
    omega (arith, within, sum_by-append (λ (byte : ℕ). cond (byte == line_feed) 1 0) text rest)

pub told_stays : (text rest : List ℕ) (fault : PyxFault) → TellsFault text fault → TellsFault (text ++ rest) fault
told_stays text rest fault tells = record {
  first = stays text rest fault tells.line text_limit [] 0 [] (omega (arith, tells.ended)) tells.first;
  line = tells.line;
  ended = more_lines text rest fault.line tells.ended;
}
