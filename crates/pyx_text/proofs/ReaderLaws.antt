-- What one byte more makes of a machine, what the end makes of it, and when it tells a fault.
use Rattle.std.proofs.Common.{◌≡◌, ◌≢◌, ℕ, zero, suc, ◌+◌, ◌*◌, ◌<◌, ◌≤◌, Bool, true, false, eqb, List, [], ◌∷◌, ◌++◌, Option, None, Ok, Err, length, Vec, Global, sym, refl, ap, ◌∙◌, subst, append_assoc, arith}
use Rattle.std.proofs.lemmas.List.{append-nil}
use Rattle.std.proofs.lemmas.Bool.Decides.{nat_tests}
use Rattle.dita_doc.specs.declared.doc.Node.{Node}
use Rattle.dita_doc.specs.declared.fault.PyxCode.{PyxCode}
use Rattle.dita_doc.specs.declared.fault.PyxFault.{PyxFault}
use Rattle.dita_doc.specs.declared.stop.Stop.{Stop}
use Rattle.dita_doc.specs.declared.stop.Stop.TheVariants.{Fault, NoMemory}
use Rattle.dita_doc.specs.Gives.{IsStopOf}
use Rattle.dita_doc.specs.PyxLine.{Line, line_of}
use Rattle.dita_doc.specs.PyxEvent.{Event, fault_of, after}
use Rattle.dita_doc.specs.Tree.{End}
use Rattle.dita_doc.specs.Pyx.{lines_from, goes_on, ends, reads, read_from, reading, built}
use Rattle.pyx_text.specs.declared.text_machine.TextMachine.{TextMachine}
use Rattle.pyx_text.specs.Machine.{made_by, settled}
use Rattle.pyx_text.specs.Read.{AreRead}
use Rattle.pyx_text.specs.Pieces.{TellsFault, is_of_line}
use Rattle.pyx_text.specs.Reader.{IsAt, HasReadLines, HasReadAll, IsTold, EventsOrFault, read_on, too_long}
use Rattle.pyx_text.proofs.Made.{made-more}
use Rattle.pyx_text.proofs.Said.{tree-made}
use Rattle.pyx_text.proofs.PyxLaws.{stands_for_read}
use Rattle.pyx_text.proofs.ToldLaws.{fault_of_line, told_by, ends_fault, last_line, ended_same, ended_at_least}

-- a byte of a line
lines-byte : (left : ℕ) (line : List ℕ) (b : ℕ) (rest : List ℕ) → b ≢ 10 → b ≢ 13
    → lines_from (suc left) line (b ∷ rest) ≡ lines_from left (line ++ b ∷ []) rest
lines-byte left line b rest other kept =
    let ten : eqb b 10 ≡ false = grind (arith, nat_tests) in
    let thirteen : eqb b 13 ≡ false = grind (arith, nat_tests) in
    rw (ten, thirteen) refl

-- behind one byte more
one_more : (text rest : List ℕ) (b : ℕ) → (text ++ b ∷ []) ++ rest ≡ text ++ b ∷ rest
one_more text rest b = append_assoc text (b ∷ []) rest

-- a machine whose line is within the limit
within_limit : (machine : TextMachine) (text rest : List ℕ) (left : ℕ) (at : IsAt machine text)
    → machine.over ≡ false → machine.left ≡ left
    → reading (text ++ rest) ≡ read_from left machine.line.items machine.number at.before rest
within_limit machine text rest left at inside is =
    at.same rest
    ∙ ap (λ (over : Bool). read_on over machine.left machine.line.items machine.number at.before rest) inside
    ∙ ap (λ n. read_from n machine.line.items machine.number at.before rest) is

not_over : (over : Bool) (left number : ℕ) (line rest : List ℕ) (before : List Event) → over ≡ false
    → read_from left line number before rest ≡ read_on over left line number before rest
not_over over left number line rest before inside =
    ap (λ (test : Bool). read_on test left line number before rest) (sym inside)

pub IsAt-return : (machine : TextMachine) (left : ℕ) (text : List ℕ) → IsAt machine text → machine.left ≡ left + 1
    → IsAt (record machine { left = left }) (text ++ 13 ∷ [])
IsAt-return machine left text at is =
    let inside : machine.over ≡ false = at.not_over (omega arith) in
    record {
      before = at.before;
      read = at.read;
      same = λ rest.
          ap reading (one_more text rest 13)
          ∙ within_limit machine text (13 ∷ rest) (suc left) at inside (omega arith)
          ∙ not_over machine.over left machine.number machine.line.items rest at.before inside;
      ended = ended_same text 13 (omega arith) ∙ at.ended;
      within = omega (arith, at.within);
      not_over = λ some. inside;
    }

pub IsAt-push : (machine : TextMachine) (left : ℕ) (line : Vec ℕ Global) (b : ℕ) (text : List ℕ) → IsAt machine text
    → machine.left ≡ left + 1 → b ≢ 10 → b ≢ 13 → line.items ≡ machine.line.items ++ b ∷ []
    → IsAt (record machine { left = left; line = line }) (text ++ b ∷ [])
IsAt-push machine left line b text at is other kept put =
    let inside : machine.over ≡ false = at.not_over (omega arith) in
    record {
      before = at.before;
      read = at.read;
      same = λ rest.
          ap reading (one_more text rest b)
          ∙ within_limit machine text (b ∷ rest) (suc left) at inside (omega arith)
          ∙ ap (λ lines. reads machine.number at.before lines) (lines-byte left machine.line.items b rest other kept)
          ∙ ap (λ l. read_from left l machine.number at.before rest) (sym put)
          ∙ not_over machine.over left machine.number line.items rest at.before inside;
      ended = ended_same text b other ∙ at.ended;
      within = omega (arith, at.within);
      not_over = λ some. inside;
    }

-- the end of a line
pub goes_on-none : (found : Option PyxCode) (number : ℕ) (rest : EventsOrFault) → found ≡ None
    → goes_on found number rest ≡ rest
goes_on-none found number rest is = ap (λ f. goes_on f number rest) is

-- the line ended with a fault
pub told_line : (machine : TextMachine) (left : ℕ) (text rest : List ℕ) (stop : Stop PyxFault) (at : IsAt machine text)
    → machine.left ≡ left + 1
    → ((behind : EventsOrFault) → IsStopOf stop
    (goes_on (fault_of at.before (line_of machine.line.items)) (machine.number + 1) behind))
    → IsTold stop ((text ++ 10 ∷ []) ++ rest)
told_line machine left text rest (Fault fault) at is bad =
    let inside : machine.over ≡ false = at.not_over (omega arith) in
    let number = machine.number + 1 in
    let found = fault_of at.before (line_of machine.line.items) in
    let one = told_by found number fault (fault_of_line at.before machine.line.items) bad in
    let events = after number at.before (line_of machine.line.items) in
    record {
      first =
          ap reading (one_more text rest 10)
          ∙ within_limit machine text (10 ∷ rest) (suc left) at inside (omega arith)
          ∙ bad (read_from left [] number events rest);
      line = one.line;
      ended = omega (arith, one.at, ended_at_least text rest machine.number at.ended);
    }
told_line machine left text rest NoMemory at is bad = tt

-- a line more makes two nodes at most
pub HasReadLines-more : (few : ℕ) (number : ℕ) (before : List Event) (line : Line)
    → length (made_by (settled before)).nodes ≤ 2 * number
    → length (made_by (settled (after few before line))).nodes ≤ 2 * (number + 1)
HasReadLines-more few number before line bound = omega (arith, made-more few before line)

-- the end of the text
lines-last : (left : ℕ) (line : List ℕ) → 0 < length line → lines_from left line [] ≡ line_of line ∷ []
lines-last left [] some = absurd (omega arith)
lines-last zero (b ∷ line) some = refl
lines-last (suc left) (b ∷ line) some = refl

pub lines-none : (left : ℕ) (line : List ℕ) → length line ≡ 0 → lines_from left line [] ≡ []
lines-none zero [] none = refl
lines-none (suc left) [] none = refl
lines-none left (b ∷ line) none = absurd (omega arith)

at_end : (reader : TextMachine) (text : List ℕ) (at : IsAt reader text) → reader.over ≡ false
    → reading text ≡ reads reader.number at.before (lines_from reader.left reader.line.items [])
at_end reader text at inside =
    ap reading (sym (append-nil text)) ∙ within_limit reader text [] reader.left at inside refl

pub end_over : (reader : TextMachine) (text : List ℕ) → IsAt reader text → reader.over ≡ true
    → reading text ≡ Err (too_long reader.number)
end_over reader text at over =
    ap reading (sym (append-nil text))
    ∙ at.same []
    ∙ ap (λ (test : Bool). read_on test reader.left reader.line.items reader.number at.before []) over

pub end_none : (reader : TextMachine) (text : List ℕ) → IsAt reader text → reader.over ≡ false
    → length reader.line.items ≡ 0 → HasReadAll reader text
end_none reader text at inside none = record {
  events = at.before;
  read = at.read;
  same =
      at_end reader text at inside
      ∙ ap (λ lines. reads reader.number at.before lines) (lines-none reader.left reader.line.items none);
  within = omega (arith, at.within);
}

pub end_last : (reader next : TextMachine) (text : List ℕ) (at : IsAt reader text) → reader.over ≡ false
    → 0 < length reader.line.items
    → next.number ≡ reader.number + 1
    → fault_of at.before (line_of reader.line.items) ≡ None
    → HasReadLines next.machine (reader.number + 1) (after (reader.number + 1) at.before (line_of reader.line.items))
    → HasReadAll next text
end_last reader next text at inside some number good read = record {
  events = after (reader.number + 1) at.before (line_of reader.line.items);
  read = subst (λ n. HasReadLines next.machine n (after (reader.number + 1) at.before (line_of reader.line.items)))
      (sym number) read;
  same =
      at_end reader text at inside
      ∙ ap (λ lines. reads reader.number at.before lines) (lines-last reader.left reader.line.items some)
      ∙ goes_on-none (fault_of at.before (line_of reader.line.items)) (reader.number + 1)
      (ends (reader.number + 1) (after (reader.number + 1) at.before (line_of reader.line.items))) good
      ∙ ap (λ n. ends n (after (reader.number + 1) at.before (line_of reader.line.items))) (sym number);
  within = omega (arith, at.within);
}

-- an end of the last line that fails
pub last_fault : (reader : TextMachine) (text : List ℕ) (at : IsAt reader text) (stop : Stop PyxFault)
    → reader.over ≡ false → 0 < length reader.line.items
    → ((rest : EventsOrFault) → IsStopOf stop
    (goes_on (fault_of at.before (line_of reader.line.items)) (reader.number + 1) rest))
    → IsStopOf stop (reading text)
last_fault reader text at stop inside some bad =
    let number = reader.number + 1 in
    let same =
    at_end reader text at inside
    ∙ ap (λ lines. reads reader.number at.before lines) (lines-last reader.left reader.line.items some) in
    subst (IsStopOf stop) (sym same) (bad (ends number (after number at.before (line_of reader.line.items))))

-- the nodes of a text that was read to its end
pub read-nodes : (text : List ℕ) (events : List Event) (nodes : List Node) → reading text ≡ Ok events
    → nodes ≡ (made_by (settled events)).nodes → AreRead nodes text
read-nodes text events nodes read is =
    let stands = stands_for_read text events read in
    let same : stands.events ≡ events = cc (stands.read, read) in (
      built events [] (End ∷ []),
      stands,
      is ∙ ap (λ es. (made_by (settled es)).nodes) (sym same)
          ∙ tree-made (built events [] (End ∷ [])) stands.events stands.written stands.one stands.same,
    )

-- a piece whose front tells a fault
pub front_told : (text front back piece rest : List ℕ) (b : ℕ) (stop : Stop PyxFault) → piece ≡ front ++ b ∷ back
    → ((behind : List ℕ) → IsTold stop (((text ++ front) ++ b ∷ []) ++ behind))
    → IsTold stop ((text ++ piece) ++ rest)
front_told text front back piece rest b stop is bad =
    let whole : (text ++ piece) ++ rest ≡ ((text ++ front) ++ b ∷ []) ++ (back ++ rest) = rw is (simp append_assoc) in
    subst (IsTold stop) (sym whole) (bad (back ++ rest))

-- No fault is told

quiet_on : (over : Bool) (left number : ℕ) (line : List ℕ) (before : List Event) (fault : PyxFault)
    → read_on over left line number before [] ≡ Err fault → is_of_line fault.code ≡ true → number < fault.line
quiet_on true left number line before fault e is =
    let same : number + 1 ≡ fault.line = cc in
    omega arith
quiet_on false left number [] before fault e is =
    let at_end : ends number before ≡ Err fault =
    ap (λ lines. reads number before lines) (sym (lines-none left [] refl)) ∙ e in
    absurd (let other = ends_fault number before fault at_end in cc)
quiet_on false left number (b ∷ line) before fault e is =
    let said = line_of (b ∷ line) in
    let next = ends (number + 1) (after (number + 1) before said) in
    let last : goes_on (fault_of before said) (number + 1) next ≡ Err fault =
    ap (λ lines. reads number before lines) (sym (lines-last left (b ∷ line) (omega arith))) ∙ e in
    last_line (fault_of before said) number next fault last
    (λ at_end. ends_fault (number + 1) (after (number + 1) before said) fault at_end) is

pub quiet : (machine : TextMachine) (text : List ℕ) → IsAt machine text → (fault : PyxFault) → TellsFault text fault → ⊥
quiet machine text at fault told =
    let read : reading (text ++ []) ≡ Err fault = ap reading (append-nil text) ∙ told.first in
    let late = quiet_on machine.over machine.left machine.number machine.line.items at.before fault
    (sym (at.same []) ∙ read) told.line in
    omega (arith, late, told.ended, at.ended)
