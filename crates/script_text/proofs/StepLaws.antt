-- The steps of lines, one line after the other.
use Rattle.std.specs.Prelude.{◌≡◌, ◌+◌, ◌&&◌, ℕ, Bool, true, false, List, [], ◌∷◌, ◌++◌, Option, Some, None, Result, Ok, Err, min, length, take, nat_lt, if◌then◌else◌, is_some}
use Rattle.std.specs.Option.{option_to_list}
use Rattle.std.specs.Str.{IsUtf8, is_utf8}
use Rattle.std.proofs.Common.{refl, sym, ◌∙◌, ap, subst, arith, append_assoc, append-nil}
use Rattle.std.proofs.lemmas.List.{take_min}
use Rattle.std.proofs.lemmas.Str.{IsUtf8-from_is_utf8, is_utf8-from_IsUtf8}
use Rattle.dita_doc.specs.Gives.{GivesSeen}
use Rattle.dita_doc.specs.Lines.{lines_of}
use Rattle.dita_doc.specs.declared.stop.Stop.{Stop}
use Rattle.dita_doc.specs.declared.stop.Stop.TheVariants.{Fault, NoMemory}
use Rattle.script_text.specs.Read.{at_line}
use Rattle.script_text.specs.declared.fault.ScriptCode.{ScriptCode}
use Rattle.script_text.specs.declared.fault.ScriptCode.TheVariants as faults
use Rattle.script_text.specs.declared.fault.ScriptFault.{ScriptFault}
use Rattle.script_text.specs.Script.{script_limit, LineReading, script_line, Begun, Step, Turn, turn, turn_of_text, count_after, then_steps, is_no_line, steps_from, script_of}

-- Turns

-- what is given of a text is given of the line that it is
pub turn_text : {A : Type 0} (see : A → Turn) (result : Result A (Stop ScriptCode))
    (reads : LineReading) (count : ℕ) (begun : Option Begun) (text line : List ℕ)
    → (text ≡ line) × IsUtf8 line
    → GivesSeen see result (turn_of_text reads count begun text) → GivesSeen see result (turn reads count begun line)
turn_text see result reads count begun text line is given =
    let same : turn_of_text reads count begun text ≡ turn reads count begun line =
    rw (is.0, is_utf8-from_IsUtf8 line is.1)
    in
    subst (GivesSeen see result) same given

turn_by : (reads : LineReading) (count : ℕ) (begun : Option Begun) (line : List ℕ) (test : Bool) → is_utf8 line ≡ test
    → (IsUtf8 line → ⊥) → turn reads count begun line ≡ Err faults.NotUtf8
turn_by reads count begun line true e none = absurd (none (IsUtf8-from_is_utf8 line e))
turn_by reads count begun line false e none = rw e

-- and bytes that are no text are a fault
pub turn_bytes : (reads : LineReading) (count : ℕ) (begun : Option Begun) (line : List ℕ) → (IsUtf8 line → ⊥)
    → turn reads count begun line ≡ Err faults.NotUtf8
turn_bytes reads count begun line none = turn_by reads count begun line (is_utf8 line) refl none

-- Steps

-- steps before those that follow, or the fault
abbrev pub after_steps : List Step → Result (List Step) ScriptFault → Result (List Step) ScriptFault
after_steps front (Ok more) = Ok (front ++ more)
after_steps front (Err fault) = Err fault

-- the step of one more line at the end of those before
after_one : (front : List Step) (step : Option Step) (told : Result (List Step) ScriptFault)
    → after_steps front (then_steps step told) ≡ after_steps (front ++ option_to_list step) told
after_one front step (Ok more) = ap (λ (all : List Step). Ok all) (sym (append_assoc front (option_to_list step) more))
after_one front step (Err fault) = refl

module _ (reads : LineReading) (long : Bool) where
  -- what lines say behind one that leads here
  abbrev led : ℕ → ℕ → List (List ℕ) → Result Turn ScriptCode → Result (List Step) ScriptFault
  led number count lines (Ok next) =
      then_steps next.step (steps_from reads long (number + 1) (count_after count next.step) next.begun lines)
  led number count lines (Err code) = Err (record { code = code; line = number + 1 })

  abbrev pub led_by : Bool → ℕ → ℕ → List (List ℕ) → Result Turn ScriptCode → Result (List Step) ScriptFault
  led_by last number count lines turned =
      if last then Err (record { code = faults.TooLong; line = number + 1 }) else led number count lines turned

  pub steps_led : (number count : ℕ) (begun : Option Begun) (line : List ℕ) (lines : List (List ℕ))
      → steps_from reads long number count begun (line ∷ lines)
      ≡ led_by (long && is_no_line lines) number count lines (turn reads count begun line)
  steps_led number count None line lines = refl
  steps_led number count (Some begun) line lines = refl

  line_led : (number count : ℕ) (begun : Option Begun) (line : List ℕ) (lines : List (List ℕ)) (next : Turn)
      → false ≡ (long && is_no_line lines) → turn reads count begun line ≡ Ok next
      → steps_from reads long number count begun (line ∷ lines) ≡ led number count lines (Ok next)
  line_led number count begun line lines next last is =
      steps_led number count begun line lines
      ∙ ap (λ test. led_by test number count lines (turn reads count begun line)) (sym last)
      ∙ ap (led number count lines) is

  -- what was told before a line is told behind it, if it leads here
  pub line_read : (number count : ℕ) (begun : Option Begun) (line : List ℕ) (all lines : List (List ℕ))
      (front : List Step) (told : Result (List Step) ScriptFault) (next : Turn)
      → told ≡ after_steps front (steps_from reads long number count begun all) → all ≡ line ∷ lines
      → false ≡ (long && is_no_line lines) → turn reads count begun line ≡ Ok next
      → told ≡ after_steps (front ++ option_to_list next.step)
      (steps_from reads long (number + 1) (count_after count next.step) next.begun lines)
  line_read number count begun line all lines front told next e first last is =
      e ∙ ap (λ lines. after_steps front (steps_from reads long number count begun lines)) first
      ∙ ap (after_steps front) (line_led number count begun line lines next last is)
      ∙ after_one front next.step
      (steps_from reads long (number + 1) (count_after count next.step) next.begun lines)

  -- before a line, what was told is what is told by it
  line_next : (number count : ℕ) (begun : Option Begun) (line : List ℕ) (all lines : List (List ℕ)) (front : List Step)
      (told : Result (List Step) ScriptFault) (last : Bool)
      → told ≡ after_steps front (steps_from reads long number count begun all) → all ≡ line ∷ lines
      → last ≡ (long && is_no_line lines)
      → told ≡ after_steps front (led_by last number count lines (turn reads count begun line))
  line_next number count begun line all lines front told last e first is =
      e ∙ ap (λ lines. after_steps front (steps_from reads long number count begun lines)) first
      ∙ ap (after_steps front) (steps_led number count begun line lines)
      ∙ ap (λ test. after_steps front (led_by test number count lines (turn reads count begun line))) (sym is)

  -- the last line of a text that is too long is a fault
  pub line_long : (number count : ℕ) (begun : Option Begun) (line : List ℕ) (all lines : List (List ℕ))
      (front : List Step) (told : Result (List Step) ScriptFault)
      → told ≡ after_steps front (steps_from reads long number count begun all) → all ≡ line ∷ lines
      → true ≡ (long && is_no_line lines) → told ≡ Err (record { code = faults.TooLong; line = number + 1 })
  line_long number count begun line all lines front told e first last =
      line_next number count begun line all lines front told true e first last

  -- a line that stops the reading
  pub line_stopped : {A B : Type 0} (turns : A → Turn) (sees : B → List Step) (number count : ℕ) (begun : Option Begun)
      (line : List ℕ) (all lines : List (List ℕ)) (front : List Step) (told : Result (List Step) ScriptFault)
      (stop : Stop ScriptCode)
      → told ≡ after_steps front (steps_from reads long number count begun all) → all ≡ line ∷ lines
      → false ≡ (long && is_no_line lines) → GivesSeen turns (Err stop) (turn reads count begun line)
      → GivesSeen sees (Err (at_line stop (number + 1))) told
  line_stopped turns sees number count begun line all lines front told (Fault code) e first last is =
      line_next number count begun line all lines front told false e first last
      ∙ ap (λ turned. after_steps front (led number count lines turned)) is
  line_stopped turns sees number count begun line all lines front told NoMemory e first last is = tt

  -- behind the last line
  pub end_within : (number count : ℕ) (begun : Option Begun) (rest : List ℕ) (front : List Step)
      (told : Result (List Step) ScriptFault)
      → told ≡ after_steps front (steps_from reads long number count begun (lines_of rest)) → rest ≡ []
      → true ≡ is_some begun → told ≡ Err (record { code = faults.NoEnd; line = number })
  end_within number count None rest front told e none some = absurd cc
  end_within number count (Some begun) rest front told e none some = rw none at e

  pub end_outside : (number count : ℕ) (begun : Option Begun) (rest : List ℕ) (front : List Step)
      (told : Result (List Step) ScriptFault)
      → told ≡ after_steps front (steps_from reads long number count begun (lines_of rest)) → rest ≡ []
      → false ≡ is_some begun → told ≡ Ok front
  end_outside number count None rest front told e none some =
      (rw none at e) ∙ ap (λ (steps : List Step). Ok steps) (append-nil front)
  end_outside number count (Some begun) rest front told e none some = absurd cc

-- Scripts

-- the steps of a text that is cut behind the limit, where it is longer, are those of the script
pub script_cut : (bytes : List ℕ) (end : ℕ) → end ≡ min (length bytes) (script_limit + 1)
    → steps_from script_line (nat_lt script_limit (length bytes)) 0 0 None (lines_of (take end bytes)) ≡ script_of bytes
unfolding script_of
script_cut bytes end e =
    let other : end ≡ min (script_limit + 1) (length bytes) = omega arith in
    let cut : take end bytes ≡ take (script_limit + 1) bytes = rw (other, take_min (script_limit + 1) bytes) in
    ap (λ text. steps_from script_line (nat_lt script_limit (length bytes)) 0 0 None (lines_of text)) cut
