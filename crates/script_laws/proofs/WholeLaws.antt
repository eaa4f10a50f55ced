-- Whole scripts: the lines of a text are the text again, perhaps with one LF more, and an empty line at the end says
-- nothing.
use Rattle.std.specs.Prelude.{◌≡◌, ◌≤◌, ◌+◌, ◌==◌, ◌⊎◌, ◌++◌, ℕ, Bool, true, false, List, [], ◌∷◌, Option, Some, None, Result, Ok, Err, length, take, if◌then◌else◌}
use Rattle.std.specs.List.{flat_map}
use Rattle.std.specs.Str.{is_utf8}
use Rattle.std.proofs.Common.{refl, sym, ap, ◌∙◌, arith, inl, inr, length-append}
use Rattle.std.proofs.lemmas.Bool.{eqb-true, le-ltb}
use Rattle.std.proofs.lemmas.List.{take_all}
use Rattle.std.proofs.lemmas.Str.{IsUtf8-nil, is_utf8-from_IsUtf8}
use Rattle.dita_doc.specs.Bytes.{line_feed, onto_first}
use Rattle.dita_doc.specs.Lines.{line, lines_of}
use Rattle.dita_doc.proofs.LinesLaws.{lines_lack}
use Rattle.script_text.specs.declared.fault.ScriptCode.{ScriptCode}
use Rattle.script_text.specs.declared.fault.ScriptFault.{ScriptFault}
use Rattle.script_text.specs.Script.{script_limit, request_limit, script_line, Step, Begun, InPut, InGroup, InGroupPut, with_line, Turn, goes_on, turn_within, turn, count_after, then_steps, steps_from, script_of}
use Rattle.script_text.proofs.StepLaws.{steps_led, led_by}
use Rattle.script_text.proofs.ScriptLaws.{script_few, script_edits, script_short}
use Rattle.script_laws.specs.Blocks.{step_of, IsScriptOf}
use Rattle.script_laws.proofs.BlocksSaid.{lines_said}
use Rattle.script_laws.proofs.BlocksRead.{turn_utf8, blocks_told}

-- Lines as a text

abbrev IsTextAgain : List ℕ → List (List ℕ) → Type 0
IsTextAgain bytes lines = (bytes ≡ flat_map line lines) ⊎ (bytes ++ line_feed ∷ [] ≡ flat_map line lines)

-- a byte in front of the first line, if there is one
onto_again : (b : ℕ) (bytes : List ℕ) (lines : List (List ℕ)) → IsTextAgain bytes lines
    → IsTextAgain (b ∷ bytes) (onto_first b lines)
onto_again b bytes [] (inl e) = inr (ap (λ (rest : List ℕ). (b ∷ rest) ++ line_feed ∷ []) e)
onto_again b bytes [] (inr e) = absurd (omega (arith, length-append bytes (line_feed ∷ []), ap length e))
onto_again b bytes (first ∷ lines) (inl e) = inl (ap (λ (rest : List ℕ). b ∷ rest) e)
onto_again b bytes (first ∷ lines) (inr e) = inr (ap (λ (rest : List ℕ). b ∷ rest) e)

again_by : (b : ℕ) (bytes : List ℕ) (feed : Bool) → (b == line_feed) ≡ feed → IsTextAgain bytes (lines_of bytes)
    → IsTextAgain (b ∷ bytes) (if feed then [] ∷ lines_of bytes else onto_first b (lines_of bytes))
again_by b bytes true e (inl is) = let same : b ≡ line_feed = eqb-true b line_feed e in inl cc
again_by b bytes true e (inr is) = let same : b ≡ line_feed = eqb-true b line_feed e in inr cc
again_by b bytes false e is = onto_again b bytes (lines_of bytes) is

-- the lines of bytes are these, or these and one LF
text_again : (bytes : List ℕ) → IsTextAgain bytes (lines_of bytes)
text_again [] = inl refl
text_again (b ∷ bytes) = again_by b bytes (b == line_feed) refl (text_again bytes)

-- One LF more at the end

abbrev HasEnd : List (List ℕ) → List (List ℕ) → Type 0
HasEnd lines more = (more ≡ lines) ⊎ (more ≡ lines ++ [] ∷ [])

onto_end : (b : ℕ) (lines more : List (List ℕ)) → HasEnd lines more → HasEnd (onto_first b lines) (onto_first b more)
onto_end b lines more (inl e) = inl (ap (onto_first b) e)
onto_end b [] more (inr e) = inl (ap (onto_first b) e)
onto_end b (first ∷ lines) more (inr e) = inr (ap (onto_first b) e)

end_by : (b : ℕ) (lines more : List (List ℕ)) (feed : Bool) → HasEnd lines more
    → HasEnd (if feed then [] ∷ lines else onto_first b lines) (if feed then [] ∷ more else onto_first b more)
end_by b lines more true (inl e) = inl (ap (λ (rest : List (List ℕ)). [] ∷ rest) e)
end_by b lines more true (inr e) = inr (ap (λ (rest : List (List ℕ)). [] ∷ rest) e)
end_by b lines more false is = onto_end b lines more is

-- it ends the last line, or is an empty line
has_end : (bytes : List ℕ) → HasEnd (lines_of bytes) (lines_of (bytes ++ line_feed ∷ []))
has_end [] = inr refl
has_end (b ∷ bytes) =
    end_by b (lines_of bytes) (lines_of (bytes ++ line_feed ∷ [])) (b == line_feed) (has_end bytes)

-- if the steps of some lines are those of others, they are behind one line more
then_other : (step : Option Step) (told other : Result (List Step) ScriptFault) (steps : List Step)
    → ((more : List Step) → told ≡ Ok more → other ≡ Ok more) → then_steps step told ≡ Ok steps
    → then_steps step other ≡ Ok steps
then_other step (Ok more) other steps same e = ap (then_steps step) (same more refl) ∙ e
then_other step (Err fault) other steps same e = absurd cc

-- the steps of these lines are known if they are with an empty line behind
abbrev EndsAlike : List (List ℕ) → Type 0
EndsAlike lines = (number count : ℕ) (begun : Option Begun) (steps : List Step)
    → steps_from script_line false number count begun (lines ++ [] ∷ []) ≡ Ok steps
    → steps_from script_line false number count begun lines ≡ Ok steps

led_alike : (number count : ℕ) (lines : List (List ℕ)) (turned : Result Turn ScriptCode) (steps : List Step)
    → EndsAlike lines
    → led_by script_line false false number count (lines ++ [] ∷ []) turned ≡ Ok steps
    → led_by script_line false false number count lines turned ≡ Ok steps
led_alike number count lines (Ok next) steps alike e =
    let after : ℕ = count_after count next.step in
    then_other next.step (steps_from script_line false (number + 1) after next.begun (lines ++ [] ∷ []))
    (steps_from script_line false (number + 1) after next.begun lines) steps
    (λ more told. alike (number + 1) after next.begun more told) e
led_alike number count lines (Err code) steps alike e = absurd cc

empty_utf8 : is_utf8 [] ≡ true
empty_utf8 = is_utf8-from_IsUtf8 [] IsUtf8-nil

-- an empty line ends nothing that has begun
abbrev behind_empty : Begun → Begun
behind_empty (InPut session put) = InPut session (with_line put [])
behind_empty (InGroup session edits) = InGroup session edits
behind_empty (InGroupPut session edits put) = InGroupPut session edits (with_line put [])

empty_within : (begun : Begun) → turn_within begun [] ≡ Ok (goes_on (Some (behind_empty begun)))
empty_within (InPut session put) = refl
empty_within (InGroup session edits) = refl
empty_within (InGroupPut session edits put) = refl

ends_alike : (lines : List (List ℕ)) → EndsAlike lines
ends_alike [] number count None steps e =
    let is = turn_utf8 count None [] (goes_on None) empty_utf8 refl in
    sym (steps_led script_line false number count None [] [] ∙ ap (led_by script_line false false number count []) is)
    ∙ e
ends_alike [] number count (Some begun) steps e =
    let is = turn_utf8 count (Some begun) [] (goes_on (Some (behind_empty begun))) empty_utf8 (empty_within begun) in
    let none = sym (steps_led script_line false number count (Some begun) [] []
    ∙ ap (led_by script_line false false number count []) is) ∙ e in
    absurd cc
ends_alike (text ∷ lines) number count begun steps e =
    steps_led script_line false number count begun text lines
    ∙ led_alike number count lines (turn script_line count begun text) steps (ends_alike lines)
    (sym (steps_led script_line false number count begun text (lines ++ [] ∷ [])) ∙ e)

end_told : (lines more : List (List ℕ)) (steps : List Step) → HasEnd lines more
    → steps_from script_line false 0 0 None more ≡ Ok steps → steps_from script_line false 0 0 None lines ≡ Ok steps
end_told lines more steps (inl e) told = ap (steps_from script_line false 0 0 None) (sym e) ∙ told
end_told lines more steps (inr e) told =
    ends_alike lines 0 0 None steps (ap (steps_from script_line false 0 0 None) (sym e) ∙ told)

-- so the last LF may be missing
text_told : (bytes text : List ℕ) (steps : List Step) → (bytes ≡ text) ⊎ (bytes ++ line_feed ∷ [] ≡ text)
    → steps_from script_line false 0 0 None (lines_of text) ≡ Ok steps
    → steps_from script_line false 0 0 None (lines_of bytes) ≡ Ok steps
text_told bytes text steps (inl e) told =
    ap (λ (all : List ℕ). steps_from script_line false 0 0 None (lines_of all)) e ∙ told
text_told bytes text steps (inr e) told =
    end_told (lines_of bytes) (lines_of (bytes ++ line_feed ∷ [])) steps (has_end bytes)
    (ap (λ (all : List ℕ). steps_from script_line false 0 0 None (lines_of all)) e ∙ told)

-- Scripts

-- the steps of a short text are those of its lines
script_is : (bytes : List ℕ) → length bytes ≤ script_limit
    → script_of bytes ≡ steps_from script_line false 0 0 None (lines_of bytes)
unfolding script_of
script_is bytes short =
    ap (λ long. steps_from script_line long 0 0 None (lines_of (take (script_limit + 1) bytes)))
    (le-ltb script_limit (length bytes) short)
    ∙ ap (λ (text : List ℕ). steps_from script_line false 0 0 None (lines_of text))
    (take_all (script_limit + 1) bytes (omega arith))

-- what is read of bytes is what they are a script of
pub script_said : (bytes : List ℕ) (steps : List Step) → script_of bytes ≡ Ok steps → IsScriptOf steps bytes
script_said bytes steps e =
    let short = script_short bytes steps e in
    let few = script_edits bytes steps e in
    let are = lines_said false (lines_of bytes) steps (lines_lack bytes) few (sym (script_is bytes short) ∙ e) in
    record {
      blocks = are.blocks;
      asked = are.asked;
      text = flat_map line (lines_of bytes);
      printed = are.printed;
      is = text_again bytes;
      few = script_few bytes steps e;
      short = short;
    }

-- and a script is read as its steps
pub script_read : (bytes : List ℕ) (steps : List Step) → IsScriptOf steps bytes → script_of bytes ≡ Ok steps
script_read bytes steps script =
    let room : 0 + length (flat_map step_of script.blocks) ≤ request_limit =
    omega (arith, script.few, ap length script.asked) in
    let told = blocks_told script.blocks 0 script.text script.printed room 0
    ∙ ap (λ (all : List Step). Ok all) (sym script.asked) in
    script_is bytes script.short ∙ text_told bytes script.text steps script.is told
