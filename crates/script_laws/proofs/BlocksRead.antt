-- Printed blocks are read as the steps that they ask.
use Rattle.std.specs.Prelude.{◌≡◌, ◌≢◌, ◌<◌, ◌≤◌, ◌+◌, ◌==◌, ◌⊎◌, ◌++◌, ℕ, Bool, true, false, List, [], ◌∷◌, Option, Some, None, Result, Ok, Err, length, codes, slice_index, if◌then◌else◌}
use Rattle.std.specs.List.{All, flat_map, list_all}
use Rattle.std.specs.Option.{option_to_list}
use Rattle.std.specs.Str.{is_utf8}
use Rattle.std.proofs.Common.{refl, sym, ap, ◌∙◌, subst, arith, inl, inr, append-nil, append_assoc, length-append}
use Rattle.std.proofs.lemmas.Bool.{or_left, or_right}
use Rattle.std.proofs.lemmas.List.Elements.{All-head, All-tail}
use Rattle.std.proofs.lemmas.Str.{IsUtf8-from_ascii, is_utf8-from_IsUtf8}
use Rattle.std.proofs.lemmas.Str.Ascii.{IsAscii-cons, IsAscii-nil}
use Rattle.dita_doc.specs.Bytes.{line_feed, number_sign, is_gap, spaced_words}
use Rattle.dita_doc.specs.Cut.{Lacks}
use Rattle.dita_doc.specs.Lines.{line, lines_of}
use Rattle.dita_doc.specs.Request.{Edit, Put, PutIf, Remove, Request, Single, Get, Names, Build, Group, edit_limit}
use Rattle.dita_doc.proofs.LinesLaws.{lines_after}
use Rattle.dita_doc.proofs.Tests.{other_text}
use Rattle.script_text.specs.declared.fault.ScriptCode.{ScriptCode}
use Rattle.script_text.specs.declared.fault.ScriptCode.TheVariants as faults
use Rattle.script_text.specs.Script.{request_limit, Opening, PutOf, PutIfOf, with_body, EditCommand, WholeEdit, OpensBody, edit_of, asked_by, is_passed, script_line, edit_counted, edit_line, Step, OpenPut, Begun, InPut, InGroup, InGroupPut, open_body, whole_edit, with_line, Turn, goes_on, ends, is_body_end, turn_edit, turn_within, turn_outside, turn_of_text, turn, count_after, then_steps, steps_from}
use Rattle.script_text.proofs.StepLaws.{steps_led, led_by}
use Rattle.script_text.proofs.ScriptTurns.{step_of}
use Rattle.script_laws.specs.Blocks as blocks_spec
use Rattle.script_laws.specs.Blocks.{IsLineOfEdit, IsLineOfStep, IsBodyLine, IsBody, IsBehindEdit, IsBehind, Item, Blank, Does, AreItems, edits_of, Block, Passed, Asks, IsTextOf, AreTextOf}
use Rattle.script_laws.proofs.LinesRead.{edit_lacks, step_lacks, edit_line_told, step_told}
use Rattle.script_laws.proofs.RestLaws.{edit_with, group_with, edit_whole, edit_more, group_more}

-- the lines of a text say these steps, whatever their numbers
abbrev pub AreTold : ℕ → Option Begun → List ℕ → List Step → Type 0
AreTold count begun text steps =
    (number : ℕ) → steps_from script_line false number count begun (lines_of text) ≡ Ok steps

told_same : (count : ℕ) (begun : Option Begun) (text other : List ℕ) (steps others : List Step)
    → other ≡ text → steps ≡ others → AreTold count begun text steps → AreTold count begun other others
told_same count begun text other steps others e f told number =
    ap (λ (all : List ℕ). steps_from script_line false number count begun (lines_of all)) e ∙ told number
    ∙ ap (λ (all : List Step). Ok all) f

-- One line

-- a line is the first of what it begins
line_first : (text rest : List ℕ) → Lacks line_feed text → lines_of (line text ++ rest) ≡ text ∷ lines_of rest
line_first text rest lacks = ap lines_of (append_assoc text (line_feed ∷ []) rest) ∙ lines_after text rest lacks

told_line : (count : ℕ) (begun : Option Begun) (text rest : List ℕ) (next : Turn) (steps : List Step)
    → Lacks line_feed text → turn script_line count begun text ≡ Ok next
    → AreTold (count_after count next.step) next.begun rest steps
    → AreTold count begun (line text ++ rest) (option_to_list next.step ++ steps)
told_line count begun text rest next steps lacks is behind number =
    ap (steps_from script_line false number count begun) (line_first text rest lacks)
    ∙ steps_led script_line false number count begun text (lines_of rest)
    ∙ ap (led_by script_line false false number count (lines_of rest)) is
    ∙ ap (then_steps next.step) (behind (number + 1))

-- a line of UTF-8
pub turn_utf8 : (count : ℕ) (begun : Option Begun) (text : List ℕ) (next : Turn) → is_utf8 text ≡ true
    → turn_of_text script_line count begun text ≡ Ok next → turn script_line count begun text ≡ Ok next
turn_utf8 count begun text next utf8 e =
    ap (λ (test : Bool). if test then turn_of_text script_line count begun text else Err faults.NotUtf8) utf8 ∙ e

-- Bodies

dot_utf8 : is_utf8 (codes ".") ≡ true
dot_utf8 =
    is_utf8-from_IsUtf8 (codes ".") (IsUtf8-from_ascii (codes ".") (IsAscii-cons 46 [] (omega arith) IsAscii-nil))

-- by a test, the edit that the line of a put's body ends, or the put with this line
abbrev put_turn : (OpenPut → Begun) → (Edit → Turn) → OpenPut → List ℕ → Bool → Result Turn ScriptCode
put_turn held done put text ends =
    if ends then Ok (done (whole_edit put)) else Ok (goes_on (Some (held (with_line put text))))

-- a put, alone or in a group, is read line by line up to the line that ends its body
module _ (held : OpenPut → Begun) (done : Edit → Turn) (within : (put : OpenPut) (text : List ℕ)
    → turn_within (held put) text ≡ put_turn held done put text (is_body_end text)) where
  -- the lines of a body and the line that ends it, behind which this edit is whole
  body_told : (count : ℕ) (put : OpenPut) (edit : Edit) (body : List (List ℕ)) (back : List ℕ) (steps : List Step)
      → edit ≡ edit_with put (flat_map line body) → All IsBodyLine body
      → AreTold (count_after count (done edit).step) (done edit).begun back steps
      → AreTold count (Some (held put)) (flat_map line body ++ line (codes ".") ++ back)
      (option_to_list (done edit).step ++ steps)
  body_told count put edit [] back steps e all behind =
      let is : turn_within (held put) (codes ".") ≡ Ok (done edit) =
      within put (codes ".") ∙ ap (λ (edit : Edit). Ok (done edit)) (sym (e ∙ edit_whole put)) in
      told_line count (Some (held put)) (codes ".") back (done edit) steps refl
      (turn_utf8 count (Some (held put)) (codes ".") (done edit) dot_utf8 is) behind
  body_told count put edit (text ∷ body) back steps e all behind =
      let more : List ℕ = flat_map line body in
      let rest : List ℕ = more ++ line (codes ".") ++ back in
      let first = All-head IsBodyLine text body all in
      let next : Turn = goes_on (Some (held (with_line put text))) in
      let told = body_told count (with_line put text) edit body back steps (e ∙ sym (edit_more put text more))
      (All-tail IsBodyLine text body all) behind in
      let whole : line text ++ more ++ line (codes ".") ++ back ≡ line text ++ rest = simp append_assoc refl in
      let all_steps : List Step = option_to_list (done edit).step ++ steps in
      told_same count (Some (held put)) (line text ++ rest) (line text ++ more ++ line (codes ".") ++ back)
      all_steps all_steps whole refl
      (told_line count (Some (held put)) text rest next all_steps first.on_line.one
      (turn_utf8 count (Some (held put)) text next first.on_line.utf8
      (within put text ∙ ap (put_turn held done put text) (other_text text (codes ".") first.other))) told)

  -- so with a body
  put_told : (count : ℕ) (opening : Opening) (body behind back : List ℕ) (steps : List Step) → IsBody body behind
      → (let next : Turn = done (with_body opening body) in
      AreTold (count_after count next.step) next.begun back steps
      → AreTold count (Some (held (open_body opening))) (behind ++ back) (option_to_list next.step ++ steps))
  put_told count opening body behind back steps has told =
      let edit : Edit = with_body opening body in
      let more : List ℕ = flat_map line has.lines in
      let ended_by : behind ≡ more ++ line (codes ".") =
      has.ended ∙ ap (λ (all : List ℕ). all ++ line (codes ".")) has.is in
      let all_steps : List Step = option_to_list (done edit).step ++ steps in
      told_same count (Some (held (open_body opening))) (more ++ line (codes ".") ++ back) (behind ++ back)
      all_steps all_steps (ap (λ (all : List ℕ). all ++ back) ended_by) refl
      (body_told count (open_body opening) edit has.lines back steps
      (ap (with_body opening) has.is) has.each told)

-- Lines that are passed over

passed_by : (text : List ℕ) → (list_all is_gap text ≡ true) ⊎ ((rest : List ℕ) × (text ≡ number_sign ∷ rest))
    → is_passed text ≡ true
passed_by text (inl e) = or_left (list_all is_gap text) (slice_index text 0 == number_sign) e
passed_by text (inr is) =
    let first : (slice_index text 0 == number_sign) ≡ true =
    ap (λ (all : List ℕ). slice_index all 0 == number_sign) is.1 in
    or_right (list_all is_gap text) (slice_index text 0 == number_sign) first

passed_turn : (count : ℕ) (text : List ℕ) → blocks_spec.IsPassed text
    → turn script_line count None text ≡ Ok (goes_on None)
passed_turn count text is =
    let passed : is_passed text ≡ true = passed_by text is.empty in
    turn_utf8 count None text (goes_on None) is.on_line.utf8
    (ap (λ (test : Bool). turn_outside (if test then Ok None else asked_by count (spaced_words text))) passed)

-- Groups

end_utf8 : is_utf8 (codes "end") ≡ true
end_utf8 =
    is_utf8-from_IsUtf8 (codes "end") (IsUtf8-from_ascii (codes "end") (IsAscii-cons 101 (codes "nd") (omega arith)
    (IsAscii-cons 110 (codes "d") (omega arith) (IsAscii-cons 100 [] (omega arith) IsAscii-nil))))

module _ (count session : ℕ) where
  -- a line of a group that does not end it
  group_turn : (edits : List Edit) (text : List ℕ) (found : Option EditCommand) (next : Turn) → is_utf8 text ≡ true
      → text ≢ codes "end" → edit_line (length edits) text ≡ Ok found
      → turn_edit session edits (Ok found) ≡ Ok next
      → turn script_line count (Some (InGroup session edits)) text ≡ Ok next
  group_turn edits text found next utf8 other read leads =
      turn_utf8 count (Some (InGroup session edits)) text next utf8
      (ap (λ (test : Bool). if test then Ok (ends session (Group edits))
      else turn_edit session edits (edit_line (length edits) text)) (other_text text (codes "end") other)
      ∙ ap (turn_edit session edits) read ∙ leads)

  -- the word `end` is neither passed over nor an edit
  passed_other : (text : List ℕ) → is_passed text ≡ true → text ≢ codes "end"
  passed_other text passed same =
      let no : is_passed (codes "end") ≡ true = ap is_passed (sym same) ∙ passed in absurd cc

  passed_read : (edits : List Edit) (text : List ℕ) → is_passed text ≡ true → edit_line (length edits) text ≡ Ok None
  passed_read edits text passed =
      ap (λ (test : Bool). if test then Ok None else edit_counted (length edits) (edit_of (spaced_words text))) passed

  edit_other : (edit : EditCommand) (text : List ℕ) → edit_line 0 text ≡ Ok (Some edit) → text ≢ codes "end"
  edit_other edit text read same =
      let no : edit_line 0 (codes "end") ≡ Ok (Some edit) = ap (edit_line 0) (sym same) ∙ read in absurd cc

  blank_turn : (edits : List Edit) (text : List ℕ) → blocks_spec.IsPassed text
      → turn script_line count (Some (InGroup session edits)) text ≡ Ok (goes_on (Some (InGroup session edits)))
  blank_turn edits text is =
      let passed : is_passed text ≡ true = passed_by text is.empty in
      group_turn edits text None (goes_on (Some (InGroup session edits))) is.on_line.utf8 (passed_other text passed)
      (passed_read edits text passed) refl

  edit_turn : (edits : List Edit) (edit : Edit) (found : EditCommand) (text : List ℕ) (next : Turn)
      → length edits < edit_limit → IsLineOfEdit edit text
      → ((room : ℕ) → room < edit_limit → edit_line room text ≡ Ok (Some found))
      → turn_edit session edits (Ok (Some found)) ≡ Ok next
      → turn script_line count (Some (InGroup session edits)) text ≡ Ok next
  edit_turn edits edit found text next room is read leads =
      group_turn edits text (Some found) next is.utf8 (edit_other found text (read 0 (omega arith)))
      (read (length edits) room) leads

  put_in : (edits : List Edit) (opening : Opening) (body head behind back : List ℕ) (steps : List Step)
      → length edits < edit_limit → IsLineOfEdit (with_body opening body) head
      → ((n : ℕ) → n < edit_limit → edit_line n head ≡ Ok (Some (OpensBody opening))) → IsBody body behind
      → AreTold count (Some (InGroup session (edits ++ with_body opening body ∷ []))) back steps
      → AreTold count (Some (InGroup session edits)) (line head ++ behind ++ back) steps
  put_in edits opening body head behind back steps room is read has told =
      let next : Turn = goes_on (Some (InGroupPut session edits (open_body opening))) in
      let held : OpenPut → Begun = λ put. InGroupPut session edits put in
      let done : Edit → Turn = λ edit. goes_on (Some (InGroup session (edits ++ edit ∷ []))) in
      let rest = put_told held done (λ put text. refl) count opening body behind back steps has told in
      told_same count (Some (InGroup session edits)) (line head ++ (behind ++ back)) (line head ++ behind ++ back)
      steps steps (append_assoc (line head) behind back) refl
      (told_line count (Some (InGroup session edits)) head (behind ++ back) next steps
      (edit_lacks (with_body opening body) head is)
      (edit_turn edits (with_body opening body) (OpensBody opening) head next room is read refl) rest)

  -- an edit in a group, with what stands behind its line, if what follows is read as these steps
  does_told : (edits : List Edit) (edit : Edit) (head behind back : List ℕ) (steps : List Step)
      → length edits < edit_limit → IsLineOfEdit edit head → IsBehindEdit edit behind
      → AreTold count (Some (InGroup session (edits ++ edit ∷ []))) back steps
      → AreTold count (Some (InGroup session edits)) (line head ++ behind ++ back) steps
  does_told edits (Put name body) head behind back steps room is has told =
      put_in edits (PutOf name) body head behind back steps room is (λ n few. edit_line_told n _ head few is) has told
  does_told edits (PutIf version name body) head behind back steps room is has told =
      put_in edits (PutIfOf version name) body head behind back steps room is (λ n few. edit_line_told n _ head few is)
      has told
  does_told edits (Remove name) head behind back steps room is none told =
      let edit : Edit = Remove name in
      let next : Turn = goes_on (Some (InGroup session (edits ++ edit ∷ []))) in
      let same : line head ++ behind ++ back ≡ line head ++ back =
      ap (λ (more : List ℕ). line head ++ more ++ back) none
      ∙ ap (λ (front : List ℕ). front ++ back) (append-nil (line head)) in
      told_same count (Some (InGroup session edits)) (line head ++ back) (line head ++ behind ++ back) steps steps
      same refl
      (told_line count (Some (InGroup session edits)) head back next steps (edit_lacks edit head is)
      (edit_turn edits edit (WholeEdit edit) head next room is (λ n few. edit_line_told n edit head few is) refl) told)

  -- the items of a group and the line that ends it
  group_told : (edits : List Edit) (items : List Item) (text back : List ℕ) (steps : List Step) → AreItems items text
      → length (edits ++ flat_map edits_of items) ≤ edit_limit → AreTold (count + 1) None back steps
      → AreTold count (Some (InGroup session edits)) (text ++ back) (step_of session (group_with edits items) ∷ steps)
  group_told edits [] text back steps is few behind =
      let begun : Option Begun = Some (InGroup session edits) in
      told_same count begun (line (codes "end") ++ back) (text ++ back) (step_of session (Group edits) ∷ steps)
      (step_of session (group_with edits []) ∷ steps) (ap (λ (front : List ℕ). front ++ back) is)
      (ap (λ (all : List Edit). step_of session (Group all) ∷ steps) (sym (append-nil edits)))
      (told_line count begun (codes "end") back (ends session (Group edits)) steps refl
      (turn_utf8 count begun (codes "end") (ends session (Group edits)) end_utf8 refl) behind)
  group_told edits (Blank passed ∷ items) text back steps is few behind =
      let begun : Begun = InGroup session edits in
      let all_steps : List Step = step_of session (group_with edits items) ∷ steps in
      let whole : text ++ back ≡ line passed ++ (is.1 ++ back) =
      ap (λ (all : List ℕ). all ++ back) (is.4 ∙ ap (λ (front : List ℕ). front ++ is.1) is.2.1)
      ∙ append_assoc (line passed) is.1 back in
      told_same count (Some begun) (line passed ++ (is.1 ++ back)) (text ++ back) all_steps all_steps whole refl
      (told_line count (Some begun) passed (is.1 ++ back) (goes_on (Some begun)) all_steps is.2.0.on_line.one
      (blank_turn edits passed is.2.0) (group_told edits items is.1 back steps is.3 few behind))
  group_told edits (Does edit ∷ items) text back steps is few behind =
      let begun : Option Begun = Some (InGroup session edits) in
      let asked = is.2 in
      let front : List ℕ = line asked.0 ++ asked.1 in
      let others : List Edit = flat_map edits_of items in
      let more : List Step = step_of session (group_with (edits ++ edit ∷ []) items) ∷ steps in
      let whole : text ++ back ≡ front ++ (is.1 ++ back) =
      ap (λ (all : List ℕ). all ++ back) (is.4 ∙ ap (λ (first : List ℕ). first ++ is.1) asked.4)
      ∙ append_assoc front is.1 back in
      let few_more : length ((edits ++ edit ∷ []) ++ others) ≤ edit_limit =
      subst (λ (all : List Edit). length all ≤ edit_limit) (sym (group_more edits edit others)) few in
      told_same count begun (front ++ (is.1 ++ back)) (text ++ back) more _ whole
      (ap (λ (all : List Edit). step_of session (Group all) ∷ steps) (group_more edits edit others))
      (does_told edits edit asked.0 asked.1 (is.1 ++ back) more
      (omega (arith, few, length-append edits (edit ∷ others))) asked.2 asked.3
      (group_told (edits ++ edit ∷ []) items is.1 back steps is.3 few_more behind))

-- Requests

module _ (count session : ℕ) (head behind back : List ℕ) (steps : List Step) (room : count < request_limit)
    (behind_told : AreTold (count + 1) None back steps) where
  -- by what its line leads to
  head_told : (request : Request) (next : Turn) (more : List Step) → IsLineOfStep (step_of session request) head
      → turn_outside (script_line count head) ≡ Ok next
      → AreTold (count_after count next.step) next.begun (behind ++ back) more
      → AreTold count None ((line head ++ behind) ++ back) (option_to_list next.step ++ more)
  head_told request next more is leads told =
      let all_steps : List Step = option_to_list next.step ++ more in
      told_same count None (line head ++ (behind ++ back)) ((line head ++ behind) ++ back) all_steps all_steps
      (append_assoc (line head) behind back) refl
      (told_line count None head (behind ++ back) next more (step_lacks (step_of session request) head is)
      (turn_utf8 count None head next is.utf8 leads) told)

  -- in one line
  whole_told : (request : Request) → IsLineOfStep (step_of session request) head
      → turn_outside (script_line count head) ≡ Ok (ends session request) → behind ≡ []
      → AreTold count None ((line head ++ behind) ++ back) (step_of session request ∷ steps)
  whole_told request is leads none =
      head_told request (ends session request) steps is leads
      (told_same (count + 1) None back (behind ++ back) steps steps (ap (λ (front : List ℕ). front ++ back) none) refl
      behind_told)

  -- with a body
  put_alone : (opening : Opening) (body : List ℕ)
      → IsLineOfStep (step_of session (Single (with_body opening body))) head
      → turn_outside (script_line count head) ≡ Ok (goes_on (Some (InPut session (open_body opening))))
      → IsBody body behind
      → AreTold count None ((line head ++ behind) ++ back) (step_of session (Single (with_body opening body)) ∷ steps)
  put_alone opening body is leads has =
      let held : OpenPut → Begun = λ put. InPut session put in
      let done : Edit → Turn = λ edit. ends session (Single edit) in
      let rest = put_told held done (λ put text. refl) count opening body behind back steps has behind_told in
      head_told (Single (with_body opening body)) (goes_on (Some (InPut session (open_body opening))))
      (step_of session (Single (with_body opening body)) ∷ steps) is leads rest

  asks_told : (request : Request) → IsLineOfStep (step_of session request) head → IsBehind request behind
      → AreTold count None ((line head ++ behind) ++ back) (step_of session request ∷ steps)
  asks_told (Single (Put name body)) is =
      put_alone (PutOf name) body is (ap turn_outside (step_told count _ head room is))
  asks_told (Single (PutIf version name body)) is =
      put_alone (PutIfOf version name) body is (ap turn_outside (step_told count _ head room is))
  asks_told (Single (Remove name)) is =
      whole_told (Single (Remove name)) is (ap turn_outside (step_told count _ head room is))
  asks_told (Get name) is = whole_told (Get name) is (ap turn_outside (step_told count _ head room is))
  asks_told Names is = whole_told Names is (ap turn_outside (step_told count _ head room is))
  asks_told (Build root val) is = whole_told (Build root val) is (ap turn_outside (step_told count _ head room is))
  asks_told (Group edits) is = λ group.
      let begun : Begun = InGroup session [] in
      let few : length (flat_map edits_of group.items) ≤ edit_limit =
      subst (λ (all : List Edit). length all ≤ edit_limit) group.are group.few in
      let rest = group_told count session [] group.items behind back steps group.printed few behind_told in
      let asked : List Step = step_of session (group_with [] group.items) ∷ steps in
      let told = head_told (Group edits) (goes_on (Some begun)) asked is
      (ap turn_outside (step_told count _ head room is)) rest in
      let same : asked ≡ step_of session (Group edits) ∷ steps =
      ap (λ (all : List Edit). step_of session (Group all) ∷ steps) (sym group.are) in
      told_same count None ((line head ++ behind) ++ back) ((line head ++ behind) ++ back) asked
      (step_of session (Group edits) ∷ steps) refl same told

-- Blocks

-- printed blocks are read as what they ask
pub blocks_told : (blocks : List Block) (count : ℕ) (text : List ℕ) → AreTextOf blocks text
    → count + length (flat_map blocks_spec.step_of blocks) ≤ request_limit
    → AreTold count None text (flat_map blocks_spec.step_of blocks)
blocks_told [] count text is room =
    λ number. ap (λ (all : List ℕ). steps_from script_line false number count None (lines_of all)) is
blocks_told (Passed passed ∷ blocks) count text is room =
    let steps : List Step = flat_map blocks_spec.step_of blocks in
    let whole : text ≡ line passed ++ is.1 = is.4 ∙ ap (λ (front : List ℕ). front ++ is.1) is.2.1 in
    told_same count None (line passed ++ is.1) text steps steps whole refl
    (told_line count None passed is.1 (goes_on None) steps is.2.0.on_line.one (passed_turn count passed is.2.0)
    (blocks_told blocks count is.1 is.3 room))
blocks_told (Asks step ∷ blocks) count text is room =
    let steps : List Step = flat_map blocks_spec.step_of blocks in
    let asked = is.2 in
    let whole : text ≡ (line asked.0 ++ asked.1) ++ is.1 = is.4 ∙ ap (λ (front : List ℕ). front ++ is.1) asked.4 in
    told_same count None ((line asked.0 ++ asked.1) ++ is.1) text (step ∷ steps) (step ∷ steps) whole refl
    (asks_told count step.session asked.0 asked.1 is.1 steps (omega arith)
    (blocks_told blocks (count + 1) is.1 is.3 (omega arith)) step.request asked.2 asked.3)
