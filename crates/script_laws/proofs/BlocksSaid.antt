-- Lines of which steps are read are printed blocks that ask these; or, behind the lines that began a put or a group,
-- the rest of it and printed blocks.
use Rattle.std.specs.Prelude.{◌≡◌, ◌++◌, ℕ, false, Bool, List, [], ◌∷◌, Option, Some, None, Result, Ok, Err, length, codes}
use Rattle.std.specs.List.{All, flat_map}
use Rattle.std.specs.Option.{option_to_list}
use Rattle.std.specs.Str.{is_utf8}
use Rattle.std.proofs.Common.{refl, sym, ap, ◌∙◌, subst, append-nil, append_assoc}
use Rattle.std.proofs.lemmas.Bool.{cond_both}
use Rattle.std.proofs.lemmas.List.Elements.{All-head, All-tail}
use Rattle.std.proofs.lemmas.Slice.Eq.{bytes_eq-Decides}
use Rattle.dita_doc.specs.Bytes.{line_feed}
use Rattle.dita_doc.specs.Cut.{Lacks}
use Rattle.dita_doc.specs.Lines.{line, IsLineText}
use Rattle.dita_doc.specs.Request.{Edit, Request, Single, Group}
use Rattle.script_text.specs.declared.fault.ScriptCode.{ScriptCode}
use Rattle.script_text.specs.declared.fault.ScriptCode.TheVariants as faults
use Rattle.script_text.specs.Facts.{HasFewStep}
use Rattle.script_text.specs.Script.{Opening, with_body, EditCommand, WholeEdit, OpensBody, Command, Edits, Whole, OpensGroup, AskedLine, script_line, edit_line, Step, OpenPut, Begun, InPut, InGroup, InGroupPut, open_body, whole_edit, with_line, Turn, goes_on, ends, is_body_end, is_group_end, turn_edit, turn_within, turn_in, turn_outside, turn_of_text, turn, steps_from}
use Rattle.script_text.proofs.ScriptTurns.{steps_keep, step_of}
use Rattle.script_laws.specs.Blocks as blocks_spec
use Rattle.script_laws.specs.Blocks.{IsLineOfEdit, IsLineOfStep, IsBodyLine, IsBody, IsBehindEdit, IsBehind, Item, Blank, Does, AreItems, edits_of, Block, Passed, Asks, AreTextOf}
use Rattle.script_laws.proofs.LinesSaid.{IsLineOfAsked, IsReadAs, IsEditAs, line_as, edit_line_as}
use Rattle.script_laws.proofs.RestLaws.{edit_with, group_with, IsRest, behind_put, body_ended, body_more, edit_whole, edit_more, group_more}

-- the lines are printed blocks that ask the steps
pub record AreBlocks (lines : List (List ℕ)) (steps : List Step) : Type 0 where
  pub blocks : List Block
  pub asked : steps ≡ flat_map blocks_spec.step_of blocks
  pub printed : AreTextOf blocks (flat_map line lines)

-- the lines are the rest of what has begun, and printed blocks
pub record AreWithin (begun : Begun) (lines : List (List ℕ)) (steps : List Step) : Type 0 where
  pub step : Step
  pub few : HasFewStep step
  pub text : List ℕ
  pub rest : IsRest begun step text
  pub blocks : List Block
  pub back : List ℕ
  pub printed : AreTextOf blocks back
  pub whole : flat_map line lines ≡ text ++ back
  pub asked : steps ≡ step ∷ flat_map blocks_spec.step_of blocks

-- One line more outside

passes : (text : List ℕ) (lines : List (List ℕ)) (steps : List Step) → blocks_spec.IsPassed text → AreBlocks lines steps
    → AreBlocks (text ∷ lines) steps
passes text lines steps passed are = record {
  blocks = Passed text ∷ are.blocks;
  asked = are.asked;
  printed = (line text, flat_map line lines, (passed, refl), are.printed, refl);
}

asks : (step : Step) (text : List ℕ) (lines : List (List ℕ)) (steps : List Step) → IsLineOfStep step text
    → IsBehind step.request [] → AreBlocks lines steps → AreBlocks (text ∷ lines) (step ∷ steps)
asks step text lines steps is behind are = record {
  blocks = Asks step ∷ are.blocks;
  asked = ap (λ (more : List Step). step ∷ more) are.asked;
  printed =
      (line text, flat_map line lines, (text, [], is, behind, sym (append-nil (line text))), are.printed, refl);
}

-- the line and what stands behind it, if that is the rest of what the line began
abbrev IsBegunBy : List ℕ → Begun → Type 0
IsBegunBy text begun = (step : Step) (rest : List ℕ) → HasFewStep step → IsRest begun step rest
    → IsLineOfStep step text × IsBehind step.request rest

opens : (begun : Begun) (text : List ℕ) (lines : List (List ℕ)) (steps : List Step) → IsBegunBy text begun
    → AreWithin begun lines steps → AreBlocks (text ∷ lines) steps
opens begun text lines steps by within =
    let is = by within.step within.text within.few within.rest in
    record {
      blocks = Asks within.step ∷ within.blocks;
      asked = within.asked;
      printed = (
        line text ++ within.text,
        within.back,
        (text, within.text, is.0, is.1, refl),
        within.printed,
        ap (λ (rest : List ℕ). line text ++ rest) within.whole ∙ sym (append_assoc (line text) within.text within.back),
      );
    }

-- One line more within

-- the line that ends it
ends_with : (begun : Begun) (step : Step) (text : List ℕ) (lines : List (List ℕ)) (steps : List Step) → HasFewStep step
    → IsRest begun step (line text) → AreBlocks lines steps → AreWithin begun (text ∷ lines) (step ∷ steps)
ends_with begun step text lines steps few rest are = record {
  step = step;
  few = few;
  text = line text;
  rest = rest;
  blocks = are.blocks;
  back = flat_map line lines;
  printed = are.printed;
  whole = refl;
  asked = ap (λ (more : List Step). step ∷ more) are.asked;
}

-- the rest with the line in front of it, if what follows is the rest of what the line led to
abbrev LeadsTo : Begun → List ℕ → Begun → Type 0
LeadsTo before text after = (step : Step) (rest : List ℕ) → IsRest after step rest
    → IsRest before step (line text ++ rest)

goes_with : (before after : Begun) (text : List ℕ) (lines : List (List ℕ)) (steps : List Step)
    → LeadsTo before text after → AreWithin after lines steps → AreWithin before (text ∷ lines) steps
goes_with before after text lines steps leads within = record {
  step = within.step;
  few = within.few;
  text = line text ++ within.text;
  rest = leads within.step within.text within.rest;
  blocks = within.blocks;
  back = within.back;
  printed = within.printed;
  whole = ap (λ (rest : List ℕ). line text ++ rest) within.whole
      ∙ sym (append_assoc (line text) within.text within.back);
  asked = within.asked;
}

-- Turns

abbrev AreSaid : Option Begun → List (List ℕ) → List Step → Type 0
AreSaid None lines steps = AreBlocks lines steps
AreSaid (Some begun) lines steps = AreWithin begun lines steps

-- what a line leads to is said, and so is what it and the lines behind it say
abbrev Keeps : Option Begun → List ℕ → List (List ℕ) → Result Turn ScriptCode → Type 0
Keeps begun text lines (Ok next) =
    (steps : List Step) → All HasFewStep (option_to_list next.step ++ steps) → AreSaid next.begun lines steps
    → AreSaid begun (text ∷ lines) (option_to_list next.step ++ steps)
Keeps begun text lines (Err code) = Unit {0}

module _ (text : List ℕ) (lines : List (List ℕ)) (on_line : IsLineText text) where
  -- the line of a request
  step_line : (count : ℕ) (session : ℕ) (command : Command) (request : Request)
      → (is : IsLineOfAsked count text (record { session = session; command = command }))
      → blocks_spec.HasNames request → blocks_spec.AreWordsOf request is.words
      → IsLineOfStep (step_of session request) text
  step_line count session command request is names words = record {
    first = is.first;
    last = is.last;
    names = names;
    session = is.session;
    number = is.number;
    words = is.words;
    request = words;
    line = is.line;
    utf8 = on_line.utf8;
  }

  begins_put : (count session : ℕ) (opening : Opening)
      → IsLineOfAsked count text (record { session = session; command = Edits (OpensBody opening) })
      → IsBegunBy text (InPut session (open_body opening))
  begins_put count session opening is step rest few has =
      let edit : Edit = with_body opening has.0 in
      let says = is.says has.0 in
      subst (λ (step : Step). IsLineOfStep step text × IsBehind step.request rest) (sym has.1) (
        step_line count session (Edits (OpensBody opening)) (Single edit) is says.0 says.1,
        behind_put opening has.0 rest has.2,
      )

  begins_group : (count session : ℕ) → IsLineOfAsked count text (record { session = session; command = OpensGroup })
      → IsBegunBy text (InGroup session [])
  begins_group count session is step rest few has =
      subst (λ (step : Step). HasFewStep step → IsLineOfStep step text × IsBehind step.request rest) (sym has.1)
      (λ few. (
        step_line count session OpensGroup (group_with [] has.0) is tt is.says,
        record { items = has.0; are = refl; printed = has.2; few = few },
      )) few

  command_keeps : (count session : ℕ) (command : Command)
      → IsLineOfAsked count text (record { session = session; command = command })
      → Keeps None text lines (Ok (turn_in session command))
  command_keeps count session (Edits (WholeEdit edit)) is steps few are =
      asks (step_of session (Single edit)) text lines steps
      (step_line count session (Edits (WholeEdit edit)) (Single edit) is is.says.0 is.says.1) is.says.2 are
  command_keeps count session (Edits (OpensBody opening)) is steps few within =
      opens (InPut session (open_body opening)) text lines steps (begins_put count session opening is) within
  command_keeps count session (Whole request) is steps few are =
      asks (step_of session request) text lines steps
      (step_line count session (Whole request) request is is.says.0 is.says.1) is.says.2 are
  command_keeps count session OpensGroup is steps few within =
      opens (InGroup session []) text lines steps (begins_group count session is) within

  outside_keeps : (count : ℕ) (asked : Result (Option AskedLine) ScriptCode) → IsReadAs count text asked
      → Keeps None text lines (turn_outside asked)
  outside_keeps count (Ok None) is =
      λ steps few. passes text lines steps (record { on_line = on_line; empty = is })
  outside_keeps count (Ok (Some asked)) is = command_keeps count asked.session asked.command is
  outside_keeps count (Err code) is = tt

  body_line : is_body_end text ≡ false → IsBodyLine text
  body_line e = record {
    on_line = on_line;
    other = λ same. let is = (bytes_eq-Decides text (codes ".")).1 same in absurd cc;
  }

  module _ (session : ℕ) where
    put_keeps : (put : OpenPut) → Keeps (Some (InPut session put)) text lines (turn_within (InPut session put) text)
    put_keeps put =
        let begun : Begun = InPut session put in
        let after : Begun = InPut session (with_line put text) in
        cond_both (is_body_end text) (Ok (ends session (Single (whole_edit put)))) (Ok (goes_on (Some after)))
        (Keeps (Some begun) text lines)
        (λ e steps few are.
        let step : Step = step_of session (Single (whole_edit put)) in
        let same : step ≡ step_of session (Single (edit_with put [])) =
        ap (λ (edit : Edit). step_of session (Single edit)) (sym (edit_whole put)) in
        ends_with begun step text lines steps (All-head HasFewStep step steps few)
        ([], same, body_ended text ((bytes_eq-Decides text (codes ".")).0 e)) are)
        (λ e steps few. goes_with begun after text lines steps (λ step rest is. (
          line text ++ is.0,
          is.1 ∙ ap (λ (edit : Edit). step_of session (Single edit)) (edit_more put text is.0),
          body_more text is.0 rest (body_line e) is.2,
        )))

    edit_keeps : (edits : List Edit) (found : Result (Option EditCommand) ScriptCode) → IsEditAs text found
        → Keeps (Some (InGroup session edits)) text lines (turn_edit session edits found)
    edit_keeps edits (Ok None) says = λ steps few.
        let begun : Begun = InGroup session edits in
        goes_with begun begun text lines steps (λ step rest is. (
          Blank text ∷ is.0,
          is.1,
          (line text, rest, (record { on_line = on_line; empty = says }, refl), is.2, refl),
        ))
    edit_keeps edits (Ok (Some (WholeEdit edit))) says = λ steps few.
        let head : IsLineOfEdit edit text = record {
          name = says.says.0;
          words = says.words;
          says = says.says.1;
          line = says.line;
          utf8 = on_line.utf8;
        } in
        goes_with (InGroup session edits) (InGroup session (edits ++ edit ∷ [])) text lines steps (λ step rest is. (
          Does edit ∷ is.0,
          is.1 ∙ ap (λ (all : List Edit). step_of session (Group all)) (group_more edits edit (flat_map edits_of is.0)),
          (line text, rest, (text, [], head, says.says.2, sym (append-nil (line text))), is.2, refl),
        ))
    edit_keeps edits (Ok (Some (OpensBody opening))) says = λ steps few.
        let head : (body : List ℕ) → IsLineOfEdit (with_body opening body) text = λ body. record {
          name = (says.says body).0;
          words = says.words;
          says = (says.says body).1;
          line = says.line;
          utf8 = on_line.utf8;
        } in
        goes_with (InGroup session edits) (InGroupPut session edits (open_body opening)) text lines steps
        (λ step rest is.
        let edit : Edit = with_body opening is.0 in (
          Does edit ∷ is.1,
          is.4 ∙ ap (λ (all : List Edit). step_of session (Group all)) (group_more edits edit (flat_map edits_of is.1)),
          (
            line text ++ is.2,
            is.3,
            (text, is.2, head is.0, behind_put opening is.0 is.2 is.5, refl),
            is.6,
            ap (λ (all : List ℕ). line text ++ all) is.7 ∙ sym (append_assoc (line text) is.2 is.3),
          ),
        ))
    edit_keeps edits (Err code) says = tt

    group_keeps : (edits : List Edit)
        → Keeps (Some (InGroup session edits)) text lines (turn_within (InGroup session edits) text)
    group_keeps edits =
        let begun : Begun = InGroup session edits in
        cond_both (is_group_end text) (Ok (ends session (Group edits)))
        (turn_edit session edits (edit_line (length edits) text)) (Keeps (Some begun) text lines)
        (λ e steps few are.
        let step : Step = step_of session (Group edits) in
        let same : step ≡ step_of session (group_with edits []) =
        ap (λ (all : List Edit). step_of session (Group all)) (sym (append-nil edits)) in
        ends_with begun step text lines steps (All-head HasFewStep step steps few)
        ([], same, ap line ((bytes_eq-Decides text (codes "end")).0 e)) are)
        (λ e. edit_keeps edits (edit_line (length edits) text) (edit_line_as (length edits) text))

    group_put_keeps : (edits : List Edit) (put : OpenPut)
        → Keeps (Some (InGroupPut session edits put)) text lines (turn_within (InGroupPut session edits put) text)
    group_put_keeps edits put =
        let begun : Begun = InGroupPut session edits put in
        let grown : Begun = InGroup session (edits ++ whole_edit put ∷ []) in
        let after : Begun = InGroupPut session edits (with_line put text) in
        let step_by : (items : List Item) (edit : Edit) → Step =
        λ items edit. step_of session (group_with (edits ++ edit ∷ []) items) in
        cond_both (is_body_end text) (Ok (goes_on (Some grown))) (Ok (goes_on (Some after)))
        (Keeps (Some begun) text lines)
        (λ e steps few. goes_with begun grown text lines steps (λ step rest is. (
          [],
          is.0,
          line text,
          rest,
          is.1 ∙ ap (step_by is.0) (sym (edit_whole put)),
          body_ended text ((bytes_eq-Decides text (codes ".")).0 e),
          is.2,
          refl,
        )))
        (λ e steps few. goes_with begun after text lines steps (λ step rest is. (
          line text ++ is.0,
          is.1,
          line text ++ is.2,
          is.3,
          is.4 ∙ ap (step_by is.1) (edit_more put text is.0),
          body_more text is.0 is.2 (body_line e) is.5,
          is.6,
          ap (λ (all : List ℕ). line text ++ all) is.7 ∙ sym (append_assoc (line text) is.2 is.3),
        )))

  text_keeps : (count : ℕ) (begun : Option Begun) → Keeps begun text lines (turn_of_text script_line count begun text)
  text_keeps count None = outside_keeps count (script_line count text) (line_as count text)
  text_keeps count (Some (InPut session put)) = put_keeps session put
  text_keeps count (Some (InGroup session edits)) = group_keeps session edits
  text_keeps count (Some (InGroupPut session edits put)) = group_put_keeps session edits put

turn_keeps : (count : ℕ) (begun : Option Begun) (text : List ℕ) (lines : List (List ℕ)) → Lacks line_feed text
    → Keeps begun text lines (turn script_line count begun text)
turn_keeps count begun text lines one =
    cond_both (is_utf8 text) (turn_of_text script_line count begun text) (Err faults.NotUtf8) (Keeps begun text lines)
    (λ utf8. text_keeps text lines (record { utf8 = utf8; one = one }) count begun) (λ e. tt)

-- what holds of steps holds of those behind
all_behind : (step : Option Step) (steps : List Step) → All HasFewStep (option_to_list step ++ steps)
    → All HasFewStep steps
all_behind None steps all = all
all_behind (Some step) steps all = All-tail HasFewStep step steps all

-- lines without LF whose steps are known, with few edits in each group, are printed blocks
pub lines_said : (long : Bool) (lines : List (List ℕ)) (steps : List Step) → All (Lacks line_feed) lines
    → All HasFewStep steps → steps_from script_line long 0 0 None lines ≡ Ok steps → AreBlocks lines steps
lines_said long lines steps all few e =
    steps_keep script_line long
    (λ count begun lines steps. All (Lacks line_feed) lines → All HasFewStep steps → AreSaid begun lines steps)
    (record {
      none = λ count all few. record { blocks = []; asked = refl; printed = refl };
      more =
          λ count begun text lines next steps l t h all few.
          subst (Keeps begun text lines) t
          (turn_keeps count begun text lines (All-head (Lacks line_feed) text lines all)) steps few
          (h (All-tail (Lacks line_feed) text lines all) (all_behind next.step steps few));
    }) 0 0 None lines steps e all few
