-- Scripts, line by line: what a line does to what is begun, and what holds of all lines since each does so.
use Rattle.std.specs.Prelude.{◌≡◌, ◌+◌, ◌<◌, ◌≤◌, ◌==◌, ◌&&◌, ℕ, Bool, true, false, List, [], ◌∷◌, ◌++◌, Option, Some, None, Result, Ok, Err, IfOk, IfSome, length, take, nat_le, nat_lt}
use Rattle.std.specs.Option.{option_to_list}
use Rattle.std.specs.Str.{is_utf8}
use Rattle.std.proofs.Common.{refl, ◌∙◌, ap, sym, subst, arith, append-nil, append_assoc, length-append}
use Rattle.std.proofs.lemmas.Bool.{cond_both, leb-true, leb-false, eqb-false}
use Rattle.dita_doc.specs.Bytes.{line_feed, spaced_words}
use Rattle.dita_doc.specs.Lines.{lines_of}
use Rattle.dita_doc.specs.Request.{Edit, Request, Single, Group, HasFewEdits, edit_limit}
use Rattle.script_text.specs.declared.fault.ScriptCode.{ScriptCode}
use Rattle.script_text.specs.declared.fault.ScriptCode.TheVariants as faults
use Rattle.script_text.specs.declared.fault.ScriptFault.{ScriptFault}
use Rattle.script_text.specs.Script.{script_limit, request_limit, session_limit, number_of, EditCommand, WholeEdit, OpensBody, edit_of, Command, Edits, Whole, OpensGroup, command_of, LineReading, AskedLine, counted, session_of, asked_in, asked_by, is_passed, script_line, edit_counted, edit_line, Step, OpenPut, Begun, InPut, InGroup, InGroupPut, whole_edit, with_line, Turn, goes_on, ends, is_body_end, is_group_end, turn_edit, turn_within, turn_in, turn_outside, turn_of_text, turn, count_after, then_steps, is_no_line, steps_from, script_of}
use Rattle.script_text.specs.Facts.{IsSession}
use Rattle.script_text.proofs.StepLaws.{led_by, steps_led}
use Rattle.script_text.proofs.TextLaws.{Texts, edit_texts, group_texts, texts_of, name_in, put_texts, line_texts, whole_texts, more_texts, AreLast, none_last, edit_from, IsFrom, command_from, from_more}

-- Steps, line by line

-- if a step is put before those that follow, these are steps
then_ok : (step : Option Step) (told : Result (List Step) ScriptFault) (steps : List Step)
    → then_steps step told ≡ Ok steps → (more : List Step) × (told ≡ Ok more) × (option_to_list step ++ more ≡ steps)
then_ok step (Ok more) steps e = (more, refl, cc)
then_ok step (Err fault) steps e = absurd cc

-- what is said of lines behind so many requests, within a body or outside, and of their steps
abbrev pub Claim : Type 1
Claim = ℕ → Option Begun → List (List ℕ) → List Step → Type 0

-- it holds of no lines, and of one more line in front
pub record GoesOn (reads : LineReading) (long : Bool) (P : Claim) : Type 0 where
  pub none : (count : ℕ) → P count None [] []
  pub more : (count : ℕ) (begun : Option Begun) (line : List ℕ) (lines : List (List ℕ))
      (next : Turn) (steps : List Step)
      → (long && is_no_line lines) ≡ false → turn reads count begun line ≡ Ok next
      → P (count_after count next.step) next.begun lines steps
      → P count begun (line ∷ lines) (option_to_list next.step ++ steps)

module _ (reads : LineReading) (long : Bool) (P : Claim) (rules : GoesOn reads long P) where
  -- one line, by what it leads to
  at_line : (number count : ℕ) (begun : Option Begun) (line : List ℕ) (lines : List (List ℕ)) (steps : List Step)
      (last : Bool) (turned : Result Turn ScriptCode)
      → ((number count : ℕ) (begun : Option Begun) (steps : List Step)
      → steps_from reads long number count begun lines ≡ Ok steps → P count begun lines steps)
      → (long && is_no_line lines) ≡ last → turn reads count begun line ≡ turned
      → led_by reads long last number count lines turned ≡ Ok steps → P count begun (line ∷ lines) steps
  at_line number count begun line lines steps true turned behind l t e = absurd cc
  at_line number count begun line lines steps false (Err code) behind l t e = absurd cc
  at_line number count begun line lines steps false (Ok next) behind l t e =
      let told = steps_from reads long (number + 1) (count_after count next.step) next.begun lines in
      let more = then_ok next.step told steps e in
      let rest = behind (number + 1) (count_after count next.step) next.begun more.0 more.1 in
      subst (P count begun (line ∷ lines)) more.2 (rules.more count begun line lines next more.0 l t rest)

  -- it holds of all lines whose steps are known
  pub steps_keep : (number count : ℕ) (begun : Option Begun) (lines : List (List ℕ)) (steps : List Step)
      → steps_from reads long number count begun lines ≡ Ok steps → P count begun lines steps
  steps_keep number count None [] steps e =
      let same : [] ≡ steps = cc in subst (P count None []) same (rules.none count)
  steps_keep number count (Some begun) [] steps e = absurd cc
  steps_keep number count begun (line ∷ lines) steps e =
      at_line number count begun line lines steps (long && is_no_line lines) (turn reads count begun line)
      (λ number count begun steps e. steps_keep number count begun lines steps e) refl refl
      (sym (steps_led reads long number count begun line lines) ∙ e)

-- Lines

-- what a line that asks something has: texts among its words, a session of this kind, and room for one request more
pub record IsAsked (IsNumbered : ℕ → Type 0) (count : ℕ) (line : List ℕ) (asked : AskedLine) : Type 0 where
  pub from : IsFrom (spaced_words line) asked.command
  pub numbered : IsNumbered asked.session
  pub room : count < request_limit

-- what the line asks, it has
abbrev pub AsksFrom : (ℕ → Type 0) → ℕ → List ℕ → Result (Option AskedLine) ScriptCode → Type 0
AsksFrom IsNumbered count line found = IfOk found (λ asked. IfSome asked (IsAsked IsNumbered count line))

one_command : (count : ℕ) (line : List ℕ) (session : ℕ) (words : Texts) (command : Result Command ScriptCode)
    → IsSession session → AreLast words (spaced_words line) → IfOk command (IsFrom words)
    → AsksFrom IsSession count line (counted count session command)
one_command count line session words (Err code) numbered are is = tt
one_command count line session words (Ok command) numbered are is =
    cond_both (nat_le request_limit count) (Err faults.TooManyRequests)
    (Ok (Some (record { session = session; command = command }))) (AsksFrom IsSession count line) (λ full. tt)
    (λ room. record {
      from = from_more words (spaced_words line) command are is;
      numbered = numbered;
      room = leb-false request_limit count room;
    })

in_session : (count : ℕ) (line : List ℕ) (session : Result ℕ ScriptCode) (words : Texts)
    → IfOk session IsSession → AreLast words (spaced_words line) → AsksFrom IsSession count line (asked_in count session words)
in_session count line (Err code) words is are = tt
in_session count line (Ok session) words is are =
    one_command count line session words (command_of words) is are (command_from words)

-- a session is from 1 to the limit
is_session : (number : Option ℕ) → IfOk (session_of number) IsSession
is_session None = tt
is_session (Some session) =
    cond_both (session == 0) (Err faults.BadNumber) _ (λ found. IfOk found IsSession) (λ e. tt) (λ other.
    cond_both (nat_le session session_limit) (Ok session) (Err faults.TooManySessions)
    (λ found. IfOk found IsSession) (λ within.
    let none : session ≡ 0 → ⊥ = eqb-false session 0 other in
    (omega arith, leb-true session session_limit within)) (λ e. tt))

by_words : (count : ℕ) (line : List ℕ) (words : Texts) → words ≡ spaced_words line
    → AsksFrom IsSession count line (asked_by count words)
by_words count line [] e = tt
by_words count line (session ∷ words) e =
    in_session count line (session_of (number_of session)) words (is_session (number_of session)) (session ∷ [], e)

line_asks : (count : ℕ) (line : List ℕ) → AsksFrom IsSession count line (script_line count line)
line_asks count line =
    cond_both (is_passed line) (Ok None) (asked_by count (spaced_words line)) (AsksFrom IsSession count line) (λ e. tt)
    (λ e. by_words count line (spaced_words line) refl)

-- what the line of an edit has: texts among its words, and room for one edit more
record IsEdit (count : ℕ) (line : List ℕ) (edit : EditCommand) : Type 0 where
  last : AreLast (line_texts edit) (spaced_words line)
  room : count < edit_limit

abbrev EditsFrom : ℕ → List ℕ → Result (Option EditCommand) ScriptCode → Type 0
EditsFrom count line found = IfOk found (λ edit. IfSome edit (IsEdit count line))

one_edit : (count : ℕ) (line : List ℕ) (edit : Result EditCommand ScriptCode)
    → IfOk edit (λ edit. AreLast (line_texts edit) (spaced_words line))
    → EditsFrom count line (edit_counted count edit)
one_edit count line (Err code) is = tt
one_edit count line (Ok edit) is =
    cond_both (nat_le edit_limit count) (Err faults.TooManyEdits) (Ok (Some edit)) (EditsFrom count line) (λ full. tt)
    (λ room. record { last = is; room = leb-false edit_limit count room })

line_edits : (count : ℕ) (line : List ℕ) → EditsFrom count line (edit_line count line)
line_edits count line =
    cond_both (is_passed line) (Ok None) (edit_counted count (edit_of (spaced_words line))) (EditsFrom count line)
    (λ e. tt) (λ e. one_edit count line (edit_of (spaced_words line)) (edit_from (spaced_words line)))

-- What is begun

abbrev pub step_of : ℕ → Request → Step
step_of session request = record { session = session; request = request }

-- the texts so far of what is begun
abbrev pub begun_texts : Begun → Texts
begun_texts (InPut session put) = put_texts put
begun_texts (InGroup session edits) = group_texts edits
begun_texts (InGroupPut session edits put) = group_texts edits ++ put_texts put

abbrev pub pending_texts : Option Begun → Texts
pending_texts None = []
pending_texts (Some begun) = begun_texts begun

abbrev session_in : Begun → ℕ
session_in (InPut session put) = session
session_in (InGroup session edits) = session
session_in (InGroupPut session edits put) = session

-- how many edits of a group are begun
abbrev edits_in : Begun → ℕ
edits_in (InPut session put) = 0
edits_in (InGroup session edits) = length edits
edits_in (InGroupPut session edits put) = length edits + 1

-- what is begun keeps within the limits, in a session of this kind
pub record IsHeld (IsNumbered : ℕ → Type 0) (count : ℕ) (begun : Begun) : Type 0 where
  pub room : count < request_limit
  pub numbered : IsNumbered (session_in begun)
  pub few : edits_in begun ≤ edit_limit

abbrev pub IsSound : (ℕ → Type 0) → ℕ → Option Begun → Type 0
IsSound IsNumbered count None = count ≤ request_limit
IsSound IsNumbered count (Some begun) = IsHeld IsNumbered count begun

-- and so does a step behind so many
pub record IsFit (IsNumbered : ℕ → Type 0) (count : ℕ) (step : Step) : Type 0 where
  pub room : count < request_limit
  pub numbered : IsNumbered step.session
  pub few : HasFewEdits step.request

-- Turns

-- there are texts more, which are words of the line
pub record HasMore (line : List ℕ) (before after : Texts) : Type 0 where
  pub texts : Texts
  pub last : AreLast texts (spaced_words line)
  pub is : after ≡ before ++ texts

-- texts behind a line: there are more, a name and an empty body are more, or the line is added to the last one
pub data AreTurned (line : List ℕ) (before after : Texts) : Type 0 where
  Adds : HasMore line before after → AreTurned line before after
  Opens : (name : List ℕ) → AreLast (name ∷ []) (spaced_words line) → after ≡ before ++ name ∷ [] ∷ []
      → AreTurned line before after
  Grows : (front : Texts) (body : List ℕ) → before ≡ front ++ body ∷ []
      → after ≡ front ++ (body ++ line ++ line_feed ∷ []) ∷ [] → AreTurned line before after

-- a line that ends a step
pub record IsEnd (IsNumbered : ℕ → Type 0) (count : ℕ) (before : Option Begun) (line : List ℕ) (step : Step)
    : Type 0 where
  pub texts : HasMore line (pending_texts before) (texts_of step.request)
  pub fit : IsSound IsNumbered count before → IsFit IsNumbered count step

-- a line that ends none
pub record IsGoing (IsNumbered : ℕ → Type 0) (count : ℕ) (before : Option Begun) (line : List ℕ) (after : Option Begun)
    : Type 0 where
  pub texts : AreTurned line (pending_texts before) (pending_texts after)
  pub sound : IsSound IsNumbered count before → IsSound IsNumbered count after

abbrev pub TurnBy : (ℕ → Type 0) → ℕ → Option Begun → List ℕ → Option Step → Option Begun → Type 0
TurnBy IsNumbered count before line None after = IsGoing IsNumbered count before line after
TurnBy IsNumbered count before line (Some step) None = IsEnd IsNumbered count before line step
TurnBy IsNumbered count before line (Some step) (Some after) = ⊥

-- what a line leads to is one of the two
abbrev pub IsTurn : (ℕ → Type 0) → ℕ → Option Begun → List ℕ → Turn → Type 0
IsTurn IsNumbered count before line next = TurnBy IsNumbered count before line next.step next.begun

-- no text more
same_texts : (line : List ℕ) (before after : Texts) → after ≡ before → HasMore line before after
same_texts line before after is =
    record { texts = []; last = none_last (spaced_words line); is = is ∙ sym (append-nil before) }

with_fact : (Q : Type 0) (P : Turn → Type 0) (found : Result Turn ScriptCode) → Q → IfOk found P
    → IfOk found (λ next. Q × P next)
with_fact Q P (Ok next) q is = (q, is)
with_fact Q P (Err code) q is = tt

module _ (IsNumbered : ℕ → Type 0) (count : ℕ) (line : List ℕ) where
  command_is : (session : ℕ) (command : Command) → IsAsked IsNumbered count line (record { session = session; command = command })
      → IsTurn IsNumbered count None line (turn_in session command)
  command_is session (Edits (WholeEdit edit)) asked = record {
    texts = record { texts = edit_texts edit; last = asked.from; is = refl };
    fit = λ sound. record { room = asked.room; numbered = asked.numbered; few = tt };
  }
  command_is session (Edits (OpensBody opening)) asked = record {
    texts = Opens (name_in opening) asked.from refl;
    sound = λ sound. record { room = asked.room; numbered = asked.numbered; few = omega arith };
  }
  command_is session (Whole request) asked = record {
    texts = record { texts = texts_of request; last = asked.from.0; is = refl };
    fit = λ sound. record { room = asked.room; numbered = asked.numbered; few = asked.from.1 };
  }
  command_is session OpensGroup asked = record {
    texts = Adds (same_texts line [] [] refl);
    sound = λ sound. record { room = asked.room; numbered = asked.numbered; few = omega arith };
  }

  outside_is : (found : Result (Option AskedLine) ScriptCode) → AsksFrom IsNumbered count line found
      → IfOk (turn_outside found) (IsTurn IsNumbered count None line)
  outside_is (Ok None) asked = record { texts = Adds (same_texts line [] [] refl); sound = λ sound. sound }
  outside_is (Ok (Some asked)) is = command_is asked.session asked.command is
  outside_is (Err code) asked = tt

  module _ (session : ℕ) where
    put_is : (put : OpenPut)
        → IfOk (turn_within (InPut session put) line) (IsTurn IsNumbered count (Some (InPut session put)) line)
    put_is put =
        cond_both (is_body_end line) (Ok (ends session (Single (whole_edit put))))
        (Ok (goes_on (Some (InPut session (with_line put line)))))
        (λ found. IfOk found (IsTurn IsNumbered count (Some (InPut session put)) line))
        (λ e. record {
          texts = same_texts line (put_texts put) (edit_texts (whole_edit put)) (whole_texts put);
          fit = λ held. record { room = held.room; numbered = held.numbered; few = tt };
        })
        (λ e. record {
          texts = Grows (name_in put.opening ∷ []) put.body refl refl;
          sound = λ held. record { room = held.room; numbered = held.numbered; few = held.few };
        })

    edit_is : (edits : List Edit) (found : Result (Option EditCommand) ScriptCode)
        → EditsFrom (length edits) line found
        → IfOk (turn_edit session edits found) (IsTurn IsNumbered count (Some (InGroup session edits)) line)
    edit_is edits (Ok None) is =
        record { texts = Adds (same_texts line (group_texts edits) (group_texts edits) refl); sound = λ held. held }
    edit_is edits (Ok (Some (WholeEdit edit))) is = record {
      texts = Adds (record { texts = edit_texts edit; last = is.last; is = more_texts edits edit });
      sound = λ held. record {
        room = held.room;
        numbered = held.numbered;
        few = omega (arith, is.room, length-append edits (edit ∷ []));
      };
    }
    edit_is edits (Ok (Some (OpensBody opening))) is = record {
      texts = Opens (name_in opening) is.last refl;
      sound = λ held. record { room = held.room; numbered = held.numbered; few = omega (arith, is.room) };
    }
    edit_is edits (Err code) is = tt

    group_is : (edits : List Edit)
        → IfOk (turn_within (InGroup session edits) line) (IsTurn IsNumbered count (Some (InGroup session edits)) line)
    group_is edits =
        cond_both (is_group_end line) (Ok (ends session (Group edits)))
        (turn_edit session edits (edit_line (length edits) line))
        (λ found. IfOk found (IsTurn IsNumbered count (Some (InGroup session edits)) line))
        (λ e. record {
          texts = same_texts line (group_texts edits) (group_texts edits) refl;
          fit = λ held. record { room = held.room; numbered = held.numbered; few = held.few };
        })
        (λ e. edit_is edits (edit_line (length edits) line) (line_edits (length edits) line))

    group_put_is : (edits : List Edit) (put : OpenPut)
        → IfOk (turn_within (InGroupPut session edits put) line)
        (IsTurn IsNumbered count (Some (InGroupPut session edits put)) line)
    group_put_is edits put =
        let edit : Edit = whole_edit put in
        cond_both (is_body_end line) (Ok (goes_on (Some (InGroup session (edits ++ edit ∷ [])))))
        (Ok (goes_on (Some (InGroupPut session edits (with_line put line)))))
        (λ found. IfOk found (IsTurn IsNumbered count (Some (InGroupPut session edits put)) line))
        (λ e. record {
          texts = Adds (same_texts line (group_texts edits ++ put_texts put) (group_texts (edits ++ edit ∷ []))
              (more_texts edits edit ∙ ap (λ (texts : Texts). group_texts edits ++ texts) (whole_texts put)));
          sound = λ held. record {
            room = held.room;
            numbered = held.numbered;
            few = omega (arith, held.few, length-append edits (edit ∷ []));
          };
        })
        (λ e.
        let name : Texts = name_in put.opening ∷ [] in
        record {
          texts = Grows (group_texts edits ++ name) put.body
              (sym (append_assoc (group_texts edits) name (put.body ∷ [])))
              (sym (append_assoc (group_texts edits) name ((with_line put line).body ∷ [])));
          sound = λ held. record { room = held.room; numbered = held.numbered; few = held.few };
        })

  -- of a line, whichever way it is read outside bodies and groups
  module _ (reads : LineReading) (asks : AsksFrom IsNumbered count line (reads count line)) where
    text_is : (before : Option Begun) → IfOk (turn_of_text reads count before line) (IsTurn IsNumbered count before line)
    text_is None = outside_is (reads count line) asks
    text_is (Some (InPut session put)) = put_is session put
    text_is (Some (InGroup session edits)) = group_is session edits
    text_is (Some (InGroupPut session edits put)) = group_put_is session edits put

    pub turn_is : (before : Option Begun) → IfOk (turn reads count before line) (λ next.
        (is_utf8 line ≡ true) × IsTurn IsNumbered count before line next)
    turn_is before =
        cond_both (is_utf8 line) (turn_of_text reads count before line) (Err faults.NotUtf8)
        (λ found. IfOk found (λ next. (is_utf8 line ≡ true) × IsTurn IsNumbered count before line next))
        (λ utf8. with_fact (is_utf8 line ≡ true) (IsTurn IsNumbered count before line)
        (turn_of_text reads count before line) utf8 (text_is before)) (λ e. tt)

-- what holds of no lines, and of one more line in front, by whether it ends a step
pub record Follows (P : Claim) : Type 0 where
  pub none : (count : ℕ) → P count None [] []
  pub ends : (count : ℕ) (before : Option Begun) (line : List ℕ) (lines : List (List ℕ)) (step : Step)
      (steps : List Step) → is_utf8 line ≡ true → IsEnd IsSession count before line step
      → P (count + 1) None lines steps → P count before (line ∷ lines) (step ∷ steps)
  pub goes : (count : ℕ) (before after : Option Begun) (line : List ℕ) (lines : List (List ℕ)) (steps : List Step)
      → is_utf8 line ≡ true → IsGoing IsSession count before line after
      → P count after lines steps → P count before (line ∷ lines) steps

module _ (P : Claim) (rules : Follows P) where
  by_turn : (count : ℕ) (before : Option Begun) (line : List ℕ) (lines : List (List ℕ)) (step : Option Step)
      (after : Option Begun) (steps : List Step) → is_utf8 line ≡ true → TurnBy IsSession count before line step after
      → P (count_after count step) after lines steps → P count before (line ∷ lines) (option_to_list step ++ steps)
  by_turn count before line lines None after steps utf8 is behind =
      rules.goes count before after line lines steps utf8 is behind
  by_turn count before line lines (Some step) None steps utf8 is behind =
      rules.ends count before line lines step steps utf8 is behind
  by_turn count before line lines (Some step) (Some after) steps utf8 is behind = absurd is

  -- it holds of all lines whose steps are known
  steps_follow : (long : Bool) (number count : ℕ) (begun : Option Begun) (lines : List (List ℕ)) (steps : List Step)
      → steps_from script_line long number count begun lines ≡ Ok steps → P count begun lines steps
  steps_follow long = steps_keep script_line long P (record {
    none = rules.none;
    more = λ count begun line lines next steps l t h.
        let is = subst (λ found. IfOk found (λ next. (is_utf8 line ≡ true) × IsTurn IsSession count begun line next)) t
        (turn_is IsSession count line script_line (line_asks count line) begun) in
        by_turn count begun line lines next.step next.begun steps is.0 is.1 h;
  })

-- so of a script's lines
pub script_follows : (P : Claim) (bytes : List ℕ) (steps : List Step)
    → Follows P → script_of bytes ≡ Ok steps → P 0 None (lines_of (take (script_limit + 1) bytes)) steps
unfolding script_of
script_follows P bytes steps rules e =
    steps_follow P rules (nat_lt script_limit (length bytes)) 0 0 None
    (lines_of (take (script_limit + 1) bytes)) steps e
