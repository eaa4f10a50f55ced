-- Scripts (own): UTF-8 text in lines ended by LF, of which the last LF may be missing; of at most 67,108,864 bytes,
-- 65,536 requests and 16 sessions. Outside bodies, lines of spaces and tabs alone and lines beginning `#` are passed
-- over. Every other line is a request or, in a group, an edit or the group's end; its words are separated by spaces. A
-- body is all lines up to a line that is exactly `.`; its bytes are those lines with their LF. A group is the edits, at
-- most 1,000, up to a line that is exactly `end`.
use Rattle.std.specs.Prelude.{◌+◌, ◌-◌, ◌*◌, ◌==◌, ◌&&◌, ◌||◌, ◌++◌, ℕ, Bool, true, false, List, [], ◌∷◌, Option, Some, None, Result, Ok, Err, length, take, slice_index, nat_le, nat_lt, if◌then◌else◌, codes, bytes_eq}
use Rattle.std.specs.List.{list_all}
use Rattle.std.specs.Option.{option_to_list}
use Rattle.std.specs.Str.{is_utf8}
use Rattle.script_text.specs.declared.fault.ScriptCode.{ScriptCode}
use Rattle.script_text.specs.declared.fault.ScriptCode.TheVariants as faults
use Rattle.script_text.specs.declared.fault.ScriptFault.{ScriptFault}
use Rattle.dita_doc.specs.Lines.{lines_of}
use Rattle.dita_doc.specs.Name.{is_name}
use Rattle.dita_doc.specs.Bytes.{line_feed, number_sign, digit_zero, is_digit, is_gap, spaced_words}
use Rattle.dita_doc.specs.Request.{Edit, Put, PutIf, Remove, Request, Single, Get, Names, Build, Group, edit_limit}

abbrev pub script_limit : ℕ
script_limit = 67108864

abbrev pub request_limit : ℕ
request_limit = 65536

abbrev pub session_limit : ℕ
session_limit = 16

-- Numbers

abbrev pub value_after : ℕ → List ℕ → ℕ
value_after value [] = value
value_after value (b ∷ digits) = value_after (value * 10 + (b - digit_zero)) digits

-- the number that a word is: 1 to 18 decimal digits, zeros before them among these
abbrev pub number_of : List ℕ → Option ℕ
number_of word =
    if nat_le 1 (length word) && nat_le (length word) 18 && list_all is_digit word then Some (value_after 0 word)
    else None

-- Edits: the words of an edit's line

-- a put of which the body is to come
pub data Opening : Type 0 where
  PutOf : (name : List ℕ) → Opening
  PutIfOf : (version : ℕ) (name : List ℕ) → Opening

abbrev pub with_body : Opening → List ℕ → Edit
with_body (PutOf name) body = Put name body
with_body (PutIfOf version name) body = PutIf version name body

-- a whole edit, or one whose body is to come
pub data EditCommand : Type 0 where
  WholeEdit : Edit → EditCommand
  OpensBody : Opening → EditCommand

-- the name that a word is
abbrev pub name_of : List ℕ → Result (List ℕ) ScriptCode
name_of word = if is_name word then Ok word else Err faults.BadName

-- the command, if its name is one
abbrev pub if_named : {A : Type 0} → Result (List ℕ) ScriptCode → Result A ScriptCode → Result A ScriptCode
if_named (Ok name) command = command
if_named (Err code) command = Err code

abbrev pub put_by : List (List ℕ) → Result EditCommand ScriptCode
put_by (name ∷ []) = if_named (name_of name) (Ok (OpensBody (PutOf name)))
put_by words = Err faults.BadCommand

abbrev pub put_if_of : Option ℕ → List ℕ → Result EditCommand ScriptCode
put_if_of None name = Err faults.BadNumber
put_if_of (Some version) name = if_named (name_of name) (Ok (OpensBody (PutIfOf version name)))

abbrev pub put_if_by : List (List ℕ) → Result EditCommand ScriptCode
put_if_by (version ∷ name ∷ []) = put_if_of (number_of version) name
put_if_by words = Err faults.BadCommand

abbrev pub remove_by : List (List ℕ) → Result EditCommand ScriptCode
remove_by (name ∷ []) = if_named (name_of name) (Ok (WholeEdit (Remove name)))
remove_by words = Err faults.BadCommand

-- by the command's word, then by how many words follow, then these from left to right
abbrev pub edit_of : List (List ℕ) → Result EditCommand ScriptCode
edit_of [] = Err faults.BadCommand
edit_of (verb ∷ words) =
    if bytes_eq verb (codes "put") then put_by words
    else if bytes_eq verb (codes "putif") then put_if_by words
    else if bytes_eq verb (codes "remove") then remove_by words
    else Err faults.BadCommand

-- Commands: the words of a line behind its session

-- an edit alone, another whole request, or a group whose edits are to come
pub data Command : Type 0 where
  Edits : EditCommand → Command
  Whole : Request → Command
  OpensGroup : Command

abbrev pub get_by : List (List ℕ) → Result Command ScriptCode
get_by (name ∷ []) = if_named (name_of name) (Ok (Whole (Get name)))
get_by words = Err faults.BadCommand

abbrev pub names_by : List (List ℕ) → Result Command ScriptCode
names_by [] = Ok (Whole Names)
names_by words = Err faults.BadCommand

abbrev pub build_command : List (List ℕ) → Result Command ScriptCode
build_command (map ∷ []) = if_named (name_of map) (Ok (Whole (Build map None)))
build_command (map ∷ val ∷ []) = if_named (name_of map) (if_named (name_of val) (Ok (Whole (Build map (Some val)))))
build_command words = Err faults.BadCommand

abbrev pub group_by : List (List ℕ) → Result Command ScriptCode
group_by [] = Ok OpensGroup
group_by words = Err faults.BadCommand

abbrev pub edit_alone : Result EditCommand ScriptCode → Result Command ScriptCode
edit_alone (Ok edit) = Ok (Edits edit)
edit_alone (Err code) = Err code

-- one of these four, or an edit
abbrev pub command_of : List (List ℕ) → Result Command ScriptCode
command_of [] = Err faults.BadCommand
command_of (verb ∷ words) =
    if bytes_eq verb (codes "get") then get_by words
    else if bytes_eq verb (codes "names") then names_by words
    else if bytes_eq verb (codes "build") then build_command words
    else if bytes_eq verb (codes "group") then group_by words
    else edit_alone (edit_of (verb ∷ words))

-- Lines outside bodies and groups

-- what a line asks, in its session
pub record AskedLine : Type 0 where
  pub session : ℕ
  pub command : Command

-- How the lines outside bodies and groups are read, behind so many requests: a line that is passed over asks nothing.
abbrev pub LineReading : Type 0
LineReading = ℕ → List ℕ → Result (Option AskedLine) ScriptCode

-- the count is tried last: a command that is faulty by itself is not counted
abbrev pub counted : ℕ → ℕ → Result Command ScriptCode → Result (Option AskedLine) ScriptCode
counted count session (Ok command) =
    if nat_le request_limit count then Err faults.TooManyRequests
    else Ok (Some (record { session = session; command = command }))
counted count session (Err code) = Err code

-- the session that a number is
abbrev pub session_of : Option ℕ → Result ℕ ScriptCode
session_of None = Err faults.BadNumber
session_of (Some session) =
    if session == 0 then Err faults.BadNumber
    else if nat_le session session_limit then Ok session
    else Err faults.TooManySessions

abbrev pub asked_in : ℕ → Result ℕ ScriptCode → List (List ℕ) → Result (Option AskedLine) ScriptCode
asked_in count (Ok session) words = counted count session (command_of words)
asked_in count (Err code) words = Err code

abbrev pub asked_by : ℕ → List (List ℕ) → Result (Option AskedLine) ScriptCode
asked_by count [] = Ok None
asked_by count (session ∷ words) = asked_in count (session_of (number_of session)) words

-- a line of spaces and tabs alone, or a comment
abbrev pub is_passed : List ℕ → Bool
is_passed line = list_all is_gap line || (slice_index line 0 == number_sign)

-- how the lines of a script are read: each begins with its session
abbrev pub script_line : LineReading
script_line count line = if is_passed line then Ok None else asked_by count (spaced_words line)

-- Lines of groups

-- the count is tried last here too
abbrev pub edit_counted : ℕ → Result EditCommand ScriptCode → Result (Option EditCommand) ScriptCode
edit_counted count (Ok edit) = if nat_le edit_limit count then Err faults.TooManyEdits else Ok (Some edit)
edit_counted count (Err code) = Err code

-- the edit that a line of a group is, behind so many edits of it: a line that is passed over is none
abbrev pub edit_line : ℕ → List ℕ → Result (Option EditCommand) ScriptCode
edit_line count line = if is_passed line then Ok None else edit_counted count (edit_of (spaced_words line))

-- Scripts

-- a request, with its session
pub record Step : Type 0 where
  pub session : ℕ
  pub request : Request

-- a put, with the lines of its body so far
pub record OpenPut : Type 0 where
  pub opening : Opening
  pub body : List ℕ

-- what has begun and has no end yet: a put; a group, with its edits so far; or a put of a group
pub data Begun : Type 0 where
  InPut : (session : ℕ) (put : OpenPut) → Begun
  InGroup : (session : ℕ) (edits : List Edit) → Begun
  InGroupPut : (session : ℕ) (edits : List Edit) (put : OpenPut) → Begun

abbrev pub open_body : Opening → OpenPut
open_body opening = record { opening = opening; body = [] }

abbrev pub whole_edit : OpenPut → Edit
whole_edit put = with_body put.opening put.body

abbrev pub with_line : OpenPut → List ℕ → OpenPut
with_line put line = record { opening = put.opening; body = put.body ++ line ++ line_feed ∷ [] }

-- what a line leads to: the step that it ends, if it ends one, and what is begun behind it
pub record Turn : Type 0 where
  pub step : Option Step
  pub begun : Option Begun

abbrev pub goes_on : Option Begun → Turn
goes_on begun = record { step = None; begun = begun }

abbrev pub ends : ℕ → Request → Turn
ends session request = record { step = Some (record { session = session; request = request }); begun = None }

abbrev pub is_body_end : List ℕ → Bool
is_body_end line = bytes_eq line (codes ".")

abbrev pub is_group_end : List ℕ → Bool
is_group_end line = bytes_eq line (codes "end")

-- a group goes on behind a line of its own
abbrev pub turn_edit : ℕ → List Edit → Result (Option EditCommand) ScriptCode → Result Turn ScriptCode
turn_edit session edits (Ok None) = Ok (goes_on (Some (InGroup session edits)))
turn_edit session edits (Ok (Some (WholeEdit edit))) = Ok (goes_on (Some (InGroup session (edits ++ edit ∷ []))))
turn_edit session edits (Ok (Some (OpensBody opening))) =
    Ok (goes_on (Some (InGroupPut session edits (open_body opening))))
turn_edit session edits (Err code) = Err code

abbrev pub turn_within : Begun → List ℕ → Result Turn ScriptCode
turn_within (InPut session put) line =
    if is_body_end line then Ok (ends session (Single (whole_edit put)))
    else Ok (goes_on (Some (InPut session (with_line put line))))
turn_within (InGroup session edits) line =
    if is_group_end line then Ok (ends session (Group edits))
    else turn_edit session edits (edit_line (length edits) line)
turn_within (InGroupPut session edits put) line =
    if is_body_end line then Ok (goes_on (Some (InGroup session (edits ++ whole_edit put ∷ []))))
    else Ok (goes_on (Some (InGroupPut session edits (with_line put line))))

abbrev pub turn_in : ℕ → Command → Turn
turn_in session (Edits (WholeEdit edit)) = ends session (Single edit)
turn_in session (Edits (OpensBody opening)) = goes_on (Some (InPut session (open_body opening)))
turn_in session (Whole request) = ends session request
turn_in session OpensGroup = goes_on (Some (InGroup session []))

abbrev pub turn_outside : Result (Option AskedLine) ScriptCode → Result Turn ScriptCode
turn_outside (Ok None) = Ok (goes_on None)
turn_outside (Ok (Some asked)) = Ok (turn_in asked.session asked.command)
turn_outside (Err code) = Err code

abbrev pub turn_of_text : LineReading → ℕ → Option Begun → List ℕ → Result Turn ScriptCode
turn_of_text reads count None line = turn_outside (reads count line)
turn_of_text reads count (Some begun) line = turn_within begun line

-- what a line leads to behind so many requests, within a put or a group or outside
abbrev pub turn : LineReading → ℕ → Option Begun → List ℕ → Result Turn ScriptCode
turn reads count begun line = if is_utf8 line then turn_of_text reads count begun line else Err faults.NotUtf8

-- how many requests there are behind a line
abbrev pub count_after : ℕ → Option Step → ℕ
count_after count None = count
count_after count (Some step) = count + 1

-- what a line and those that follow say
abbrev pub then_steps : Option Step → Result (List Step) ScriptFault → Result (List Step) ScriptFault
then_steps step (Ok steps) = Ok (option_to_list step ++ steps)
then_steps step (Err fault) = Err fault

abbrev pub is_no_line : List (List ℕ) → Bool
is_no_line [] = true
is_no_line (line ∷ lines) = false

-- The requests of lines behind so many lines and requests, within a put or a group or outside; or the first faulty line
-- with its first fault. If the text is too long, its last line is the one that holds the first byte beyond the limit.
abbrev pub steps_from : LineReading → Bool → ℕ → ℕ → Option Begun → List (List ℕ) → Result (List Step) ScriptFault
steps_from reads long number count None [] = Ok []
steps_from reads long number count (Some begun) [] = Err (record { code = faults.NoEnd; line = number })
steps_from reads long number count begun (line ∷ lines) =
    if long && is_no_line lines
    then Err (record { code = faults.TooLong; line = number + 1 })
    else elim (turn reads count begun line) [
      | Ok next ↦ then_steps next.step (steps_from reads long (number + 1)
          (count_after count next.step) next.begun lines)
      | Err code ↦ Err (record { code = code; line = number + 1 })
    ]

-- the steps of a script, or its first fault
unfoldable pub script_of : List ℕ → Result (List Step) ScriptFault
script_of bytes =
    let is_long = nat_lt script_limit (length bytes) in
    steps_from script_line is_long 0 0 None (lines_of (take (script_limit + 1) bytes))
