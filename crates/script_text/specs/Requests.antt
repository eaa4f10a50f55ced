-- The requests of a session over a link (own): the lines of a script without the session in front, each ended by LF. As
-- many lines and requests as come are read, and lines are counted over all that was received. A rest without LF is not
-- read, and a put or a group without an end is no request yet.
use Rattle.std.specs.Prelude.{◌+◌, ◌==◌, ◌++◌, ℕ, List, [], ◌∷◌, Option, Some, None, Result, Ok, Err, if◌then◌else◌}
use Rattle.dita_doc.specs.Bytes.{Bytes, line_feed, spaced_words}
use Rattle.dita_doc.specs.Request.{Request}
use Rattle.script_text.specs.Script.{AskedLine, Begun, Command, LineReading, Step, command_of, is_passed, turn}
use Rattle.script_text.specs.declared.fault.ScriptCode.{ScriptCode}
use Rattle.script_text.specs.declared.fault.ScriptFault.{ScriptFault}

-- a line has no session of its own
abbrev pub asked_alone : Result Command ScriptCode → Result (Option AskedLine) ScriptCode
asked_alone (Ok command) = Ok (Some (record { session = 0; command = command }))
asked_alone (Err code) = Err code

-- how lines are read outside bodies and groups, however many requests stand before them
abbrev pub request_line : LineReading
request_line count line = if is_passed line then Ok None else asked_alone (command_of (spaced_words line))

-- the lines that are ended, if this much of the first of them stands before the bytes
abbrev pub ended_from : Bytes → Bytes → List Bytes
ended_from line [] = []
ended_from line (b ∷ bytes) =
    if b == line_feed then line ∷ ended_from [] bytes else ended_from (line ++ b ∷ []) bytes

-- the requests that are whole, in order, and the fault of the first faulty line, behind which nothing is read
pub record RequestsRead : Type 0 where
  pub requests : List Request
  pub fault : Option ScriptFault

abbrev pub request_in : Option Step → List Request
request_in None = []
request_in (Some step) = step.request ∷ []

abbrev pub behind : List Request → RequestsRead → RequestsRead
behind first read = record { requests = first ++ read.requests; fault = read.fault }

-- what lines say behind so many lines, within a put or a group or outside
abbrev pub read_lines : ℕ → Option Begun → List Bytes → RequestsRead
read_lines number begun [] = record { requests = []; fault = None }
read_lines number begun (line ∷ lines) = elim (turn request_line 0 begun line) [
  | Ok next ↦ behind (request_in next.step) (read_lines (number + 1) next.begun lines)
  | Err code ↦ record { requests = []; fault = Some (record { code = code; line = number + 1 }) }
]

-- what is read of all that was received so far
unfoldable pub requests_of : Bytes → RequestsRead
requests_of text = read_lines 0 None (ended_from [] text)
