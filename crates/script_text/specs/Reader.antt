-- What a reader of requests has read.
use Rattle.std.specs.Prelude.{◌≡◌, ◌+◌, ◌<◌, ◌++◌, ℕ, List, [], ◌∷◌, Option, Some, None, min, map}
use Rattle.dita_doc.specs.Bytes.{Bytes}
use Rattle.dita_doc.specs.Request.{Request}
use Rattle.dita_doc.specs.Seen.{request_seen}
use Rattle.dita_doc.specs.declared.request.Request as given
use Rattle.dita_doc.specs.declared.stop.Stop.{Stop}
use Rattle.dita_doc.specs.declared.stop.Stop.TheVariants.{Fault, NoMemory}
use Rattle.pyx_text.specs.Pieces.{ReadSoFar}
use Rattle.script_text.specs.Machine.{pending_seen}
use Rattle.script_text.specs.Requests.{behind, ended_from, read_lines, requests_of}
use Rattle.script_text.specs.declared.fault.ScriptCode.{ScriptCode}
use Rattle.script_text.specs.declared.fault.ScriptFault.{ScriptFault}
use Rattle.script_text.specs.declared.request_machine.RequestMachine.{RequestMachine}
use Rattle.script_text.specs.declared.request_machine.Fed as given_by
use Rattle.script_text.specs.declared.request_state.RequestState.{RequestState}
use Rattle.script_text.specs.declared.request_state.RequestState.TheVariants.{Reading, Stopped}

-- the greatest number that a line can have in a fault
abbrev pub last_number : ℕ
last_number = 4294967295

-- the fault of the line behind so many; a greater number than that is not told
abbrev pub IsFaultBehind : ScriptCode → ℕ → Stop ScriptFault → Type 0
IsFaultBehind code number (Fault fault) =
    (fault ≡ record { code = code; line = number + 1 }) × (number < last_number)
IsFaultBehind code number NoMemory = Unit {0}

-- The machine stands for a text: whatever follows, it reads as behind that text.
pub record IsAt (machine : RequestMachine) (text : Bytes) : Type 0 where
  pub lines : ℕ
  pub counted : machine.number ≡ min lines last_number
  pub same : (rest : Bytes) → requests_of (text ++ rest) ≡ behind (requests_of text).requests
      (read_lines lines (pending_seen machine.machine.begun) (ended_from machine.line.items rest))

-- a machine that stands for some text
abbrev pub IsReading : RequestMachine → Type 0
IsReading machine = (text : Bytes) × IsAt machine text

abbrev pub request_in_seen : Option given.Request → List Request
request_in_seen None = []
request_in_seen (Some request) = request_seen request ∷ []

-- the machine stands for a longer text, which has these requests more than another
pub record IsBehind (machine : RequestMachine) (text longer : Bytes) (more : List Request) : Type 0 where
  pub at : IsAt machine longer
  pub requests : (requests_of longer).requests ≡ (requests_of text).requests ++ more

-- whatever follows a text, these are the requests, and this is the fault
abbrev pub Stays : Bytes → List Request → ScriptFault → Type 0
Stays text requests fault = (rest : Bytes) → requests_of (text ++ rest) ≡ record { requests = requests; fault = Some fault }

-- a longer text tells the fault that stops its reading, and has no request more
abbrev pub IsTold : Stop ScriptFault → Bytes → Bytes → Type 0
IsTold (Fault fault) text longer = Stays longer (requests_of text).requests fault
IsTold NoMemory text longer = Unit {0}

-- what a machine read up to a longer text
abbrev pub HasReadTo : RequestMachine → Bytes → Bytes → List Request → Option ScriptFault → Type 0
HasReadTo machine text longer more None = IsBehind machine text longer more
HasReadTo machine text longer more (Some fault) = Stays longer ((requests_of text).requests ++ more) fault

abbrev pub HasFed : RequestMachine → Bytes → Bytes → given_by.Fed → Type 0
HasFed machine text longer fed = HasReadTo machine text longer (map request_seen fed.requests) fed.fault

-- Readers

-- What was read stands for a text: whatever follows, it is read as behind that text, or the fault stands. Once memory
-- ran out, it stands for no text.
abbrev pub StandsFor : RequestState → ReadSoFar → Type 0
StandsFor (Reading machine) (Some text) = IsAt machine text
StandsFor (Reading machine) None = ⊥
StandsFor (Stopped (Fault fault)) (Some text) = Stays text (requests_of text).requests fault
StandsFor (Stopped (Fault fault)) None = ⊥
StandsFor (Stopped NoMemory) (Some text) = ⊥
StandsFor (Stopped NoMemory) None = Unit {0}

-- what was read stands for something
abbrev pub IsRead : RequestState → Type 0
IsRead state = (so_far : ReadSoFar) × StandsFor state so_far
