-- What a reader of bytes has read.
use Rattle.std.specs.Prelude.{◌≡◌, ◌+◌, ◌*◌, ◌<◌, ◌≤◌, ℕ, Bool, true, false, List, ◌++◌, length, Some, None, Result, Err}
use Rattle.dita_doc.specs.Bytes.{Bytes}
use Rattle.dita_doc.specs.declared.fault.PyxCode.TheVariants as codes
use Rattle.dita_doc.specs.declared.fault.PyxFault.{PyxFault}
use Rattle.dita_doc.specs.declared.stop.Stop.{Stop}
use Rattle.dita_doc.specs.declared.stop.Stop.TheVariants.{Fault, NoMemory}
use Rattle.dita_doc.specs.PyxEvent.{Event}
use Rattle.dita_doc.specs.Pyx.{text_limit, ends, read_from, reading}
use Rattle.pyx_text.specs.declared.machine.PyxMachine.{PyxMachine}
use Rattle.pyx_text.specs.declared.text_machine.TextMachine.{TextMachine}
use Rattle.pyx_text.specs.declared.text_state.TextState.{TextState}
use Rattle.pyx_text.specs.declared.text_state.TextState.TheVariants.{Reading, Stopped}
use Rattle.pyx_text.specs.Machine.{HasRead, made_by, settled}
use Rattle.pyx_text.specs.Pieces.{ReadSoFar, TellsFault, ended_lines}

-- what the lines of a text say, or their first fault
abbrev pub EventsOrFault : Type 0
EventsOrFault = Result (List Event) PyxFault

-- a machine has read events that so many lines gave, of which each makes two nodes at most
pub record HasReadLines (machine : PyxMachine) (number : ℕ) (events : List Event) : Type 0 where
  pub read : HasRead machine events
  pub few : length (made_by (settled events)).nodes ≤ 2 * number

-- the line behind so many holds the first byte behind the limit
abbrev pub too_long : ℕ → PyxFault
too_long number = record { code = codes.TooLong; line = number + 1 }

-- what is read if these bytes follow; nothing that follows counts if the line at hand is over the limit
abbrev pub read_on : Bool → ℕ → List ℕ → ℕ → List Event → List ℕ → EventsOrFault
read_on true left line number before rest = Err (too_long number)
read_on false left line number before rest = read_from left line number before rest

-- The machine stands for a text: whatever follows, it reads as behind that text.
pub record IsAt (machine : TextMachine) (text : List ℕ) : Type 0 where
  pub before : List Event
  pub read : HasReadLines machine.machine machine.number before
  pub same : (rest : List ℕ) → reading (text ++ rest)
      ≡ read_on machine.over machine.left machine.line.items machine.number before rest
  pub ended : ended_lines text ≡ machine.number
  pub within : machine.number + machine.left ≤ text_limit
  pub not_over : 0 < machine.left → machine.over ≡ false

-- a machine that stands for some text
abbrev pub IsReadingText : TextMachine → Type 0
IsReadingText machine = (text : List ℕ) × IsAt machine text

-- the machine has read the whole of a text
pub record HasReadAll (machine : TextMachine) (text : List ℕ) : Type 0 where
  pub events : List Event
  pub read : HasReadLines machine.machine machine.number events
  pub same : reading text ≡ ends machine.number events
  pub within : machine.number ≤ text_limit + 1

-- the text tells the fault that stops its reading
abbrev pub IsTold : Stop PyxFault → Bytes → Type 0
IsTold (Fault fault) text = TellsFault text fault
IsTold NoMemory text = Unit {0}

-- Readers

-- What was read stands for a text: whatever follows, it is read as behind that text, or the text tells the fault. Once
-- memory ran out, it stands for no text.
abbrev pub IsReadSoFar : TextState → ReadSoFar → Type 0
IsReadSoFar (Reading machine) (Some text) = IsAt machine text
IsReadSoFar (Reading machine) None = ⊥
IsReadSoFar (Stopped (Fault fault)) (Some text) = (rest : Bytes) → TellsFault (text ++ rest) fault
IsReadSoFar (Stopped (Fault fault)) None = ⊥
IsReadSoFar (Stopped NoMemory) (Some text) = ⊥
IsReadSoFar (Stopped NoMemory) None = Unit {0}

-- what was read stands for something
abbrev pub IsRead : TextState → Type 0
IsRead state = (so_far : ReadSoFar) × IsReadSoFar state so_far

-- a reader as contracts see it: the name of its document, and what was read
pub record Reader : Type 0 where
  pub name : Bytes
  pub state : TextState

-- the reader stands for a text, or for none once memory ran out
abbrev pub StandsFor : Reader → ReadSoFar → Type 0
StandsFor reader so_far = IsReadSoFar reader.state so_far
