-- What the reading of a script says of it.
use Rattle.std.specs.Prelude.{◌≡◌, ◌<◌, ℕ, List, ◌∷◌, length, map}
use Rattle.dita_doc.specs.Lines.{lines_of}
use Rattle.dita_doc.specs.Seen.{request_seen}
use Rattle.dita_doc.specs.declared.request.Request.{Request}
use Rattle.dita_doc.specs.declared.stop.Stop.{Stop}
use Rattle.dita_doc.specs.declared.stop.Stop.TheVariants.{Fault, NoMemory}
use Rattle.script_text.specs.Script.{Step}
use Rattle.script_text.specs.declared.fault.ScriptCode.{ScriptCode}
use Rattle.script_text.specs.declared.fault.ScriptFault.{ScriptFault}

abbrev pub step_seen : ℕ × Request → Step
step_seen step = record { session = step.0; request = request_seen step.1 }

abbrev pub steps_seen : List (ℕ × Request) → List Step
steps_seen steps = map step_seen steps

-- the first line of some bytes, and those behind it
pub record BeginsLine (bytes line rest : List ℕ) : Type 0 where
  pub lines : lines_of bytes ≡ line ∷ lines_of rest
  pub shorter : length rest < length bytes

-- the stop, with the line of its fault
abbrev pub at_line : Stop ScriptCode → ℕ → Stop ScriptFault
at_line (Fault code) line = Fault (record { code = code; line = line })
at_line NoMemory line = NoMemory
