-- Requests that are read in pieces (own). A reader answers the requests that a piece completes. The fault of the first
-- faulty line is answered once all whole requests before it are: to a piece that completes none, and from then on to
-- each. What `pyx_text` says of readers in pieces is said of this one too.
use Rattle.std.specs.Prelude.{◌≡◌, ◌++◌, List, [], Some, None, Result, Ok, Err, All, IfOk, map}
use Rattle.dita_doc.specs.Bytes.{Bytes}
use Rattle.dita_doc.specs.Request.{Request, HasFewEdits, IsUtf8Request}
use Rattle.dita_doc.specs.Seen.{HasOwnOrigin, request_seen}
use Rattle.dita_doc.specs.declared.request.Request as given
use Rattle.dita_doc.specs.declared.stop.Stop.{Stop}
use Rattle.dita_doc.specs.declared.stop.Stop.TheVariants.{Fault, NoMemory}
use Rattle.script_text.specs.Requests.{RequestsRead, requests_of}
use Rattle.script_text.specs.declared.fault.ScriptFault.{ScriptFault}

-- these requests are whole now and were not before; if there are none, no line is faulty
pub record Completes (before now : RequestsRead) (requests : List Request) : Type 0 where
  pub more : now.requests ≡ before.requests ++ requests
  pub sound : requests ≡ [] → now.fault ≡ None

-- no request is whole now that was not before, and this is the fault of the first faulty line
pub record Fails (before now : RequestsRead) (fault : ScriptFault) : Type 0 where
  pub none : now.requests ≡ before.requests
  pub told : now.fault ≡ Some fault

-- what is answered to a piece behind a text
abbrev pub AnswersPiece : (text piece : Bytes) → Result (List given.Request) (Stop ScriptFault) → Type 0
AnswersPiece text piece (Ok requests) =
    Completes (requests_of text) (requests_of (text ++ piece)) (map request_seen requests)
AnswersPiece text piece (Err (Fault fault)) = Fails (requests_of text) (requests_of (text ++ piece)) fault
AnswersPiece text piece (Err NoMemory) = Unit {0}

-- a request that a desk takes: a document that it is to store has the name that it is stored under, a group has few
-- edits, and its names and bodies are UTF-8
pub record IsTaken (request : given.Request) : Type 0 where
  pub own : HasOwnOrigin request
  pub few : HasFewEdits (request_seen request)
  pub utf8 : IsUtf8Request (request_seen request)

-- so is each request that is answered
abbrev pub AreTaken : Result (List given.Request) (Stop ScriptFault) → Type 0
AreTaken answer = IfOk answer (λ requests. All IsTaken requests)
