-- What a session has done so far (own), between two of its steps.
use Rattle.std.specs.Prelude.{◌≡◌, ◌≤◌, ◌++◌, List, [], ◌∷◌, None, Some, Result, Ok, Err, OnOk, flat_map, length, map}
use Rattle.dita_doc.specs.Bytes.{Bytes}
use Rattle.dita_doc.specs.Request.{Request}
use Rattle.dita_doc.specs.Seen.{request_seen}
use Rattle.dita_doc.specs.declared.request.Request as given
use Rattle.dita_outside.specs.Links.{HasFewer, HasMore, LinkTold, Messages}
use Rattle.script_text.specs.Faults.{rejection_line}
use Rattle.script_text.specs.Pieces.{Completes, Fails}
use Rattle.script_text.specs.Reader.{StandsFor}
use Rattle.script_text.specs.Requests.{requests_of}
use Rattle.script_text.specs.declared.request_reader.RequestReader.{RequestReader}
use Rattle.desk_lock.specs.declared.view.View.{View}
use Rattle.desk_session.specs.Answers.{AreAnswered, CleanBuild, SessionAnswer, all_messages, places_of}
use Rattle.desk_session.specs.Asking.{GoesOn}
use Rattle.desk_session.specs.Ends.{behind_all, read_of}
use Rattle.desk_session.specs.Pass.{ServesPass, basis_of}
use Rattle.desk_session.specs.Saying.{IsLinkEnd, Says}
use Rattle.desk_session.specs.declared.end.SessionEnd.{SessionEnd}
use Rattle.desk_session.specs.declared.end.SessionEnd.TheVariants.{Closed, LinkFault, Script, Full, NoMemory}
use Rattle.desk_session.specs.declared.serve.Reading.{Reading}

-- where a session began: what its pass knew, and what its link told
pub record Start : Type 0 where
  pub view : View
  pub told : LinkTold

-- these messages were received, and these requests were answered; all messages of the answers were sent
pub record HasAnswered (clean : CleanBuild) (start : Start) (w : View) (now : LinkTold) (received : Messages)
    (requests : List Request) (answers : List SessionAnswer) : Type 0 where
  pub on : GoesOn start.view w (places_of answers)
  pub answered : AreAnswered (basis_of clean start.view w) 1 (length start.view.seen) requests answers
  pub within : behind_all (length start.view.seen) answers ≤ length w.seen
  pub got : HasFewer start.told.left now.left received
  pub sent : HasMore start.told.sent now.sent (all_messages answers)
  pub sure : now.faults ≡ start.told.faults

-- what was received, put together
abbrev pub bytes_of : Messages → Bytes
bytes_of received = flat_map (λ (message : Bytes). message) received

-- between two messages: each whole request is answered, and no line is faulty
pub record Waits (clean : CleanBuild) (start : Start) (w : View) (now : LinkTold) (reading : Reading) : Type 0 where
  pub received : Messages
  pub answers : List SessionAnswer
  pub has : HasAnswered clean start w now received (read_of received).requests answers
  pub sound : (read_of received).fault ≡ None
  pub stands : StandsFor reading.reader (Some (bytes_of received))
  pub count : reading.number ≡ length answers

-- a message came, of which this is still to be read, behind a text of which each whole request is answered
pub record MayRead (clean : CleanBuild) (start : Start) (w : View) (now : LinkTold) (reading : Reading) (piece : Bytes)
    : Type 0 where
  pub before : Messages
  pub message : Bytes
  pub answers : List SessionAnswer
  pub text : Bytes
  pub has : HasAnswered clean start w now (before ++ message ∷ []) (requests_of text).requests answers
  pub whole : text ++ piece ≡ bytes_of (before ++ message ∷ [])
  pub waited : length (read_of before).requests ≤ length answers
  pub sound : (read_of before).fault ≡ None
  pub stands : StandsFor reading.reader (Some text)
  pub count : reading.number ≡ length answers

-- a message came and was read, and these requests are still to be answered
pub record HasLeft (clean : CleanBuild) (start : Start) (w : View) (now : LinkTold) (reading : Reading)
    (left : List Request) : Type 0 where
  pub before : Messages
  pub message : Bytes
  pub answers : List SessionAnswer
  pub requests : List Request
  pub has : HasAnswered clean start w now (before ++ message ∷ []) requests answers
  pub read : (read_of (before ++ message ∷ [])).requests ≡ requests ++ left
  pub waited : length (read_of before).requests ≤ length answers
  pub sound : (read_of before).fault ≡ None
  pub stands : StandsFor reading.reader (Some (bytes_of (before ++ message ∷ [])))
  pub count : reading.number ≡ length answers

-- Steps

-- what is read of a piece behind a text; a fault was told
abbrev pub ReadsPiece : (text piece : Bytes) → Result (List given.Request) SessionEnd → LinkTold → LinkTold → Type 0
ReadsPiece text piece (Ok requests) old new =
    Completes (requests_of text) (requests_of (text ++ piece)) (map request_seen requests) × (new ≡ old)
ReadsPiece text piece (Err (Script fault)) old new = Fails (requests_of text) (requests_of (text ++ piece)) fault
    × Says old new (rejection_line fault ∷ []) × (new.faults ≡ old.faults)
ReadsPiece text piece (Err LinkFault) old new = Says old new [] × IsLinkEnd LinkFault old.faults new.faults
ReadsPiece text piece (Err NoMemory) old new = Says old new []
ReadsPiece text piece (Err Closed) old new = ⊥
ReadsPiece text piece (Err (Full full)) old new = ⊥

-- a reader was given a piece
pub record Reads (was : RequestReader) (piece : Bytes) (answer : Result (List given.Request) SessionEnd) (is : RequestReader)
    (old new : LinkTold) : Type 0 where
  pub stands : (text : Bytes) → StandsFor was (Some text) → OnOk answer (StandsFor is (Some (text ++ piece)))
  pub answers : (text : Bytes) → StandsFor was (Some text) → ReadsPiece text piece answer old new

-- how the session ends, if a step leads to its end
abbrev pub Ends : CleanBuild → Start → View → LinkTold → SessionEnd → Type 0
Ends clean start w now ended = ServesPass clean start.view w start.told now ended

-- these requests are left, or the session ended
abbrev pub Leaves : CleanBuild → Start → List Request → Result (Unit {0}) SessionEnd → View → LinkTold → Reading → Type 0
Leaves clean start left (Ok done) w now reading = HasLeft clean start w now reading left
Leaves clean start left (Err ended) w now reading = Ends clean start w now ended

-- the session waits for the next message, or it ended
abbrev pub GoesAgain : CleanBuild → Start → Result (Unit {0}) SessionEnd → View → LinkTold → Reading → Type 0
GoesAgain clean start (Ok done) w now reading = Waits clean start w now reading
GoesAgain clean start (Err ended) w now reading = Ends clean start w now ended

-- What a step does is said of each session that is at this step, wherever it began

-- one request was answered, if it was the first of those that were left
abbrev pub AnswersOne : CleanBuild → Request → View → LinkTold → Reading → Result (Unit {0}) SessionEnd → View → LinkTold
    → Reading → Type 0
AnswersOne clean request v old was answer w now is = (start : Start) (left : List Request)
    → HasLeft clean start v old was (request ∷ left) → Leaves clean start left answer w now is

-- all of these were, if they were left
abbrev pub AnswersAll : CleanBuild → List Request → View → LinkTold → Reading → Result (Unit {0}) SessionEnd → View
    → LinkTold → Reading → Type 0
AnswersAll clean requests v old was answer w now is = (start : Start)
    → HasLeft clean start v old was requests → Leaves clean start [] answer w now is

-- a message was read, and its requests were answered
abbrev pub Takes : CleanBuild → Bytes → View → LinkTold → Reading → Result (Unit {0}) SessionEnd → View → LinkTold
    → Reading → Type 0
Takes clean message v old was answer w now is = (start : Start)
    → MayRead clean start v old was message → GoesAgain clean start answer w now is

-- a message was received and taken
abbrev pub Turns : CleanBuild → View → LinkTold → Reading → Result (Unit {0}) SessionEnd → View → LinkTold → Reading
    → Type 0
Turns clean v old was answer w now is = (start : Start)
    → Waits clean start v old was → GoesAgain clean start answer w now is

-- the session went on to its end
abbrev pub GoesToEnd : CleanBuild → View → LinkTold → Reading → SessionEnd → View → LinkTold → Type 0
GoesToEnd clean v old was ended w now = (start : Start)
    → Waits clean start v old was → Ends clean start w now ended
