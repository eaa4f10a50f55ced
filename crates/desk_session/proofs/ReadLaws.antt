-- What a reader answers to a piece, and what is told of it.
use Rattle.std.proofs.Common.{◌≡◌, List, [], ◌∷◌, Ok, Err, Some, refl, subst}
use Rattle.pyx_text.specs.Pieces.{Feeds}
use Rattle.dita_doc.specs.Bytes.{Bytes}
use Rattle.dita_doc.specs.declared.request.Request as given
use Rattle.dita_doc.specs.declared.stop.Stop.TheVariants as stops
use Rattle.dita_outside.specs.Links.{LinkTold}
use Rattle.script_text.specs.Faults.{rejection_line}
use Rattle.script_text.specs.Pieces.{AnswersPiece}
use Rattle.script_text.specs.Reader.{StandsFor}
use Rattle.script_text.specs.declared.fault.ScriptFault.{ScriptFault}
use Rattle.script_text.specs.declared.request_reader.RequestReader.{RequestReader}
use Rattle.desk_session.proofs.LinkLaws.{front_of_one, says_none}
use Rattle.desk_session.specs.Saying.{IsLinkEnd, Says, SaysFront}
use Rattle.desk_session.specs.SoFar.{Reads, ReadsPiece}
use Rattle.desk_session.specs.declared.end.SessionEnd.{SessionEnd}
use Rattle.desk_session.specs.declared.end.SessionEnd.TheVariants.{Closed, LinkFault, Script, Full, NoMemory}

module _ (was is : RequestReader) (piece : Bytes) where
  pub reads_some : (told : LinkTold) (requests : List given.Request)
      → Feeds StandsFor AnswersPiece was piece (Ok requests) is → Reads was piece (Ok requests) is told told
  reads_some told requests feeds = record {
    stands = λ text stands. feeds.stands (Some text) stands;
    answers = λ text stands. (feeds.answers text stands, refl);
  }

  pub reads_none : (told : LinkTold) → Reads was piece (Err NoMemory) is told told
  reads_none told = record { stands = λ text stands. tt; answers = λ text stands. says_none told }

  pub reads_fault : (old new : LinkTold) (fault : ScriptFault)
      → Feeds StandsFor AnswersPiece was piece (Err (stops.Fault fault)) is → Says old new (rejection_line fault ∷ [])
      → new.faults ≡ old.faults → Reads was piece (Err (Script fault)) is old new
  reads_fault old new fault feeds says sure = record {
    stands = λ text stands. tt;
    answers = λ text stands. (feeds.answers text stands, says, sure);
  }

  -- the fault could not be told
  untold : (text : Bytes) (old new : LinkTold) (ended : SessionEnd) → Says old new []
      → IsLinkEnd ended old.faults new.faults → ReadsPiece text piece (Err ended) old new
  untold text old new Closed says why = why
  untold text old new LinkFault says why = (says, why)
  untold text old new (Script fault) says why = absurd why
  untold text old new (Full full) says why = why
  untold text old new NoMemory says why = says

  pub reads_untold : (old new : LinkTold) (fault : ScriptFault) (ended : SessionEnd)
      → SaysFront old new ended (rejection_line fault ∷ []) → Reads was piece (Err ended) is old new
  reads_untold old new fault ended front = record {
    stands = λ text stands. tt;
    answers = λ text stands. untold text old new ended
        (subst (Says old new) (front_of_one front.front (rejection_line fault) front.next front.back front.all) front.says)
        front.why;
  }
