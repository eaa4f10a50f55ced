-- What a piece makes of what was read, and what the end makes of it.
use Rattle.std.proofs.Common.{◌≡◌, List, [], ◌++◌, None, Some, Result, Ok, Err, sym, refl, subst, append_assoc, append-nil}
use Rattle.dita_doc.specs.Bytes.{Bytes}
use Rattle.dita_doc.specs.Gives.{IsStopOf}
use Rattle.dita_doc.specs.Pyx.{reading}
use Rattle.dita_doc.specs.declared.doc.Node.{Node}
use Rattle.dita_doc.specs.declared.fault.PyxFault.{PyxFault}
use Rattle.dita_doc.specs.declared.stop.Stop.{Stop}
use Rattle.dita_doc.specs.declared.stop.Stop.TheVariants.{Fault, NoMemory}
use Rattle.pyx_text.specs.Pieces.{ReadSoFar, Feeds, AnswersPiece, TellsFault, read_after}
use Rattle.pyx_text.specs.Read.{AreRead}
use Rattle.pyx_text.specs.Reader.{IsAt, IsTold, IsRead, IsReadSoFar}
use Rattle.pyx_text.specs.declared.text_machine.TextMachine.{TextMachine}
use Rattle.pyx_text.specs.declared.text_state.TextState.{TextState}
use Rattle.pyx_text.specs.declared.text_state.TextState.TheVariants.{Reading, Stopped}
use Rattle.pyx_text.proofs.ReaderLaws.{quiet}

-- a text with nothing behind it
told_here : (text : Bytes) (fault : PyxFault) → ((rest : Bytes) → TellsFault (text ++ rest) fault)
    → TellsFault text fault
told_here text fault told = subst (λ (bytes : Bytes). TellsFault bytes fault) (append-nil text) (told [])

-- a machine took a piece
goes_on_stands : (old new : TextMachine) (piece : Bytes)
    → ((text : Bytes) → IsAt old text → IsAt new (text ++ piece)) → (was : ReadSoFar) → IsReadSoFar (Reading old) was
    → IsReadSoFar (Reading new) (read_after {A = Unit {0}} {E = PyxFault} was piece (Ok tt))
goes_on_stands old new piece at None stands = absurd stands
goes_on_stands old new piece at (Some text) stands = at text stands

pub feeds_on : (old new : TextMachine) (piece : Bytes)
    → ((text : Bytes) → IsAt old text → IsAt new (text ++ piece))
    → Feeds IsReadSoFar AnswersPiece (Reading old) piece (Ok tt) (Reading new)
feeds_on old new piece at = record {
  stands = goes_on_stands old new piece at;
  answers = λ text stands fault told. quiet new (text ++ piece) (at text stands) fault told;
  spent = λ none. absurd none;
}

-- a machine stopped at a piece
stop_stands : (old : TextMachine) (piece : Bytes) (stop : Stop PyxFault)
    → ((text rest : Bytes) → IsAt old text → IsTold stop ((text ++ piece) ++ rest)) → (was : ReadSoFar)
    → IsReadSoFar (Reading old) was
    → IsReadSoFar (Stopped stop) (read_after {A = Unit {0}} was piece (Err stop))
stop_stands old piece stop told None stands = absurd stands
stop_stands old piece (Fault fault) told (Some text) stands = λ rest. told text rest stands
stop_stands old piece NoMemory told (Some text) stands = tt

stop_answers : (old : TextMachine) (piece : Bytes) (stop : Stop PyxFault)
    → ((text rest : Bytes) → IsAt old text → IsTold stop ((text ++ piece) ++ rest)) → (text : Bytes) → IsAt old text
    → AnswersPiece text piece (Err stop)
stop_answers old piece (Fault fault) told text stands =
    told_here (text ++ piece) fault (λ rest. told text rest stands)
stop_answers old piece NoMemory told text stands = tt

pub feeds_stop : (old : TextMachine) (piece : Bytes) (stop : Stop PyxFault)
    → ((text rest : Bytes) → IsAt old text → IsTold stop ((text ++ piece) ++ rest))
    → Feeds IsReadSoFar AnswersPiece (Reading old) piece (Err stop) (Stopped stop)
feeds_stop old piece stop told = record {
  stands = stop_stands old piece stop told;
  answers = stop_answers old piece stop told;
  spent = λ none. absurd none;
}

-- a stop is answered again
again_stands : (piece : Bytes) (stop : Stop PyxFault) (was : ReadSoFar) → IsReadSoFar (Stopped stop) was
    → IsReadSoFar (Stopped stop) (read_after {A = Unit {0}} was piece (Err stop))
again_stands piece (Fault fault) None stands = absurd stands
again_stands piece (Fault fault) (Some text) stands =
    λ rest. subst (λ (bytes : Bytes). TellsFault bytes fault) (sym (append_assoc text piece rest)) (stands (piece ++ rest))
again_stands piece NoMemory None stands = tt
again_stands piece NoMemory (Some text) stands = absurd stands

again_answers : (piece : Bytes) (stop : Stop PyxFault) (text : Bytes) → IsReadSoFar (Stopped stop) (Some text)
    → AnswersPiece text piece (Err stop)
again_answers piece (Fault fault) text stands = stands piece
again_answers piece NoMemory text stands = tt

again_spent : (stop : Stop PyxFault) → IsReadSoFar (Stopped stop) None → let answer : Result (Unit {0}) (Stop PyxFault) = Err stop in answer ≡ Err NoMemory
again_spent (Fault fault) none = absurd none
again_spent NoMemory none = refl

pub feeds_again : (piece : Bytes) (stop : Stop PyxFault)
    → Feeds IsReadSoFar AnswersPiece (Stopped stop) piece (Err stop) (Stopped stop)
feeds_again piece stop = record {
  stands = again_stands piece stop;
  answers = again_answers piece stop;
  spent = again_spent stop;
}

-- the end behind a stop
pub ends_told : (stop : Stop PyxFault) (text : Bytes) → IsReadSoFar (Stopped stop) (Some text)
    → IsStopOf stop (reading text)
ends_told (Fault fault) text stands =
    let told = told_here text fault stands in
    told.first
ends_told NoMemory text stands = tt

pub ends_spent : {A : Type 0} (stop : Stop PyxFault) → IsReadSoFar (Stopped stop) None
    → let answer : Result A (Stop PyxFault) = Err stop in answer ≡ Err NoMemory
ends_spent (Fault fault) none = absurd none
ends_spent NoMemory none = refl

-- the nodes that were read are those of some text
pub nodes_of_text : (state : TextState) (nodes : List Node) → IsRead state
    → ((text : Bytes) → IsReadSoFar state (Some text) → AreRead nodes text)
    → (let answer : Result (List Node) (Stop PyxFault) = Ok nodes in IsReadSoFar state None → answer ≡ Err NoMemory)
    → (text : Bytes) × AreRead nodes text
nodes_of_text state nodes (None, stands) tree spent = absurd (let e = spent stands in cc)
nodes_of_text state nodes (Some text, stands) tree spent = (text, tree text stands)
