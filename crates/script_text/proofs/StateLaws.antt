-- What a piece makes of what was read.
use Rattle.std.proofs.Common.{◌≡◌, ◌==◌, ℕ, true, false, List, [], ◌∷◌, ◌++◌, Option, None, Some, Result, Ok, Err, length, map, sym, refl, ap, ◌∙◌, subst, append_assoc, append-nil}
use Rattle.std.proofs.lemmas.Bool.{eqb-true, eqb-false}
use Rattle.dita_doc.specs.Bytes.{Bytes}
use Rattle.dita_doc.specs.Request.{Request}
use Rattle.dita_doc.specs.Seen.{request_seen}
use Rattle.dita_doc.specs.declared.request.Request as given
use Rattle.dita_doc.specs.declared.stop.Stop.{Stop}
use Rattle.dita_doc.specs.declared.stop.Stop.TheVariants.{Fault, NoMemory}
use Rattle.pyx_text.specs.Pieces.{ReadSoFar, Feeds, read_after}
use Rattle.script_text.specs.Pieces.{AnswersPiece}
use Rattle.script_text.specs.Reader.{IsAt, IsBehind, StandsFor, Stays, HasReadTo, HasFed}
use Rattle.script_text.specs.Requests.{RequestsRead, requests_of}
use Rattle.script_text.specs.Machine.{pending_seen}
use Rattle.script_text.specs.declared.fault.ScriptFault.{ScriptFault}
use Rattle.script_text.specs.declared.request_machine.Fed.{Fed}
use Rattle.script_text.specs.declared.request_machine.RequestMachine.{RequestMachine}
use Rattle.script_text.specs.declared.request_state.RequestState.{RequestState}
use Rattle.script_text.specs.declared.request_state.RequestState.TheVariants.{Reading, Stopped}
use Rattle.script_text.proofs.RequestLaws.{read_of, reads_here}

-- no line of the text is faulty
sound_text : (machine : RequestMachine) (text : Bytes) → IsAt machine text → (requests_of text).fault ≡ None
sound_text machine text at =
    ap (λ (read : RequestsRead). read.fault)
    (reads_here text (requests_of text).requests at.lines (pending_seen machine.machine.begun) machine.line.items at.same)

-- a text whose fault stands, with nothing behind it
stays_here : (text : Bytes) (requests : List Request) (fault : ScriptFault) → Stays text requests fault
    → requests_of text ≡ read_of requests (Some fault)
stays_here text requests fault stays = ap requests_of (sym (append-nil text)) ∙ stays []

-- a piece is read well
read_stands : (old new : RequestMachine) (piece : Bytes) (requests : List given.Request)
    → ((text : Bytes) → IsAt old text → IsBehind new text (text ++ piece) (map request_seen requests))
    → (was : ReadSoFar) → StandsFor (Reading old) was
    → StandsFor (Reading new) (read_after {E = ScriptFault} was piece (Ok requests))
read_stands old new piece requests fed None stands = absurd stands
read_stands old new piece requests fed (Some text) stands = (fed text stands).at

pub feeds_on : (old new : RequestMachine) (piece : Bytes) (requests : List given.Request)
    → ((text : Bytes) → IsAt old text → IsBehind new text (text ++ piece) (map request_seen requests))
    → Feeds StandsFor AnswersPiece (Reading old) piece (Ok requests) (Reading new)
feeds_on old new piece requests fed = record {
  stands = read_stands old new piece requests fed;
  answers = λ text stands. record {
    more = (fed text stands).requests;
    sound = λ none. sound_text new (text ++ piece) (fed text stands).at;
  };
  spent = λ none. absurd none;
}

-- a fault behind requests that the piece completed, or behind none
module _ (old : RequestMachine) (piece : Bytes) (requests : List given.Request) (fault : ScriptFault)
    (fed : (text : Bytes) → IsAt old text
    → Stays (text ++ piece) ((requests_of text).requests ++ map request_seen requests) fault) where
  all_read : (text : Bytes) → IsAt old text
      → requests_of (text ++ piece) ≡ read_of ((requests_of text).requests ++ map request_seen requests) (Some fault)
  all_read text stands = stays_here (text ++ piece) _ fault (fed text stands)

  fault_stays : (text : Bytes) → IsAt old text → Stays (text ++ piece) (requests_of (text ++ piece)).requests fault
  fault_stays text stands =
      subst (λ (front : List Request). Stays (text ++ piece) front fault)
      (sym (ap (λ (read : RequestsRead). read.requests) (all_read text stands))) (fed text stands)

  later_stands : (was : ReadSoFar) → StandsFor (Reading old) was
      → StandsFor (Stopped (Fault fault)) (read_after {E = ScriptFault} was piece (Ok requests))
  later_stands None stands = absurd stands
  later_stands (Some text) stands = fault_stays text stands

  pub feeds_later : (length requests ≡ 0 → ⊥)
      → Feeds StandsFor AnswersPiece (Reading old) piece (Ok requests) (Stopped (Fault fault))
  feeds_later some = record {
    stands = later_stands;
    answers = λ text stands. record {
      more = ap (λ (read : RequestsRead). read.requests) (all_read text stands);
      sound = λ none. absurd (some (no_request requests none));
    };
    spent = λ none. absurd none;
  }
    where
      no_request : (requests : List given.Request) → map request_seen requests ≡ [] → length requests ≡ 0
      no_request [] none = refl
      no_request (request ∷ requests) none = absurd cc

  now_stands : (was : ReadSoFar) → StandsFor (Reading old) was
      → StandsFor (Stopped (Fault fault)) (read_after {A = List given.Request} was piece (Err (Fault fault)))
  now_stands None stands = absurd stands
  now_stands (Some text) stands = fault_stays text stands

  pub feeds_fault : length requests ≡ 0
      → Feeds StandsFor AnswersPiece (Reading old) piece (Err (Fault fault)) (Stopped (Fault fault))
  feeds_fault none = record {
    stands = now_stands;
    answers = λ text stands. record {
      none =
          ap (λ (read : RequestsRead). read.requests) (all_read text stands)
          ∙ no_more (requests_of text).requests requests none;
      told = ap (λ (read : RequestsRead). read.fault) (all_read text stands);
    };
    spent = λ none. absurd none;
  }
    where
      no_more : (front : List Request) (requests : List given.Request) → length requests ≡ 0
          → front ++ map request_seen requests ≡ front
      no_more front [] none = append-nil front
      no_more front (request ∷ requests) none = absurd cc

-- what a machine was fed, as the code gives it
module _ (state : RequestState) (old new : RequestMachine) (piece : Bytes) (fed : Fed) (is : state ≡ Reading old)
    (has : (text : Bytes) → IsAt old text → HasFed new text (text ++ piece) fed) where
  of_state : (answer : Result (List given.Request) (Stop ScriptFault)) (next : RequestState)
      → Feeds StandsFor AnswersPiece (Reading old) piece answer next
      → Feeds StandsFor AnswersPiece state piece answer next
  of_state answer next feeds =
      subst (λ (s : RequestState). Feeds StandsFor AnswersPiece s piece answer next) (sym is) feeds

  -- the whole piece was read
  pub fed_all : fed.fault ≡ None → Feeds StandsFor AnswersPiece state piece (Ok fed.requests) (Reading new)
  fed_all none = of_state (Ok fed.requests) (Reading new) (feeds_on old new piece fed.requests (λ text stands.
      subst (HasReadTo new text (text ++ piece) (map request_seen fed.requests)) none (has text stands)))

  module _ (fault : ScriptFault) (some : fed.fault ≡ Some fault) where
    stays : (text : Bytes) → IsAt old text
        → Stays (text ++ piece) ((requests_of text).requests ++ map request_seen fed.requests) fault
    stays text stands =
        subst (HasReadTo new text (text ++ piece) (map request_seen fed.requests)) some (has text stands)

    -- a fault was read behind requests
    pub fed_later : (length fed.requests == 0) ≡ false
        → Feeds StandsFor AnswersPiece state piece (Ok fed.requests) (Stopped (Fault fault))
    fed_later full =
        of_state (Ok fed.requests) (Stopped (Fault fault))
        (feeds_later old piece fed.requests fault stays (eqb-false (length fed.requests) 0 full))

    -- a fault was read, and no request
    pub fed_fault : (length fed.requests == 0) ≡ true
        → Feeds StandsFor AnswersPiece state piece (Err (Fault fault)) (Stopped (Fault fault))
    fed_fault empty =
        of_state (Err (Fault fault)) (Stopped (Fault fault))
        (feeds_fault old piece fed.requests fault stays (eqb-true (length fed.requests) 0 empty))
