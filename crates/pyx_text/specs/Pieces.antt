-- Texts that are read in pieces (own). What a reader answers is said over the text that it was given so far, with all
-- pieces put together: how it was cut says nothing. A line counts as soon as its LF was given, and a rest without LF
-- tells no fault. Out of memory, a reader stands for no text any more.
use Rattle.std.specs.Prelude.{◌≡◌, ◌≤◌, ◌==◌, ◌++◌, ℕ, Bool, true, false, List, [], ◌∷◌, Option, Some, None, Result, Ok, Err, count_by}
use Rattle.dita_doc.specs.Bytes.{Bytes, line_feed}
use Rattle.dita_doc.specs.Gives.{IsStopOf}
use Rattle.dita_doc.specs.Pyx.{reading}
use Rattle.dita_doc.specs.declared.doc.Doc.{Doc}
use Rattle.dita_doc.specs.declared.fault.PyxCode.{PyxCode}
use Rattle.dita_doc.specs.declared.fault.PyxCode.TheVariants as codes
use Rattle.dita_doc.specs.declared.fault.PyxFault.{PyxFault}
use Rattle.dita_doc.specs.declared.stop.Stop.{Stop}
use Rattle.dita_doc.specs.declared.stop.Stop.TheVariants.{Fault, NoMemory}
use Rattle.pyx_text.specs.Read.{AreRead}

-- Readers of texts of any kind

-- what a reader stands for: the text that it was given so far, or nothing once memory ran out
abbrev pub ReadSoFar : Type 0
ReadSoFar = Option Bytes

-- a new reader stands for the empty text
abbrev pub read_nothing : ReadSoFar
read_nothing = Some []

-- what it stands for once a piece was answered so: for the text and the piece, also behind a fault
abbrev pub read_after : {A E : Type 0} → ReadSoFar → Bytes → Result A (Stop E) → ReadSoFar
read_after None piece answer = None
read_after (Some text) piece (Ok given) = Some (text ++ piece)
read_after (Some text) piece (Err (Fault fault)) = Some (text ++ piece)
read_after (Some text) piece (Err NoMemory) = None

-- A piece was given to a reader. `StandsFor` is the relation of readers to what they stand for, and `Answers` says what
-- may be answered to a piece behind a text. For every text that the reader stood for, the answer is right, and it now
-- stands for that text and the piece. Out of memory, it is and stays out of memory.
pub record Feeds {R A E : Type 0} (StandsFor : R → ReadSoFar → Type 0)
    (Answers : (text piece : Bytes) → Result A (Stop E) → Type 0) (old : R) (piece : Bytes) (answer : Result A (Stop E))
    (new : R)
    : Type 0 where
  pub stands : (was : ReadSoFar) → StandsFor old was → StandsFor new (read_after was piece answer)
  pub answers : (text : Bytes) → StandsFor old (Some text) → Answers text piece answer
  pub spent : StandsFor old None → answer ≡ Err NoMemory

-- what a reader stands for behind some pieces, each with its answer
abbrev pub read_behind : {A E : Type 0} → ReadSoFar → List (Bytes × Result A (Stop E)) → ReadSoFar
read_behind was [] = was
read_behind was (fed ∷ more) = read_behind (read_after was fed.0 fed.1) more

-- PYX

-- whether a fault of this code is one of a line: that an element is open, or that there is none, shows only at the end
abbrev pub is_of_line : PyxCode → Bool
is_of_line codes.BadLine = true
is_of_line codes.Entity = true
is_of_line codes.AttributePlace = true
is_of_line codes.AttributeTwice = true
is_of_line codes.Unclosed = false
is_of_line codes.CloseMismatch = true
is_of_line codes.NoRoot = false
is_of_line codes.SecondRoot = true
is_of_line codes.TextOutside = true
is_of_line codes.TooDeep = true
is_of_line codes.TooLong = true
is_of_line codes.NotUtf8 = true

-- how many lines of a text are ended
abbrev pub ended_lines : Bytes → ℕ
ended_lines text = count_by (λ byte. byte == line_feed) text

-- The text tells this fault, whatever follows: it is that of its first faulty line, and this line is ended.
pub record TellsFault (text : Bytes) (fault : PyxFault) : Type 0 where
  pub first : reading text ≡ Err fault
  pub line : is_of_line fault.code ≡ true
  pub ended : fault.line ≤ ended_lines text

-- what is answered to a piece behind a text: the fault that the two together tell, exactly if they tell one
abbrev pub AnswersPiece : (text piece : Bytes) → Result (Unit {0}) (Stop PyxFault) → Type 0
AnswersPiece text piece (Ok done) = (fault : PyxFault) → TellsFault (text ++ piece) fault → ⊥
AnswersPiece text piece (Err (Fault fault)) = TellsFault (text ++ piece) fault
AnswersPiece text piece (Err NoMemory) = Unit {0}

-- what is answered at the end of a text that was read under a name: what `read_pyx` answers of the whole of it
abbrev pub AnswersEnd : (name text : Bytes) → Result Doc (Stop PyxFault) → Type 0
AnswersEnd name text (Ok doc) = AreRead doc.nodes text × (doc.origins ≡ name ∷ [])
AnswersEnd name text (Err stop) = IsStopOf stop (reading text)

-- a reader of a text under a name came to the end
pub record Finishes {R : Type 0} (StandsFor : R → ReadSoFar → Type 0) (name : Bytes) (reader : R)
    (answer : Result Doc (Stop PyxFault)) : Type 0 where
  pub answers : (text : Bytes) → StandsFor reader (Some text) → AnswersEnd name text answer
  pub spent : StandsFor reader None → answer ≡ Err NoMemory
