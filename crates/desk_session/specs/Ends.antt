-- How a session over a link ends (own): what it received, which requests it answered, and what it sent. Requests are
-- answered in the order in which they are read, the first under the number 1. Messages are spoken of if the link tells
-- them.
use Rattle.std.specs.Prelude.{◌≡◌, ◌≤◌, ◌+◌, ◌++◌, ◌⊎◌, ℕ, List, [], ◌∷◌, None, Some, codes, flat_map, length, slice_get}
use Rattle.std.specs.Fmt.{decimal}
use Rattle.dita_doc.specs.Bytes.{Bytes}
use Rattle.dita_doc.specs.Lines.{line}
use Rattle.dita_doc.specs.Request.{Request}
use Rattle.dita_outside.specs.Cause.{Rose}
use Rattle.dita_outside.specs.Links.{HasFewer, HasMore, IsAtEnd, LinkTold, Messages}
use Rattle.script_text.specs.Faults.{rejection_line}
use Rattle.script_text.specs.Requests.{RequestsRead, requests_of}
use Rattle.script_text.specs.declared.fault.ScriptFault.{ScriptFault}
use Rattle.version_store.specs.Kept.{IsFull}
use Rattle.version_store.specs.declared.full.Full as full_declared
use Rattle.desk_session.specs.Answers.{SessionAnswer, AreAnswered, IsAnswered, SessionBasis, all_messages, entry_of, messages_of, places_of}
use Rattle.desk_session.specs.declared.end.SessionEnd.{SessionEnd}
use Rattle.desk_session.specs.declared.end.SessionEnd.TheVariants.{Closed, LinkFault, Script, Full, NoMemory}

-- what is read of these messages, put together
abbrev pub read_of : Messages → RequestsRead
read_of received = requests_of (flat_map (λ (message : Bytes). message) received)

-- The last message

abbrev pub full_message : full_declared.Full → Bytes
full_message full = line (codes "full " ++ decimal full.entries ++ codes " " ++ decimal full.bytes)

-- These messages were received. Of the requests that were read, the first were answered, and the others were not.
-- All messages of the answers were sent, and then these.
pub record Serves (on : SessionBasis) (old new : LinkTold) (received : Messages) (answers : List SessionAnswer)
    (others : List Request) (last : Messages) : Type 0 where
  pub requests : List Request
  pub read : (read_of received).requests ≡ requests ++ others
  pub answered : AreAnswered on 1 on.behind requests answers
  pub got : HasFewer old.left new.left received
  pub sent : HasMore old.sent new.sent (all_messages answers ++ last)

-- The ends. `places` are those of the entries that the session made.

-- each whole request was answered, no line is faulty, and the link gave its end
pub record EndsClosed (on : SessionBasis) (old new : LinkTold) (places : List ℕ) : Type 0 where
  pub received : Messages
  pub answers : List SessionAnswer
  pub serves : Serves on old new received answers [] []
  pub made : places ≡ places_of answers
  pub sound : (read_of received).fault ≡ None
  pub at_end : IsAtEnd new.left
  pub sure : new.faults ≡ old.faults

-- The last message that was received made a line faulty. Each whole request before this line was answered, and then its
-- fault was sent.
pub record EndsScript (on : SessionBasis) (fault : ScriptFault) (old new : LinkTold) (places : List ℕ) : Type 0 where
  pub before : Messages
  pub message : Bytes
  pub answers : List SessionAnswer
  pub serves : Serves on old new (before ++ message ∷ []) answers [] (rejection_line fault ∷ [])
  pub made : places ≡ places_of answers
  pub sound : (read_of before).fault ≡ None
  pub told : (read_of (before ++ message ∷ [])).fault ≡ Some fault
  pub sure : new.faults ≡ old.faults

-- The last message that was received made a request whole that would pass a limit of the history. Each request before
-- it was answered, and then it was sent how much there is.
pub record EndsFull (on : SessionBasis) (entry_limit text_limit : ℕ) (full : full_declared.Full) (old new : LinkTold)
    (places : List ℕ) : Type 0 where
  pub before : Messages
  pub message : Bytes
  pub answers : List SessionAnswer
  pub next : Request
  pub others : List Request
  pub serves : Serves on old new (before ++ message ∷ []) answers (next ∷ others) (full_message full ∷ [])
  pub made : places ≡ places_of answers
  pub waited : length (read_of before).requests ≤ length answers
  pub passed : IsFull (record { history = on.history; entry_limit = entry_limit; text_limit = text_limit }) next full
  pub sure : new.faults ≡ old.faults

-- these are the first messages of the answer to a request at a place
abbrev pub BeginsAnswer : SessionBasis → ℕ → Request → ℕ → Messages → Type 0
BeginsAnswer on number request place part = (answered : SessionAnswer) × (answered.place ≡ place)
    × IsAnswered on number request answered × ((rest : Messages) × (messages_of answered ≡ part ++ rest))

-- the entry of the request stands, and of its messages the first were sent, or none
pub record StandsHalf (on : SessionBasis) (number behind : ℕ) (request : Request) (place : ℕ) (part : Messages)
    : Type 0 where
  pub stands : slice_get on.history place ≡ Some (entry_of on number request place)
  pub later : behind ≤ place
  pub begun : (part ≡ []) ⊎ BeginsAnswer on number request place part

-- of the requests that were not answered, none but the first has an entry
abbrev pub BeginsNext : SessionBasis → ℕ → ℕ → List Request → List ℕ → Messages → Type 0
BeginsNext on number behind requests [] part = part ≡ []
BeginsNext on number behind [] (place ∷ places) part = ⊥
BeginsNext on number behind (request ∷ others) (place ∷ []) part = StandsHalf on number behind request place part
BeginsNext on number behind (request ∷ others) (place ∷ other ∷ places) part = ⊥

-- what all entries of answers stand before
abbrev pub behind_all : ℕ → List SessionAnswer → ℕ
behind_all behind [] = behind
behind_all behind (answered ∷ more) = behind_all (answered.place + 1) more

-- it ended between two messages: the first requests were answered, and the entry of one more may stand, with the first
-- of its messages sent
pub record EndsShort (on : SessionBasis) (old new : LinkTold) (places : List ℕ) : Type 0 where
  pub received : Messages
  pub answers : List SessionAnswer
  pub others : List Request
  pub part : Messages
  pub serves : Serves on old new received answers others part
  pub more : List ℕ
  pub made : places ≡ places_of answers ++ more
  pub next : BeginsNext on (length answers + 1) (behind_all on.behind answers) others more part
  pub later : old.faults ≤ new.faults

-- how much the history may have: entries, and bytes of names and bodies
pub record Room : Type 0 where
  pub entries : ℕ
  pub bytes : ℕ

-- how a session ends that made entries at these places
abbrev pub Ends : SessionBasis → Room → SessionEnd → LinkTold → LinkTold → List ℕ → Type 0
Ends on room Closed old new places = EndsClosed on old new places
Ends on room (Script fault) old new places = EndsScript on fault old new places
Ends on room (Full full) old new places = EndsFull on room.entries room.bytes full old new places
Ends on room LinkFault old new places = EndsShort on old new places × Rose old.faults new.faults
Ends on room NoMemory old new places = EndsShort on old new places
