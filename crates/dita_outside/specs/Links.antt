-- What links and doors tell (own). A link has messages that are still to come, and messages that were sent on it. A
-- door has connections as they were accepted, and as they were taken back. Both are told, or are not.
use Rattle.std.specs.Prelude.{◌≡◌, ◌<◌, ◌≤◌, ℕ, List, [], ◌∷◌, ◌++◌, Option, Some, None, Result, Ok, Err, ⊤, length}
use Rattle.dita_doc.specs.Bytes.{Bytes}

abbrev pub Messages : Type 0
Messages = List Bytes

-- what a link tells at one moment: the messages that are still to come and those that were sent on it, and its count of
-- faults
pub record LinkTold : Type 0 where
  pub left : Option Messages
  pub sent : Option Messages
  pub faults : ℕ

-- the list has these items more, behind all others
abbrev pub HasMore : {X : Type 0} → Option (List X) → Option (List X) → List X → Type 0
HasMore None new items = ⊤
HasMore (Some old) None items = ⊥
HasMore (Some old) (Some new) items = new ≡ old ++ items

-- the list has these items fewer, which were its first
abbrev pub HasFewer : {X : Type 0} → Option (List X) → Option (List X) → List X → Type 0
HasFewer None new items = ⊤
HasFewer (Some old) None items = ⊥
HasFewer (Some old) (Some new) items = old ≡ items ++ new

-- the list has come to its end
abbrev pub IsAtEnd : {X : Type 0} → Option (List X) → Type 0
IsAtEnd None = ⊤
IsAtEnd (Some left) = left ≡ []

-- One message is asked for: with Ok it is the next, or none is left. Any other answer leaves all that is to come.
abbrev pub Receives : {E : Type 0} → Option Messages → Option Messages → Result (Option Bytes) E → Type 0
Receives old new (Ok (Some message)) = HasFewer old new (message ∷ [])
Receives old new (Ok None) = HasFewer old new [] × IsAtEnd new
Receives old new (Err stop) = HasFewer old new []

-- one message is sent: with Ok it was sent, and with any other answer it was not
abbrev pub Sends : {E : Type 0} → Option Messages → Option Messages → Result (Unit {0}) E → Bytes → Type 0
Sends old new (Ok done) message = HasMore old new (message ∷ [])
Sends old new (Err stop) message = HasMore old new []

-- Doors

abbrev pub Links : Type 0
Links = List LinkTold

-- what a door tells at one moment: the connections as they were accepted and as they were taken back, both in order,
-- and its count of faults
pub record DoorTold : Type 0 where
  pub accepted : Option Links
  pub returned : Option Links
  pub faults : ℕ

-- A connection is asked for: with Ok it is one more, as it tells then. Any other answer leaves those that there are.
abbrev pub Accepts : {C E : Type 0} → (C → LinkTold) → Option Links → Option Links → Result C E → Type 0
Accepts told old new (Ok connection) = HasMore old new (told connection ∷ [])
Accepts told old new (Err stop) = HasMore old new []

-- no more were taken back than were accepted, if the door tells both
abbrev pub NoMoreReturned : (accepted returned : Option Links) → Type 0
NoMoreReturned None returned = ⊤
NoMoreReturned (Some accepted) None = ⊤
NoMoreReturned (Some accepted) (Some returned) = length returned ≤ length accepted

-- fewer were taken back than were accepted, if the door tells both
abbrev pub SomeAreOut : (accepted returned : Option Links) → Type 0
SomeAreOut None returned = ⊤
SomeAreOut (Some accepted) None = ⊤
SomeAreOut (Some accepted) (Some returned) = length returned < length accepted

-- both are told, or neither is
abbrev pub AreToldAlike : Option Links → Option Links → Type 0
AreToldAlike None None = ⊤
AreToldAlike None (Some other) = ⊥
AreToldAlike (Some links) None = ⊥
AreToldAlike (Some links) (Some other) = ⊤

-- two doors of which each tells what the other tells
pub record TellAlike (old new : DoorTold) : Type 0 where
  pub accepted : AreToldAlike old.accepted new.accepted
  pub returned : AreToldAlike old.returned new.returned
