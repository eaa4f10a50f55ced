-- What is said on a link (own): messages are sent, and none is received meanwhile.
use Rattle.std.specs.Prelude.{◌≡◌, ◌≤◌, ◌++◌, ℕ, [], ◌∷◌, Result, Ok, Err}
use Rattle.dita_doc.specs.Bytes.{Bytes}
use Rattle.dita_doc.specs.declared.stop.Stop.{Stop}
use Rattle.dita_doc.specs.declared.stop.Stop.TheVariants as stops
use Rattle.dita_outside.specs.Cause.{Rose}
use Rattle.dita_outside.specs.Links.{HasFewer, HasMore, LinkTold, Messages}
use Rattle.dita_outside.specs.declared.Failed.{Failed}
use Rattle.desk_session.specs.declared.end.SessionEnd.{SessionEnd}
use Rattle.desk_session.specs.declared.end.SessionEnd.TheVariants.{Closed, LinkFault, Script, Full, NoMemory}

-- these messages were sent
pub record Says (old new : LinkTold) (messages : Messages) : Type 0 where
  pub left : HasFewer old.left new.left []
  pub sent : HasMore old.sent new.sent messages
  pub later : old.faults ≤ new.faults

-- the end by a call of the link that did not succeed
abbrev pub end_by : Stop Failed → SessionEnd
end_by (stops.Fault failed) = LinkFault
end_by stops.NoMemory = NoMemory

-- nothing is known of the others: no such call leads to them
abbrev pub IsLinkEnd : SessionEnd → ℕ → ℕ → Type 0
IsLinkEnd Closed before now = ⊥
IsLinkEnd LinkFault before now = Rose before now
IsLinkEnd (Script fault) before now = ⊥
IsLinkEnd (Full full) before now = ⊥
IsLinkEnd NoMemory before now = Unit {0}

-- the first of these messages were sent, and then one was not, which has this end
pub record SaysFront (old new : LinkTold) (ended : SessionEnd) (messages : Messages) : Type 0 where
  pub front : Messages
  pub next : Bytes
  pub back : Messages
  pub all : messages ≡ front ++ next ∷ back
  pub says : Says old new front
  pub why : IsLinkEnd ended old.faults new.faults

-- messages are sent in order: with Ok all of them, and the link did not fail
abbrev pub SaysAll : LinkTold → LinkTold → Result (Unit {0}) SessionEnd → Messages → Type 0
SaysAll old new (Ok done) messages = Says old new messages × (new.faults ≡ old.faults)
SaysAll old new (Err ended) messages = SaysFront old new ended messages
