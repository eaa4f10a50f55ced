-- The events of the book, and what they are answered (own). A commit is a request other than a build; a build begins,
-- and its workers claim parts, publish them, or release what they claimed.
use Rattle.std.specs.Prelude.{ℕ, List, Option, Result}
use Rattle.dita_doc.specs.Desk.{Reply}
use Rattle.dita_doc.specs.Request.{Request}
use Rattle.dita_doc.specs.declared.fact.FactKey.{FactKey}
use Rattle.dita_doc.specs.declared.stop.Stop.{Stop}
use Rattle.desk_core.specs.Book.{SnapshotData}
use Rattle.facts.specs.Latest.{ClaimAnswer}
use Rattle.facts.specs.Rows as rows
use Rattle.facts.specs.declared.fact.Fact.{Fact}
use Rattle.version_store.specs.declared.full.Full.{Full}

pub data Event : Type 0 where
  Commit : (session number : ℕ) (request : Request) → Event
  Begin : (session number : ℕ) (root : List ℕ) (val : Option (List ℕ)) → Event
  Claim : (key : FactKey) (snapshot : SnapshotData) → Event
  Publish : (claim : rows.Claim) (fact : Fact) → Event
  Release : (claim : rows.Claim) → Event

pub data EventAnswer : Type 0 where
  Placed : (place : ℕ) (reply : Reply) → EventAnswer
  Begun : (place : ℕ) (snapshot : SnapshotData) → EventAnswer
  Claimed : (answer : ClaimAnswer) → EventAnswer
  Published : (row : rows.RowData) → EventAnswer
  Released : EventAnswer

-- how an event ends: with an answer, with no room for one more request, or out of memory
abbrev pub Ending : Type 0
Ending = Result EventAnswer (Stop Full)
