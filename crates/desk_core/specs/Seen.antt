-- What contracts see of snapshots, events and their answers (own); and what holds inside of a book.
use Rattle.std.specs.Prelude.{◌≡◌, ◌<◌, ◌^◌, ℕ, Result, Ok, Err}
use Rattle.std.specs.Arc.{arc_value}
use Rattle.dita_doc.specs.Seen.{HasOwnOrigin, reply_seen, request_seen}
use Rattle.dita_doc.specs.declared.stop.Stop.{Stop}
use Rattle.desk_core.specs.Book.{BookData, SnapshotData, stamp_of}
use Rattle.desk_core.specs.Events as events
use Rattle.desk_core.specs.Invariant.{IsBook}
use Rattle.desk_core.specs.declared.event.Answer as given_answer
use Rattle.desk_core.specs.declared.event.Answer.TheVariants as answers
use Rattle.desk_core.specs.declared.event.Event as given_event
use Rattle.desk_core.specs.declared.event.Event.TheVariants as gives
use Rattle.desk_core.specs.declared.snapshot.Snapshot.{Snapshot}
use Rattle.fact_table.specs.Answers as table_answers
use Rattle.fact_table.specs.Seen.{TableSeen}
use Rattle.facts.specs.Latest.{FactAgrees}
use Rattle.facts.specs.Memo.{PlanAgrees}
use Rattle.facts.specs.Rows.{row_data}
use Rattle.facts.specs.declared.fact.Fact.{Fact}
use Rattle.version_store.specs.Kept.{Kept}
use Rattle.version_store.specs.declared.full.Full.{Full}

abbrev pub snapshot_seen : Snapshot → SnapshotData
snapshot_seen snapshot = record { stamp = snapshot.stamp; state = arc_value snapshot.sources }

abbrev pub event_seen : given_event.Event → events.Event
event_seen (gives.Commit session number request) = events.Commit session number (request_seen request)
event_seen (gives.Begin session number root val) = events.Begin session number root val
event_seen (gives.Claim key snapshot) = events.Claim key (snapshot_seen snapshot)
event_seen (gives.Publish ticket pair) = events.Publish ticket (arc_value pair.kept)
event_seen (gives.Release ticket) = events.Release ticket

-- a document that a request of an event is to store has its name as its one origin
abbrev pub HasOrigins : given_event.Event → Type 0
HasOrigins (gives.Commit session number request) = HasOwnOrigin request
HasOrigins (gives.Begin session number root val) = Unit {0}
HasOrigins (gives.Claim key snapshot) = Unit {0}
HasOrigins (gives.Publish ticket pair) = Unit {0}
HasOrigins (gives.Release ticket) = Unit {0}

abbrev pub answer_seen : given_answer.Answer → events.EventAnswer
answer_seen (answers.Placed place reply) = events.Placed place (reply_seen reply)
answer_seen (answers.Begun place snapshot) = events.Begun place (snapshot_seen snapshot)
answer_seen (answers.Claimed claimed) = events.Claimed (table_answers.answer_seen claimed)
answer_seen (answers.Published row) = events.Published (row_data row)
answer_seen answers.Released = events.Released

abbrev pub ending_seen : Result given_answer.Answer (Stop Full) → events.Ending
ending_seen (Ok answer) = Ok (answer_seen answer)
ending_seen (Err stop) = Err stop

-- The inside of a book

abbrev pub book_seen : Kept → TableSeen → BookData
book_seen store table = record { store = store; table = table.table }

pub record IsInside (plan_agrees : PlanAgrees) (own_agrees : FactAgrees) (sound : Fact → Type 0) (store : Kept)
    (table : TableSeen) (stamp_kept : ℕ) : Type 0 where
  pub book : IsBook plan_agrees own_agrees sound table.judged (book_seen store table)
  pub stamp : stamp_kept ≡ stamp_of store.history
  pub few : store.entry_limit < 2 ^ 64
