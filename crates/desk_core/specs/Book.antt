-- The book as data (own): what its store keeps and what its table keeps. A snapshot is what is stored now. Its stamp is
-- the number of entries up to and with the last one that changed what is stored.
use Rattle.std.specs.Prelude.{◌+◌, ◌==◌, ℕ, Bool, true, false, not, List, [], ◌∷◌, length, reverse, if◌then◌else◌}
use Rattle.dita_doc.specs.Desk.{Reply, State, IsStored, IsRemoved, IsGrouped}
use Rattle.dita_doc.specs.History.{Entry}
use Rattle.facts.specs.Table.{TableData, new_table}
use Rattle.version_store.specs.Kept.{Kept, nothing_kept, stored_now}

pub record BookData : Type 0 where
  pub store : Kept
  pub table : TableData

-- nothing was asked, and nothing was made
abbrev pub new_book : (entries text_bytes table_bytes : ℕ) → BookData
new_book entries text_bytes table_bytes =
    record { store = nothing_kept entries text_bytes; table = new_table table_bytes }

-- Stamps

-- a request with this reply changed what is stored; a group without edits changes nothing
abbrev pub is_change : Reply → Bool
is_change (IsStored version) = true
is_change (IsRemoved version) = true
is_change (IsGrouped edits) = not (edits == 0)
is_change answer = false

-- of entries with the newest first: how many there are up to and with the last one that changed what is stored
abbrev pub stamp_newest : List Entry → ℕ
stamp_newest [] = 0
stamp_newest (entry ∷ older) = if is_change entry.reply then length older + 1 else stamp_newest older

abbrev pub stamp_of : List Entry → ℕ
stamp_of history = stamp_newest (reverse history)

-- Snapshots

pub record SnapshotData : Type 0 where
  pub stamp : ℕ
  pub state : State

abbrev pub snapshot_of : Kept → SnapshotData
snapshot_of store = record { stamp = stamp_of store.history; state = stored_now store }
