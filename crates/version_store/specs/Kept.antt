-- What a store keeps (own): the history of all that it has answered, within two limits. One more request stands at the
-- end of the history, with the reply that the desk gives at its place. The stored sources are the history's replay.
use Rattle.std.specs.Prelude.{◌≡◌, ◌+◌, ◌<◌, ◌≤◌, ◌⊎◌, ℕ, List, [], ◌∷◌, ◌++◌, Option, length, map}
use Rattle.dita_doc.specs.declared.request.Entry as given
use Rattle.dita_doc.specs.Request.{Request, text_size}
use Rattle.dita_doc.specs.Desk.{State, Reply, reply, next}
use Rattle.dita_doc.specs.History.{Entry, IsLegal, sources, history_size}
use Rattle.dita_doc.specs.Seen.{entry_seen}
use Rattle.dita_doc.specs.declared.stop.Stop.{Stop}
use Rattle.dita_doc.specs.declared.stop.Stop.TheVariants.{Fault, NoMemory}
use Rattle.version_store.specs.Change.{left_by}
use Rattle.version_store.specs.declared.full.Full.{Full}

-- the history, and at most how many entries and bytes of names and bodies it may have
pub record Kept : Type 0 where
  pub history : List Entry
  pub entry_limit : ℕ
  pub text_limit : ℕ

-- these entries, within these limits
abbrev pub kept_of : List given.Entry → ℕ → ℕ → Kept
kept_of entries entry_limit text_limit = record {
  history = map entry_seen entries;
  entry_limit = entry_limit;
  text_limit = text_limit;
}

-- the limits of a desk
abbrev pub entry_limit_of_desk : ℕ
entry_limit_of_desk = 65536

abbrev pub text_limit_of_desk : ℕ
text_limit_of_desk = 67108864

-- nothing was asked yet
abbrev pub nothing_kept : ℕ → ℕ → Kept
nothing_kept entries bytes = record { history = []; entry_limit = entries; text_limit = bytes }

-- what is stored after the whole history
abbrev pub stored_now : Kept → State
stored_now kept = sources kept.history (length kept.history)

-- the desk's reply to a request at the end of the history
abbrev pub reply_now : Kept → Request → Reply
reply_now kept request = reply (stored_now kept) (length kept.history) request

-- what is stored by a request with this reply at the end of the history, and these sources that a group has left, is
-- what the desk stores
abbrev pub IsLeft : Kept → Request → Reply → Option State → Type 0
IsLeft kept request answer left =
    left_by (stored_now kept) request answer left ≡ next (stored_now kept) (length kept.history) request

-- the entry of a request of a session at the end of the history
abbrev pub next_entry : ℕ → ℕ → Request → Kept → Entry
next_entry session number request kept = record {
  session = session;
  number = number;
  request = request;
  reply = reply_now kept request;
}

-- what is kept once a request of a session has been answered
abbrev pub answered : ℕ → ℕ → Request → Kept → Kept
answered session number request kept = record {
  history = kept.history ++ next_entry session number request kept ∷ [];
  entry_limit = kept.entry_limit;
  text_limit = kept.text_limit;
}

-- one more request stays within the limits
pub record Fits (kept : Kept) (request : Request) : Type 0 where
  pub entries : length kept.history < kept.entry_limit
  pub text : history_size kept.history + text_size request ≤ kept.text_limit

-- the history as it stands, if one more request would pass a limit
pub record IsFull (kept : Kept) (request : Request) (full : Full) : Type 0 where
  pub entries : full.entries ≡ length kept.history
  pub bytes : full.bytes ≡ history_size kept.history
  pub passed :
      (kept.entry_limit ≤ length kept.history)
      ⊎ (kept.text_limit < history_size kept.history + text_size request)

-- why a request was not answered; out of memory says nothing
abbrev pub IsFullIf : Kept → Request → Stop Full → Type 0
IsFullIf kept request (Fault full) = IsFull kept request full
IsFullIf kept request NoMemory = Unit {0}

-- each reply is the desk's, the sources and the size are those of the history, and it is within the limits
pub record IsKept (state : State) (size : ℕ) (kept : Kept) : Type 0 where
  pub legal : IsLegal kept.history
  pub stored : state ≡ stored_now kept
  pub text : size ≡ history_size kept.history
  pub entries : length kept.history ≤ kept.entry_limit
  pub bytes : history_size kept.history ≤ kept.text_limit
