-- Histories of the desk (own): entries with the newest last, and what is stored after the first of them.
use Rattle.std.specs.Prelude.{◌≡◌, ◌+◌, ℕ, List, [], ◌∷◌, take, map, sum}
use Rattle.dita_doc.specs.Request.{Request, text_size}
use Rattle.dita_doc.specs.Desk.{State, Reply, reply, next}

-- a request of a session, with its number there and its reply
pub record Entry : Type 0 where
  pub session : ℕ
  pub number : ℕ
  pub request : Request
  pub reply : Reply

-- the state after entries from this place on
abbrev pub replay : State → ℕ → List Entry → State
replay state place [] = state
replay state place (entry ∷ entries) = replay (next state place entry.request) (place + 1) entries

-- each entry's reply is the desk's at its place
abbrev pub AreLegal : State → ℕ → List Entry → Type 0
AreLegal state place [] = Unit {0}
AreLegal state place (entry ∷ entries) = (entry.reply ≡ reply state place entry.request)
    × AreLegal (next state place entry.request) (place + 1) entries

abbrev pub IsLegal : List Entry → Type 0
IsLegal history = AreLegal [] 0 history

-- what is stored after the first n entries
abbrev pub sources : List Entry → ℕ → State
sources history n = replay [] 0 (take n history)

-- the bytes of the names and bodies of all entries
abbrev pub history_size : List Entry → ℕ
history_size history = sum (map (λ entry. text_size entry.request) history)
