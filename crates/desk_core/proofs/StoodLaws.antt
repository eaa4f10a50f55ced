-- What is stored at a version was stored by then, and has stood since.
use Rattle.std.proofs.Common.{◌≡◌, ◌+◌, ◌≤◌, ◌⊎◌, ℕ, zero, suc, List, [], ◌∷◌, Some, None, refl, inl, inr, take, arith}
use Rattle.dita_doc.specs.Desk.{State, Stored, after_edits, stored_under, halt_of, next, unless_halted}
use Rattle.dita_doc.specs.History.{Entry, replay, sources}
use Rattle.dita_doc.specs.Request.{Edit, Request, Single, Get, Names, Build, Group}
use Rattle.facts.specs.Judged.{HasStood}
use Rattle.version_store.proofs.EditLaws.{edit_found, edits_found}
use Rattle.version_store.proofs.HistoryLaws.{from_sources}

-- what a request at a place has not stored stood before
one_stood : (state : State) (place : ℕ) (request : Request) (name : List ℕ) (stored : Stored)
    → stored_under (next state place request) name ≡ Some stored → stored.version ≤ place
    → stored_under state name ≡ Some stored
one_stood state place (Single edit) name stored is low = elim (edit_found state place edit name stored is) [
  | inl stood ↦ stood.stood
  | inr put ↦ let version : stored.version ≡ place + 1 = put.version in absurd (omega arith)
]
one_stood state place (Get named) name stored is low = is
one_stood state place Names name stored is low = is
one_stood state place (Build root val) name stored is low = is
one_stood state place (Group edits) name stored is low =
    let by_halt : halt_of state place edits ≡ halt_of state place edits
    → stored_under (next state place (Group edits)) name ≡ Some stored → stored_under state name ≡ Some stored =
    elim (halt_of state place edits) as (λ halt. halt_of state place edits ≡ halt
    → stored_under (unless_halted halt (after_edits state place edits) state) name ≡ Some stored
    → stored_under state name ≡ Some stored) [
      | None ↦ λ none there. elim (edits_found edits 1 state place name stored none there) [
        | inl before ↦ before.1
        | inr later ↦ let version : stored.version ≡ place + 1 = later.put.version in absurd (omega arith)
      ]
      | Some halt ↦ λ some there. there
    ] in
    by_halt refl is

replay_stood : (state : State) (place : ℕ) (entries : List Entry) (name : List ℕ) (stored : Stored)
    → stored_under (replay state place entries) name ≡ Some stored → stored.version ≤ place
    → stored_under state name ≡ Some stored
replay_stood state place [] name stored is low = is
replay_stood state place (entry ∷ entries) name stored is low =
    one_stood state place entry.request name stored
    (replay_stood (next state place entry.request) (place + 1) entries name stored is (omega arith)) low

first_stood : (state : State) (place : ℕ) (history : List Entry) (m n : ℕ) → m ≤ n → (name : List ℕ) (stored : Stored)
    → stored_under (replay state place (take n history)) name ≡ Some stored → stored.version ≤ place + m
    → stored_under (replay state place (take m history)) name ≡ Some stored
first_stood state place history zero n within name stored is low =
    replay_stood state place (take n history) name stored is (omega arith)
first_stood state place [] (suc m) zero within name stored is low = is
first_stood state place [] (suc m) (suc n) within name stored is low = is
first_stood state place (entry ∷ history) (suc m) zero within name stored is low = absurd (omega arith)
first_stood state place (entry ∷ history) (suc m) (suc n) within name stored is low =
    first_stood (next state place entry.request) (place + 1) history m n (omega arith) name stored is (omega arith)

pub has_stood : (history : List Entry) (m n : ℕ) → m ≤ n → HasStood m (sources history m) (sources history n)
has_stood history m n within = record {
  each = λ name stored is low. first_stood [] 0 history m n within name stored is (omega arith);
}

-- no version is 0
pub nothing_stood : (history : List Entry) (n : ℕ) (older : State) → HasStood 0 older (sources history n)
nothing_stood history n older = record {
  each = λ name stored is low.
      let from = from_sources history n name stored is in
      let version : stored.version ≡ from.place + 1 = from.version in
      absurd (omega arith);
}
