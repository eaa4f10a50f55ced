-- Laws of histories: their replay, what one more entry does, and where each stored document comes from.
use Rattle.std.proofs.Common.{◌≡◌, ℕ, zero, suc, ◌+◌, ◌<◌, ◌≤◌, true, false, Bool, List, [], ◌∷◌, ◌++◌, Some, None, IsOk, refl, length, not, ◌&&◌, is_some, take, sym, ap, ◌∙◌, subst, arith, inl, inr, ◌⊎◌, length-append, append_assoc, nat_le}
use Rattle.std.specs.List.{slice_get}
use Rattle.std.proofs.lemmas.List.{append-nil, take-append-le, take_all}
use Rattle.std.proofs.lemmas.List.Sums.{sum-map, sum_by_push}
use Rattle.std.proofs.lemmas.Option.{none-some, same_Some}
use Rattle.std.proofs.lemmas.Bool.Decides.{nat_tests}
use Rattle.dita_doc.specs.Pyx.{document_of}
use Rattle.dita_doc.specs.Request.{Edit, Request, text_size, Single, Get, Names, Build, Group}
use Rattle.dita_doc.specs.Desk.{Stored, State, IsSortedByName, stored_under, with_stored, without_name, stored_limit, reply, nodes_in, next_edit, after_edits, halt_of, unless_halted, next}
use Rattle.dita_doc.specs.History.{Entry, replay, AreLegal, sources, history_size}
use Rattle.dita_doc.proofs.Lists.{get_front, get_pushed}
use Rattle.dita_doc.proofs.NameOrder.{sorted_with, sorted_without}
use Rattle.version_store.specs.Entries.{Puts, ComesFrom, edited_name}
use Rattle.version_store.proofs.EditLaws.{put_at, HasRoom, edit_does, edit_found, edits_found}
use Rattle.version_store.proofs.FoundLaws.{length_with, length_with_found, length_without}

-- the replay of what follows begins where the first part ends
pub replay_append : (state : State) (place : ℕ) (front back : List Entry)
    → replay state place (front ++ back) ≡ replay (replay state place front) (place + length front) back
replay_append state place [] back = ap (λ n. replay state n back) (omega arith)
replay_append state place (entry ∷ front) back =
    replay_append (next state place entry.request) (place + 1) front back
    ∙ ap (λ n. replay (replay (next state place entry.request) (place + 1) front) n back) (omega arith)

pub replay_push : (state : State) (place : ℕ) (history : List Entry) (entry : Entry)
    → replay state place (history ++ entry ∷ [])
    ≡ next (replay state place history) (place + length history) entry.request
replay_push state place history entry = replay_append state place history (entry ∷ [])

-- legal up to each place, and with one more that is answered as the desk answers
pub legal_take : (state : State) (place : ℕ) (history : List Entry) (n : ℕ) → AreLegal state place history
    → AreLegal state place (take n history)
legal_take state place history zero legal = tt
legal_take state place [] (suc n) legal = tt
legal_take state place (entry ∷ history) (suc n) legal =
    (legal.0, legal_take (next state place entry.request) (place + 1) history n legal.1)

pub legal_append : (state : State) (place : ℕ) (front back : List Entry) → AreLegal state place front
    → AreLegal (replay state place front) (place + length front) back → AreLegal state place (front ++ back)
legal_append state place [] back legal more = subst (λ n. AreLegal state n back) {x = place + 0} (omega arith) more
legal_append state place (entry ∷ front) back legal more = (
  legal.0,
  legal_append (next state place entry.request) (place + 1) front back legal.1
      (subst (λ n. AreLegal (replay state place (entry ∷ front)) n back) {x = place + length (entry ∷ front)}
      (omega arith) more),
)

pub legal_push : (state : State) (place : ℕ) (history : List Entry) (entry : Entry) → AreLegal state place history
    → entry.reply ≡ reply (replay state place history) (place + length history) entry.request
    → AreLegal state place (history ++ entry ∷ [])
legal_push state place history entry legal answered = legal_append state place history (entry ∷ []) legal (answered, tt)

-- the reply of an entry of a legal history is the desk's at its place
pub legal_at : (state : State) (place : ℕ) (history : List Entry) (n : ℕ) (entry : Entry)
    → AreLegal state place history → slice_get history n ≡ Some entry
    → entry.reply ≡ reply (replay state place (take n history)) (place + n) entry.request
legal_at state place [] n entry legal is = absurd (none-some entry is)
legal_at state place (first ∷ history) zero entry legal is =
    subst (λ (e : Entry). e.reply ≡ reply state (place + 0) e.request) (same_Some first entry is) (legal.0
    ∙ ap (λ n. reply state n first.request) {x = place} (omega arith))
legal_at state place (first ∷ history) (suc n) entry legal is =
    legal_at (next state place first.request) (place + 1) history n entry legal.1 is
    ∙ ap (λ m. reply (replay (next state place first.request) (place + 1) (take n history)) m entry.request)
    {x = place + 1 + n} (omega arith)

-- the sources after the first n entries stay what they are, and those after all entries are the replay
pub sources_prefix : (history more : List Entry) (n : ℕ) → n ≤ length history
    → sources (history ++ more) n ≡ sources history n
sources_prefix history more n within = ap (replay [] 0) (take-append-le n history more within)

pub sources_all : (history : List Entry) → sources history (length history) ≡ replay [] 0 history
sources_all history = ap (replay [] 0) (take_all (length history) history (omega arith))

pub sources_push : (history : List Entry) (entry : Entry)
    → sources (history ++ entry ∷ []) (length history + 1)
    ≡ next (sources history (length history)) (length history) entry.request
sources_push history entry =
    ap (replay [] 0) (take_all (length history + 1) (history ++ entry ∷ [])
    (omega (arith, length-append history (entry ∷ []))))
    ∙ replay_push [] 0 history entry
    ∙ ap (λ n. next (replay [] 0 history) n entry.request) {x = 0 + length history} (omega arith)
    ∙ ap (λ state. next state (length history) entry.request) (sym (sources_all history))

-- one more entry adds the bytes of its names and body
pub size_push : (history : List Entry) (entry : Entry)
    → history_size (history ++ entry ∷ []) ≡ history_size history + text_size entry.request
size_push history entry =
    let bytes : Entry → ℕ = λ entry. text_size entry.request in
    sum-map bytes (history ++ entry ∷ []) ∙ sum_by_push bytes history entry
    ∙ ap (λ n. n + bytes entry) (sym (sum-map bytes history))

-- what is kept where a text is stored that there is room for, and where a name is taken away, is kept by each request
module _ (P : State → Type 0) (place : ℕ)
    (stores : (state : State) (name body : List ℕ) → P state → IsOk (document_of body) → HasRoom state name
    → P (with_stored (put_at place name body) state))
    (removes : (state : State) (name : List ℕ) → P state → P (without_name name state)) where
  edit_keeps : (state : State) (edit : Edit) → P state → P (next_edit state place edit)
  edit_keeps state edit kept = elim (edit_does state place edit) [
    | inl does ↦ subst P (sym does.leaves) (stores state does.name does.bytes kept does.read does.room)
    | inr (inl does) ↦ subst P (sym does.leaves) (removes state (edited_name edit) kept)
    | inr (inr does) ↦ subst P (sym does.leaves) kept
  ]

  edits_keep : (state : State) (edits : List Edit) → P state → P (after_edits state place edits)
  edits_keep state [] kept = kept
  edits_keep state (edit ∷ edits) kept =
      edits_keep (next_edit state place edit) edits (edit_keeps state edit kept)

  pub next_keeps : (state : State) (request : Request) → P state → P (next state place request)
  next_keeps state (Single edit) kept = edit_keeps state edit kept
  next_keeps state (Get name) kept = kept
  next_keeps state Names kept = kept
  next_keeps state (Build root val) kept = kept
  next_keeps state (Group edits) kept =
      elim (halt_of state place edits) as (λ halt. P (unless_halted halt (after_edits state place edits) state))
      [ None ↦ edits_keep state edits kept | Some halt ↦ kept ]

-- names stay in order
pub sorted_next : (state : State) (place : ℕ) (request : Request) → IsSortedByName state
    → IsSortedByName (next state place request)
sorted_next state place request sorted = next_keeps IsSortedByName place
    (λ state name body sorted read room. sorted_with (put_at place name body) state sorted)
    (λ state name sorted. sorted_without name state sorted) state request sorted

pub sorted_replay : (state : State) (place : ℕ) (history : List Entry) → IsSortedByName state
    → IsSortedByName (replay state place history)
sorted_replay state place [] sorted = sorted
sorted_replay state place (entry ∷ history) sorted =
    sorted_replay (next state place entry.request) (place + 1) history (sorted_next state place entry.request sorted)

pub sorted_sources : (history : List Entry) (n : ℕ) → IsSortedByName (sources history n)
sorted_sources history n = sorted_replay [] 0 (take n history) tt

-- and there are never more than the limit
room_or_there : (limit n : ℕ) (there : Bool) → (nat_le limit n && not there) ≡ false → (n < limit) ⊎ (there ≡ true)
room_or_there limit n true e = inr refl
room_or_there limit n false e = inl (grind (arith, nat_tests))

few_stored : (limit : ℕ) (new : Stored) (state : State) → IsSortedByName state → length state ≤ limit
    → (length state < limit) ⊎ (is_some (stored_under state new.name) ≡ true) → length (with_stored new state) ≤ limit
few_stored limit new state sorted few (inl less) = omega (arith, length_with new state)
few_stored limit new state sorted few (inr there) = omega (arith, length_with_found new state sorted there)

-- in order, and not more than the limit
record IsFew (state : State) : Type 0 where
  pub sorted : IsSortedByName state
  pub few : length state ≤ stored_limit

pub few_next : (state : State) (place : ℕ) (request : Request) → IsSortedByName state → length state ≤ stored_limit
    → length (next state place request) ≤ stored_limit
few_next state place request sorted few =
    let after : IsFew (next state place request) =
    next_keeps IsFew place
    (λ state name body is read room. record {
      sorted = sorted_with (put_at place name body) state is.sorted;
      few = few_stored stored_limit (put_at place name body) state is.sorted is.few
          (room_or_there stored_limit (length state) (is_some (stored_under state name)) room);
    })
    (λ state name is. record {
      sorted = sorted_without name state is.sorted;
      few = omega (arith, is.few, length_without name state);
    })
    state request (record { sorted = sorted; few = few }) in
    after.few

pub few_replay : (state : State) (place : ℕ) (history : List Entry) → IsSortedByName state
    → length state ≤ stored_limit → length (replay state place history) ≤ stored_limit
few_replay state place [] sorted few = few
few_replay state place (entry ∷ history) sorted few =
    few_replay (next state place entry.request) (place + 1) history (sorted_next state place entry.request sorted)
    (few_next state place entry.request sorted few)

pub few_sources : (history : List Entry) (n : ℕ) → length (sources history n) ≤ stored_limit
few_sources history n = few_replay [] 0 (take n history) tt (omega arith)

pub slice_get-take : {X : Type 0} (xs : List X) (m n : ℕ) (x : X) → slice_get (take m xs) n ≡ Some x
    → slice_get xs n ≡ Some x
slice_get-take xs zero n x is = absurd (none-some x is)
slice_get-take [] (suc m) n x is = absurd (none-some x is)
slice_get-take (y ∷ xs) (suc m) zero x is = is
slice_get-take (y ∷ xs) (suc m) (suc n) x is = slice_get-take xs m n x is

from_more : (history more : List Entry) (stored : Stored) → ComesFrom history stored
    → ComesFrom (history ++ more) stored
from_more history more stored from = record {
  place = from.place;
  entry = from.entry;
  version = from.version;
  stands = get_front history more from.place from.entry from.stands;
  puts = from.puts;
  read = from.read;
  nodes = from.nodes;
}

-- each document that is found comes from one of these entries
abbrev AllFrom : List Entry → State → Type 0
AllFrom entries state = (name : List ℕ) (stored : Stored) → stored_under state name ≡ Some stored
    → ComesFrom entries stored

-- what the last entry put comes from it
from_last : (earlier : List Entry) (entry : Entry) (request : Request) (name : List ℕ) (stored : Stored)
    → entry.request ≡ request → stored.name ≡ name → Puts request name stored.bytes
    → stored.version ≡ length earlier + 1 → IsOk (document_of stored.bytes)
    → stored.nodes ≡ nodes_in (document_of stored.bytes) → ComesFrom (earlier ++ entry ∷ []) stored
from_last earlier entry request name stored asks named puts version read nodes = record {
  place = length earlier;
  entry = entry;
  version = version;
  stands = get_pushed earlier entry;
  puts = subst (λ (r : Request). Puts r stored.name stored.bytes) (sym asks)
      (subst (λ (n : List ℕ). Puts request n stored.bytes) (sym named) puts);
  read = read;
  nodes = nodes;
}

from_request : (earlier : List Entry) (entry : Entry) (state : State) (request : Request) → entry.request ≡ request
    → AllFrom earlier state → AllFrom (earlier ++ entry ∷ []) (next state (length earlier) request)
from_request earlier entry state (Single edit) asks every name stored is =
    elim (edit_found state (length earlier) edit name stored is) [
      | inl stood ↦ from_more earlier (entry ∷ []) stored (every name stored stood.stood)
      | inr put ↦ from_last earlier entry (Single edit) name stored asks put.named put.puts put.version put.read
          put.nodes
    ]
from_request earlier entry state (Get named) asks every name stored is =
    from_more earlier (entry ∷ []) stored (every name stored is)
from_request earlier entry state Names asks every name stored is =
    from_more earlier (entry ∷ []) stored (every name stored is)
from_request earlier entry state (Build root val) asks every name stored is =
    from_more earlier (entry ∷ []) stored (every name stored is)
from_request earlier entry state (Group edits) asks every name stored is =
    let place = length earlier in
    let by_halt : halt_of state place edits ≡ halt_of state place edits
    → stored_under (next state place (Group edits)) name ≡ Some stored → ComesFrom (earlier ++ entry ∷ []) stored =
    elim (halt_of state place edits) as (λ halt. halt_of state place edits ≡ halt
    → stored_under (unless_halted halt (after_edits state place edits) state) name ≡ Some stored
    → ComesFrom (earlier ++ entry ∷ []) stored) [
      | None ↦ λ none there. elim (edits_found edits 1 state place name stored none there) [
        | inl before ↦ from_more earlier (entry ∷ []) stored (every name stored before.1)
        | inr later ↦ from_last earlier entry (Group edits) name stored asks later.put.named
            (record { edit = later.edit; last = later.last; puts = later.put.puts })
            later.put.version later.put.read later.put.nodes
      ]
      | Some halt ↦ λ some there. from_more earlier (entry ∷ []) stored (every name stored there)
    ] in
    by_halt refl is

from_replay : (earlier entries : List Entry) (state : State) → AllFrom earlier state
    → AllFrom (earlier ++ entries) (replay state (length earlier) entries)
from_replay earlier [] state every = subst (λ all. AllFrom all state) (sym (append-nil earlier)) every
from_replay earlier (entry ∷ entries) state every =
    let after = next state (length earlier) entry.request in
    let rest : AllFrom ((earlier ++ entry ∷ []) ++ entries) (replay after (length (earlier ++ entry ∷ [])) entries) =
    from_replay (earlier ++ entry ∷ []) entries after (from_request earlier entry state entry.request refl every) in
    let placed : AllFrom ((earlier ++ entry ∷ []) ++ entries) (replay after (length earlier + 1) entries) =
    subst (λ n. AllFrom ((earlier ++ entry ∷ []) ++ entries) (replay after n entries))
    (length-append earlier (entry ∷ [])) rest in
    subst (λ all. AllFrom all (replay after (length earlier + 1) entries))
    (append_assoc earlier (entry ∷ []) entries) placed

pub from_sources : (history : List Entry) (n : ℕ) (name : List ℕ) (stored : Stored)
    → stored_under (sources history n) name ≡ Some stored → ComesFrom (take n history) stored
from_sources history n name stored is =
    from_replay [] (take n history) [] (λ name stored is. absurd (none-some stored is)) name stored is
