-- The stamp of a history: what was stored after as many entries as it says is what is stored after all.
use Rattle.std.proofs.Common.{◌≡◌, ◌+◌, ◌≤◌, ℕ, Bool, true, false, List, [], ◌∷◌, ◌++◌, Option, Some, None, refl, sym, ap, subst, ◌∙◌, length, reverse, take, if◌then◌else◌, arith, length-append}
use Rattle.std.proofs.lemmas.List.{length-reverse, reverse-append, reverse-reverse, take-append-le, take_all}
use Rattle.std.proofs.lemmas.Bool.Decides.{nat_tests}
use Rattle.dita_doc.specs.Desk.{Halt, Reply, State, IsStored, IsRemoved, IsGrouped, after_edit, after_edits, edit_reply, group_reply, halt_of, next, reply, unless_halted}
use Rattle.dita_doc.specs.History.{Entry, IsLegal, replay, sources}
use Rattle.dita_doc.specs.Request.{Edit, Put, PutIf, Remove, Request, Single, Get, Names, Build, Group}
use Rattle.dita_doc.proofs.Lists.{get_pushed}
use Rattle.desk_core.specs.Book.{is_change, snapshot_of, stamp_newest, stamp_of}
use Rattle.desk_core.specs.Invariant.{IsStore}
use Rattle.desk_core.specs.Steps.{IsSnapshotOf}
use Rattle.version_store.proofs.HistoryLaws.{legal_at, legal_take, replay_push, sources_all, sources_prefix}
use Rattle.version_store.specs.Kept.{Kept}

abbrev pub IsFalse : Bool → Type 0
IsFalse true = ⊥
IsFalse false = Unit {0}

true_is_false : true ≡ false → ⊥
true_is_false same = subst IsFalse (sym same) tt

-- A request whose reply is no change leaves what is stored

edit_leaves : (state : State) (edit : Edit) (answer : Reply) → is_change answer ≡ false
    → after_edit state edit answer ≡ state
edit_leaves state (Put name body) (IsStored version) none_changed = absurd (true_is_false none_changed)
edit_leaves state (PutIf expected name body) (IsStored version) none_changed = absurd (true_is_false none_changed)
edit_leaves state (Remove name) (IsRemoved version) none_changed = absurd (true_is_false none_changed)
edit_leaves state edit answer none_changed = refl

some_edits : (edit : Edit) (edits : List Edit) → is_change (IsGrouped (length (edit ∷ edits))) ≡ false → ⊥
some_edits edit edits none_changed = grind (arith, nat_tests)

group_leaves : (state : State) (place : ℕ) (edits : List Edit) (halt : Option Halt)
    → is_change (group_reply (length edits) halt) ≡ false
    → unless_halted halt (after_edits state place edits) state ≡ state
group_leaves state place [] None none_changed = refl
group_leaves state place (edit ∷ edits) None none_changed = absurd (some_edits edit edits none_changed)
group_leaves state place edits (Some halt) none_changed = refl

request_leaves : (state : State) (place : ℕ) (request : Request) → is_change (reply state place request) ≡ false
    → next state place request ≡ state
request_leaves state place (Single edit) none_changed =
    edit_leaves state edit (edit_reply state place edit) none_changed
request_leaves state place (Get name) none_changed = refl
request_leaves state place Names none_changed = refl
request_leaves state place (Build root val) none_changed = refl
request_leaves state place (Group edits) none_changed =
    group_leaves state place edits (halt_of state place edits) none_changed

-- The last entry of a legal history

first_ones : (history : List Entry) (entry : Entry) → take (length history) (history ++ entry ∷ []) ≡ history
first_ones history entry = take-append-le (length history) history (entry ∷ []) (omega arith)
    ∙ take_all (length history) history (omega arith)

entry_leaves : (history : List Entry) (entry : Entry) → IsLegal (history ++ entry ∷ [])
    → is_change entry.reply ≡ false → replay [] 0 (history ++ entry ∷ []) ≡ replay [] 0 history
entry_leaves history entry legal none_changed =
    let answered : entry.reply ≡ reply (replay [] 0 history) (0 + length history) entry.request =
    legal_at [] 0 (history ++ entry ∷ []) (length history) entry legal (get_pushed history entry)
    ∙ ap (λ (first : List Entry). reply (replay [] 0 first) (0 + length history) entry.request) (first_ones history entry) in
    replay_push [] 0 history entry
    ∙ request_leaves (replay [] 0 history) (0 + length history) entry.request
    (sym (ap is_change answered) ∙ none_changed)

-- From the newest entry on

newest_last : (entry : Entry) (older : List Entry) → reverse (entry ∷ older) ≡ reverse older ++ entry ∷ []
newest_last entry older = reverse-append (entry ∷ []) older

at_most_all : (newest : List Entry) → stamp_newest newest ≤ length newest
at_most_all [] = omega arith
at_most_all (entry ∷ older) = bounded (is_change entry.reply) (at_most_all older) where
  bounded : (b : Bool) → stamp_newest older ≤ length older
      → (if b then length older + 1 else stamp_newest older) ≤ length (entry ∷ older)
  bounded true low = omega arith
  bounded false low = omega arith

abbrev IsNow : List Entry → ℕ → Type 0
IsNow history stamp = sources history stamp ≡ replay [] 0 history

newest_is_now : (newest : List Entry) → IsLegal (reverse newest) → IsNow (reverse newest) (stamp_newest newest)
newest_is_now [] legal = refl
newest_is_now (entry ∷ older) legal = by_change (is_change entry.reply) refl (newest_is_now older) where
  pushed : IsLegal (reverse older ++ entry ∷ [])
  pushed = subst IsLegal (newest_last entry older) legal

  length_is : length (reverse older ++ entry ∷ []) ≡ length older + 1
  length_is = length-append (reverse older) (entry ∷ []) ∙ ap (λ n. n + 1) (length-reverse older)

  older_legal : IsLegal (reverse older)
  older_legal = subst IsLegal (first_ones (reverse older) entry)
      (legal_take [] 0 (reverse older ++ entry ∷ []) (length (reverse older)) pushed)

  within : stamp_newest older ≤ length (reverse older)
  within =
      let low : stamp_newest older ≤ length older = at_most_all older in
      let same : length (reverse older) ≡ length older = length-reverse older in
      omega arith

  by_change : (b : Bool) → is_change entry.reply ≡ b
      → (IsLegal (reverse older) → IsNow (reverse older) (stamp_newest older))
      → IsNow (reverse (entry ∷ older)) (if b then length older + 1 else stamp_newest older)
  by_change true is before = subst (λ (h : List Entry). IsNow h (length older + 1)) (sym (newest_last entry older))
      (ap (sources (reverse older ++ entry ∷ [])) (sym length_is) ∙ sources_all (reverse older ++ entry ∷ []))
  by_change false is before = subst (λ (h : List Entry). IsNow h (stamp_newest older)) (sym (newest_last entry older))
      (sources_prefix (reverse older) (entry ∷ []) (stamp_newest older) within
      ∙ before older_legal ∙ sym (entry_leaves (reverse older) entry pushed is))

pub stamp_is_now : (history : List Entry) → IsLegal history
    → sources history (stamp_of history) ≡ sources history (length history)
stamp_is_now history legal =
    subst (λ (h : List Entry). IsNow h (stamp_of history)) (reverse-reverse history)
    (newest_is_now (reverse history) (subst IsLegal (sym (reverse-reverse history)) legal))
    ∙ sym (sources_all history)

pub stamp_within : (history : List Entry) → stamp_of history ≤ length history
stamp_within history =
    let low : stamp_newest (reverse history) ≤ length (reverse history) = at_most_all (reverse history) in
    let same : length (reverse history) ≡ length history = length-reverse history in
    omega arith

-- a snapshot that is taken now may be claimed for
pub snapshot_is_of : (store : Kept) → IsStore store → IsSnapshotOf store.history (snapshot_of store)
snapshot_is_of store is = record {
  within = stamp_within store.history;
  state = sym (stamp_is_now store.history is.legal);
}
