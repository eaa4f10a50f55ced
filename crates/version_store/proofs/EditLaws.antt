-- What edits do, alone and one after another in a group.
use Rattle.std.proofs.Common.{◌≡◌, ◌≢◌, ℕ, ◌+◌, true, false, Bool, List, [], ◌∷◌, Option, Some, None, IsSome, is_some, IsOk, is_ok, Ok, Err, refl, length, cond, not, ◌&&◌, sym, ap, ◌∙◌, subst, inl, inr, ◌⊎◌, nat_le, ◌==◌, reverse}
use Rattle.std.specs.List.{find, All}
use Rattle.std.specs.Option.{option_or}
use Rattle.std.specs.Cmp.Lexicographic.{bytes_decides}
use Rattle.std.proofs.lemmas.Bool.{false≢true}
use Rattle.std.proofs.lemmas.List.{reverse-append}
use Rattle.std.proofs.lemmas.List.Elements.{All-head, All-tail}
use Rattle.std.proofs.lemmas.List.Folds.{find-append}
use Rattle.std.proofs.lemmas.Option.{none-some, same_Some}
use Rattle.dita_doc.specs.Bytes.{Bytes}
use Rattle.dita_doc.specs.declared.fault.PyxFault.{PyxFault}
use Rattle.dita_doc.specs.Pyx.{document_of}
use Rattle.dita_doc.specs.Request.{Edit, Put, PutIf, Remove}
use Rattle.dita_doc.specs.Desk.{Stored, State, stored_under, version_at, with_stored, without_name, stored_limit, store_reply, unless_refused, Reply, IsStored, TooManyNames, IsRefused, Conflict, remove_reply, nodes_in, edit_reply, after_edit, next_edit, after_edits, edit_replies, Refusal, refusal_in, Halt, halt_at, first_halt}
use Rattle.version_store.specs.Entries.{edited_name, is_of, last_of, EditPuts}
use Rattle.version_store.proofs.FoundLaws.{found_with_same, found_with_other, found_without_same, found_without_other}

-- the document that a put at a place stores
abbrev pub put_at : ℕ → Bytes → Bytes → Stored
put_at place name body = record { name = name; nodes = nodes_in (document_of body); bytes = body; version = place + 1 }

-- there is room for one more name, or this one is there
abbrev pub HasRoom : State → Bytes → Type 0
HasRoom state name = (nat_le stored_limit (length state) && not (is_some (stored_under state name))) ≡ false

-- the edit stores a text that there is room for
pub record DoesStore (state after : State) (place : ℕ) (edit : Edit) : Type 0 where
  pub name : Bytes
  pub bytes : Bytes
  pub named : edited_name edit ≡ name
  pub puts : EditPuts edit name bytes
  pub read : IsOk (document_of bytes)
  pub room : HasRoom state name
  pub leaves : after ≡ with_stored (put_at place name bytes) state

-- it removes its name
pub record DoesRemove (state after : State) (edit : Edit) : Type 0 where
  pub leaves : after ≡ without_name (edited_name edit) state

-- it is refused
pub record DoesNothing (state after : State) (answer : Reply) : Type 0 where
  pub refused : IsSome (refusal_in answer)
  pub leaves : after ≡ state

abbrev Does : State → ℕ → Edit → Reply → Type 0
Does state place edit answer =
    DoesStore state (after_edit state edit answer) place edit
    ⊎ (DoesRemove state (after_edit state edit answer) edit ⊎ DoesNothing state (after_edit state edit answer) answer)

does_store : (state : State) (place : ℕ) (edit : Edit) (name body : Bytes) → edited_name edit ≡ name
    → EditPuts edit name body
    → after_edit state edit (IsStored (place + 1)) ≡ with_stored (put_at place name body) state
    → after_edit state edit (TooManyNames stored_limit) ≡ state
    → IsOk (document_of body) → Does state place edit (store_reply state place name)
does_store state place edit name body named puts stored full read =
    let by_room : (nat_le stored_limit (length state) && not (is_some (stored_under state name)))
    ≡ (nat_le stored_limit (length state) && not (is_some (stored_under state name)))
    → Does state place edit (store_reply state place name) =
    elim (nat_le stored_limit (length state) && not (is_some (stored_under state name)))
    as (λ b. (nat_le stored_limit (length state) && not (is_some (stored_under state name))) ≡ b
    → Does state place edit (cond b (TooManyNames stored_limit) (IsStored (place + 1)))) [
      | true ↦ λ e. inr (inr (record { refused = refl; leaves = full }))
      | false ↦ λ e. inl (record {
        name = name;
        bytes = body;
        named = named;
        puts = puts;
        read = read;
        room = e;
        leaves = stored;
      })
    ] in
    by_room refl

does_put : (state : State) (place : ℕ) (edit : Edit) (body : Bytes) (answer : Reply)
    → ((fault : PyxFault) → after_edit state edit (IsRefused fault) ≡ state)
    → (IsOk (document_of body) → Does state place edit answer)
    → Does state place edit (unless_refused (document_of body) answer)
does_put state place edit body answer refused stores =
    let by_read : document_of body ≡ document_of body
    → Does state place edit (unless_refused (document_of body) answer) =
    elim (document_of body) as (λ read. document_of body ≡ read → Does state place edit (unless_refused read answer)) [
      | Ok tree ↦ λ e. stores (ap is_ok e)
      | Err fault ↦ λ e. inr (inr (record { refused = refl; leaves = refused fault }))
    ] in
    by_read refl

-- each edit does one of the three
pub edit_does : (state : State) (place : ℕ) (edit : Edit)
    → DoesStore state (next_edit state place edit) place edit
    ⊎ (DoesRemove state (next_edit state place edit) edit
    ⊎ DoesNothing state (next_edit state place edit) (edit_reply state place edit))
edit_does state place (Put name body) =
    does_put state place (Put name body) body (store_reply state place name) (λ fault. refl)
    (does_store state place (Put name body) name body refl (refl, refl) refl refl)
edit_does state place (PutIf version name body) =
    does_put state place (PutIf version name body) body
    (cond (version_at state name == version) (store_reply state place name) (Conflict (version_at state name)))
    (λ fault. refl)
    (λ read.
    elim (version_at state name == version) as
    (λ b. Does state place (PutIf version name body)
    (cond b (store_reply state place name) (Conflict (version_at state name)))) [
      | true ↦ does_store state place (PutIf version name body) name body refl (refl, refl) refl refl read
      | false ↦ inr (inr (record { refused = refl; leaves = refl }))
    ])
edit_does state place (Remove name) =
    elim (stored_under state name) as (λ hit. Does state place (Remove name) (remove_reply hit)) [
      | None ↦ inr (inr (record { refused = refl; leaves = refl }))
      | Some stored ↦ inr (inl (record { leaves = refl }))
    ]

-- What is found behind edits

-- the edit put the document under this name at the place
pub record IsPut (place : ℕ) (edit : Edit) (name : Bytes) (stored : Stored) : Type 0 where
  pub named : stored.name ≡ name
  pub of : is_of name edit ≡ true
  pub puts : EditPuts edit name stored.bytes
  pub version : stored.version ≡ place + 1
  pub read : IsOk (document_of stored.bytes)
  pub nodes : stored.nodes ≡ nodes_in (document_of stored.bytes)

-- the document stood there, and an edit that is not refused is of another name
pub record Stood (state : State) (edit : Edit) (answer : Reply) (name : Bytes) (stored : Stored) : Type 0 where
  pub other : refusal_in answer ≡ None → is_of name edit ≡ false
  pub stood : stored_under state name ≡ Some stored

not_refused : (answer : Reply) → IsSome (refusal_in answer) → refusal_in answer ≡ None → ⊥
not_refused answer refused none = false≢true (sym (ap is_some none) ∙ refused)

is_put : (state : State) (place : ℕ) (edit : Edit) (name : Bytes) (stored : Stored) → is_of name edit ≡ true
    → (does : DoesStore state (next_edit state place edit) place edit)
    → stored_under (next_edit state place edit) name ≡ Some stored → IsPut place edit name stored
is_put state place edit name stored of does is =
    let new = put_at place does.name does.bytes in
    let same : does.name ≡ name = sym does.named ∙ (bytes_decides (edited_name edit) name).0 of in
    let e : new ≡ stored =
    same_Some new stored
    (sym (found_with_same new state)
    ∙ ap (stored_under (with_stored new state)) same
    ∙ ap (λ (s : State). stored_under s name) (sym does.leaves)
    ∙ is) in
    subst (IsPut place edit name) e (record {
      named = same;
      of = of;
      puts = subst (λ (named : Bytes). EditPuts edit named does.bytes) same does.puts;
      version = refl;
      read = does.read;
      nodes = refl;
    })

pub edit_found : (state : State) (place : ℕ) (edit : Edit) (name : Bytes) (stored : Stored)
    → stored_under (next_edit state place edit) name ≡ Some stored
    → Stood state edit (edit_reply state place edit) name stored ⊎ IsPut place edit name stored
edit_found state place edit name stored is =
    let after = next_edit state place edit in
    let answer = edit_reply state place edit in
    let Goal : Type 0 = Stood state edit answer name stored ⊎ IsPut place edit name stored in
    let of_same : is_of name edit ≡ true → Goal =
    λ of. elim (edit_does state place edit) [
      | inl does ↦ inr (is_put state place edit name stored of does is)
      | inr (inl does) ↦ absurd (none-some stored
          (sym (found_without_same (edited_name edit) state)
          ∙ ap (stored_under (without_name (edited_name edit) state)) ((bytes_decides (edited_name edit) name).0 of)
          ∙ ap (λ (s : State). stored_under s name) (sym does.leaves)
          ∙ is))
      | inr (inr does) ↦ inl (record {
        other = λ none. absurd (not_refused answer does.refused none);
        stood = sym (ap (λ (s : State). stored_under s name) does.leaves) ∙ is;
      })
    ] in
    let of_other : is_of name edit ≡ false → Goal =
    λ of.
    let differs : edited_name edit ≢ name =
    λ same. false≢true (sym of ∙ (bytes_decides (edited_name edit) name).1 same) in
    elim (edit_does state place edit) [
      | inl does ↦ inl (record {
        other = λ none. of;
        stood =
            sym (found_with_other (put_at place does.name does.bytes) state name
            (λ same. differs (does.named ∙ same)))
            ∙ ap (λ (s : State). stored_under s name) (sym does.leaves)
            ∙ is;
      })
      | inr (inl does) ↦ inl (record {
        other = λ none. of;
        stood =
            sym (found_without_other (edited_name edit) state name differs)
            ∙ ap (λ (s : State). stored_under s name) (sym does.leaves)
            ∙ is;
      })
      | inr (inr does) ↦ inl (record {
        other = λ none. of;
        stood = sym (ap (λ (s : State). stored_under s name) does.leaves) ∙ is;
      })
    ] in
    let by_name : is_of name edit ≡ is_of name edit → Goal =
    elim (is_of name edit) as (λ b. is_of name edit ≡ b → Goal) [ true ↦ of_same | false ↦ of_other ] in
    by_name refl

-- the last edit of a name, behind one edit more
pub last_cons : (name : Bytes) (edit : Edit) (edits : List Edit)
    → last_of name (edit ∷ edits) ≡ option_or (last_of name edits) (cond (is_of name edit) (Some edit) None)
last_cons name edit edits =
    ap (find (is_of name)) (reverse-append (edit ∷ []) edits)
    ∙ find-append (is_of name) (reverse edits) (edit ∷ [])

-- what holds of each edit holds of the last one of a name
pub last_among : (P : Edit → Type 0) (name : Bytes) (edits : List Edit) (last : Edit) → All P edits
    → last_of name edits ≡ Some last → P last
last_among P name [] last every is = absurd (none-some last is)
last_among P name (edit ∷ edits) last every is =
    let rest = last_among P name edits last (All-tail P edit edits every) in
    let by_last : last_of name edits ≡ last_of name edits → P last =
    elim (last_of name edits) as (λ later. last_of name edits ≡ later → P last) [
      | Some later ↦ λ e. rest
          (e ∙ sym (ap (λ o. option_or o (cond (is_of name edit) (Some edit) None)) e)
          ∙ sym (last_cons name edit edits) ∙ is)
      | None ↦ λ e. of_edit
          (sym (ap (λ o. option_or o (cond (is_of name edit) (Some edit) None)) e)
          ∙ sym (last_cons name edit edits) ∙ is)
    ] in
    by_last refl
  where
    of_edit : cond (is_of name edit) (Some edit) None ≡ Some last → P last
    of_edit = elim (is_of name edit) as (λ b. cond b (Some edit) None ≡ Some last → P last) [
      | true ↦ λ same. subst P (same_Some edit last same) (All-head P edit edits every)
      | false ↦ λ same. absurd (none-some last same)
    ]

-- the last edit of the name put the document under it
pub record IsLastPut (place : ℕ) (edits : List Edit) (name : Bytes) (stored : Stored) : Type 0 where
  pub edit : Edit
  pub last : last_of name edits ≡ Some edit
  pub put : IsPut place edit name stored

-- none of the replies is a refusal
none_of_both : (number : ℕ) (refusal : Option Refusal) (later : Option Halt) → halt_at number refusal later ≡ None
    → (refusal ≡ None) × (later ≡ None)
none_of_both number None later is = (refl, is)
none_of_both number (Some refusal) later is = cc

-- where none of the edits is refused, what is found stood there and none of them is of its name, or the last of its
-- name put it there
pub edits_found : (edits : List Edit) (number : ℕ) (state : State) (place : ℕ) (name : Bytes) (stored : Stored)
    → first_halt number (edit_replies state place edits) ≡ None
    → stored_under (after_edits state place edits) name ≡ Some stored
    → ((last_of name edits ≡ None) × (stored_under state name ≡ Some stored)) ⊎ IsLastPut place edits name stored
edits_found [] number state place name stored none is = inl (refl, is)
edits_found (edit ∷ edits) number state place name stored none is =
    let after = next_edit state place edit in
    let answer = edit_reply state place edit in
    let both = none_of_both number (refusal_in answer) (first_halt (number + 1) (edit_replies after place edits)) none in
    let last = last_cons name edit edits in
    let more : Option Edit → Option Edit = λ later. option_or later (cond (is_of name edit) (Some edit) None) in
    let alone : Bool → Option Edit = λ b. cond b (Some edit) None in
    elim (edits_found edits (number + 1) after place name stored both.1 is) [
      | inl before ↦ elim (edit_found state place edit name stored before.1) [
        | inl stood ↦ inl (last ∙ ap more before.0 ∙ ap alone (stood.other both.0), stood.stood)
        | inr put ↦ inr (record { edit = edit; last = last ∙ ap more before.0 ∙ ap alone put.of; put = put })
      ]
      | inr later ↦ inr (record { edit = later.edit; last = last ∙ ap more later.last; put = later.put })
    ]
