-- What is shown of answers: each answer of a desk is shown.
use Rattle.std.proofs.Common.{◌≡◌, ◌+◌, ◌==◌, ◌&&◌, ℕ, Bool, true, false, not, List, [], ◌∷◌, Option, Some, None, Result, Ok, Err, if◌then◌else◌, length, option_map, is_some, nat_le, refl, sym, ◌∙◌, arith}
use Rattle.dita_doc.specs.Desk.{State, Stored, Halt, Reply, IsStored, IsRemoved, Bytes, NameList, IsRefused, Conflict, Absent, TooManyNames, Begun, IsGrouped, IsStopped, reply, next, stored_under, store_reply, unless_refused, get_reply, remove_reply, edit_reply, halt_of, group_reply, version_at, stored_limit}
use Rattle.dita_doc.specs.Pyx.{document_of}
use Rattle.dita_doc.specs.Request.{Edit, Put, PutIf, Remove, Request, Single, Get, Names, Build, Group}
use Rattle.dita_doc.specs.Tree.{Content}
use Rattle.dita_doc.specs.declared.fault.PyxFault.{PyxFault}
use Rattle.script_text.specs.Script.{Step}
use Rattle.transcript_text.specs.Transcript.{BuildShown, Shown, EntryShown, unless_built, reply_shown}
use Rattle.transcript_text.specs.Written.{is_begun}
use Rattle.run_spec.specs.Answers.{answer_at, answers_from, answer_shown, answers_shown, before_shown, built_by}

-- Only a build begins

if_not_begun : (same : Bool) (first other : Reply) → is_begun first ≡ false → is_begun other ≡ false
    → is_begun (if same then first else other) ≡ false
if_not_begun true first other a b = a
if_not_begun false first other a b = b

refused_not_begun : (read : Result Content PyxFault) (answer : Reply) → is_begun answer ≡ false
    → is_begun (unless_refused read answer) ≡ false
refused_not_begun (Ok tree) answer a = a
refused_not_begun (Err fault) answer a = refl

get_not_begun : (stored : Option Stored) → is_begun (get_reply stored) ≡ false
get_not_begun None = refl
get_not_begun (Some stored) = refl

remove_not_begun : (stored : Option Stored) → is_begun (remove_reply stored) ≡ false
remove_not_begun None = refl
remove_not_begun (Some stored) = refl

store_not_begun : (state : State) (place : ℕ) (name : List ℕ) → is_begun (store_reply state place name) ≡ false
store_not_begun state place name = if_not_begun
    (nat_le stored_limit (length state) && not (is_some (stored_under state name))) (TooManyNames stored_limit)
    (IsStored (place + 1)) refl refl

edit_not_begun : (state : State) (place : ℕ) (edit : Edit) → is_begun (edit_reply state place edit) ≡ false
edit_not_begun state place (Put name body) =
    refused_not_begun (document_of body) _ (store_not_begun state place name)
edit_not_begun state place (PutIf version name body) =
    refused_not_begun (document_of body) _
    (if_not_begun (version_at state name == version) (store_reply state place name)
    (Conflict (version_at state name)) (store_not_begun state place name) refl)
edit_not_begun state place (Remove name) = remove_not_begun (stored_under state name)

group_not_begun : (count : ℕ) (halt : Option Halt) → is_begun (group_reply count halt) ≡ false
group_not_begun count None = refl
group_not_begun count (Some halt) = refl

-- a reply says that a build has its place exactly where the request is a build
pub begun_built : (state : State) (place : ℕ) (request : Request)
    → is_some (built_by state request) ≡ is_begun (reply state place request)
begun_built state place (Single edit) = sym (edit_not_begun state place edit)
begun_built state place (Get name) = sym (get_not_begun (stored_under state name))
begun_built state place Names = refl
begun_built state place (Build root val) = refl
begun_built state place (Group edits) = sym (group_not_begun (length edits) (halt_of state place edits))

-- Each is shown

pub some_map : {A B : Type 0} (f : A → B) (value : Option A) → is_some (option_map f value) ≡ is_some value
some_map f None = refl
some_map f (Some x) = refl

unless_shown : (built : Option BuildShown) (shown : Shown) → is_some built ≡ false
    → is_some (unless_built built shown) ≡ true
unless_shown None shown none = refl
unless_shown (Some built) shown none = absurd (cc none)

-- a reply is shown where a build is given exactly for the reply that one has its place
pub reply_is_shown : (answer : Reply) (built : Option BuildShown) → is_some built ≡ is_begun answer
    → is_some (reply_shown answer built) ≡ true
reply_is_shown (IsStored version) built same = unless_shown built _ same
reply_is_shown (IsRemoved version) built same = unless_shown built _ same
reply_is_shown (Bytes bytes) built same = unless_shown built _ same
reply_is_shown (NameList names) built same = unless_shown built _ same
reply_is_shown (IsRefused fault) built same = unless_shown built _ same
reply_is_shown (Conflict version) built same = unless_shown built _ same
reply_is_shown Absent built same = unless_shown built _ same
reply_is_shown (TooManyNames limit) built same = unless_shown built _ same
reply_is_shown Begun built same = some_map _ built ∙ same
reply_is_shown (IsGrouped count) built same = unless_shown built _ same
reply_is_shown (IsStopped number refusal) built same = unless_shown built _ same

pub answer_is_shown : (at : ℕ) (state : State) (place number : ℕ) (step : Step)
    → is_some (answer_shown at (answer_at state place number step)) ≡ true
answer_is_shown at state place number step =
    some_map _ (reply_shown (reply state place step.request) _)
    ∙ reply_is_shown (reply state place step.request) _ (some_map _ (built_by state step.request)
    ∙ begun_built state place step.request)

length-before_shown : (shown : Option EntryShown) (entries : List EntryShown) → is_some shown ≡ true
    → length (before_shown shown entries) ≡ length entries + 1
length-before_shown None entries some = absurd (cc some)
length-before_shown (Some entry) entries some = omega arith

-- an entry for each step
pub length-answers_shown : (at : ℕ) (state : State) (place : ℕ) (steps : List Step)
    → length (answers_shown at (answers_from state place steps)) ≡ length steps
length-answers_shown at state place [] = refl
length-answers_shown at state place (step ∷ steps) =
    omega (
      arith,
      length-before_shown (answer_shown at (answer_at state place (place + 1) step))
          (answers_shown (at + 1) (answers_from (next state place step.request) (place + 1) steps))
          (answer_is_shown at state place (place + 1) step),
      length-answers_shown (at + 1) (next state place step.request) (place + 1) steps,
    )
