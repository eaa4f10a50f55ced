-- The desk on one thread (own): what is stored, and what each request is answered. Requests have places 0, 1, 2 and so
-- on. The version of what is stored is the place of the request that stored it, plus 1; a name that is not stored has
-- version 0. The edits of a group are tried one after the other, all at the group's place, each on what those before it
-- leave; if one of them is refused, none is done.
use Rattle.std.specs.Prelude.{◌≡◌, ◌+◌, ◌==◌, ◌&&◌, ℕ, Bool, not, List, [], ◌∷◌, Option, Some, None, Result, Ok, Err, length, nat_le, if◌then◌else◌, bytes_eq, find, filter, map, is_some}
use Rattle.std.specs.Ordering.{nat_cmp}
use Rattle.std.specs.Cmp.Lexicographic.{slice_cmp}
use Rattle.std.specs.declared.cmp.Ordering.TheVariants.{Less, Equal, Greater}
use Rattle.dita_doc.specs.declared.doc.Node.{Node}
use Rattle.dita_doc.specs.declared.fault.PyxFault.{PyxFault}
use Rattle.dita_doc.specs.Tree.{Content, nodes_of}
use Rattle.dita_doc.specs.Pyx.{document_of}
use Rattle.dita_doc.specs.Request.{Edit, Put, PutIf, Remove, Request, Single, Get, Names, Build, Group}

-- a stored document: its nodes in preorder, whose one origin is the name; the bytes as they were put; and its version
pub record Stored : Type 0 where
  pub name : List ℕ
  pub nodes : List Node
  pub bytes : List ℕ
  pub version : ℕ

-- all that is stored, by the bytes of the names, each name once
abbrev pub State : Type 0
State = List Stored

-- this name is below each of theirs
abbrev pub IsBelowAll : List ℕ → State → Type 0
IsBelowAll name [] = Unit {0}
IsBelowAll name (stored ∷ state) = (slice_cmp nat_cmp name stored.name ≡ Less) × IsBelowAll name state

-- each name is below all that follow it: the names rise by their bytes, and none stands twice
abbrev pub IsSortedByName : State → Type 0
IsSortedByName [] = Unit {0}
IsSortedByName (stored ∷ state) = IsBelowAll stored.name state × IsSortedByName state

abbrev pub is_named : List ℕ → Stored → Bool
is_named name stored = bytes_eq stored.name name

abbrev pub stored_under : State → List ℕ → Option Stored
stored_under state name = find (is_named name) state

abbrev pub version_of : Option Stored → ℕ
version_of None = 0
version_of (Some stored) = stored.version

-- the version that stands under a name
abbrev pub version_at : State → List ℕ → ℕ
version_at state name = version_of (stored_under state name)

abbrev pub stored_limit : ℕ
stored_limit = 10000

-- why an edit is refused
pub data Refusal : Type 0 where
  BodyFault : PyxFault → Refusal
  OtherVersion : (version : ℕ) → Refusal
  NotStored : Refusal
  NoRoom : (limit : ℕ) → Refusal

pub data Reply : Type 0 where
  IsStored : (version : ℕ) → Reply
  IsRemoved : (version : ℕ) → Reply
  Bytes : (bytes : List ℕ) → Reply
  NameList : (names : List (List ℕ × ℕ)) → Reply
  IsRefused : PyxFault → Reply
  Conflict : (version : ℕ) → Reply
  Absent : Reply
  TooManyNames : (limit : ℕ) → Reply
  Begun : Reply
  IsGrouped : (edits : ℕ) → Reply
  IsStopped : (number : ℕ) (refusal : Refusal) → Reply

-- Edits

-- a body that is a text is stored, unless the desk is full and has no such name
abbrev pub store_reply : State → ℕ → List ℕ → Reply
store_reply state place name =
    if nat_le stored_limit (length state) && not (is_some (stored_under state name)) then TooManyNames stored_limit
    else IsStored (place + 1)

-- the reply if a body is a text, or its fault
abbrev pub unless_refused : Result Content PyxFault → Reply → Reply
unless_refused (Ok tree) reply = reply
unless_refused (Err fault) reply = IsRefused fault

abbrev pub remove_reply : Option Stored → Reply
remove_reply None = Absent
remove_reply (Some stored) = IsRemoved stored.version

-- the reply to an edit at a place
abbrev pub edit_reply : State → ℕ → Edit → Reply
edit_reply state place (Put name body) = unless_refused (document_of body) (store_reply state place name)
edit_reply state place (PutIf version name body) =
    unless_refused (document_of body) (if version_at state name == version then store_reply state place name
    else Conflict (version_at state name))
edit_reply state place (Remove name) = remove_reply (stored_under state name)

-- the nodes of the document that a body is
abbrev pub nodes_in : Result Content PyxFault → List Node
nodes_in (Ok tree) = nodes_of tree 0
nodes_in (Err fault) = []

-- the state in which this is stored, in the place of what stood under its name
abbrev pub with_stored : Stored → State → State
with_stored new [] = new ∷ []
with_stored new (stored ∷ state) = elim (slice_cmp nat_cmp new.name stored.name) [
  | Less ↦ new ∷ stored ∷ state
  | Equal ↦ new ∷ state
  | Greater ↦ stored ∷ with_stored new state
]

-- the state in which nothing is stored under this name
abbrev pub without_name : List ℕ → State → State
without_name name state = filter (λ stored. not (is_named name stored)) state

-- the state after an edit that has this reply: only what was stored or removed changes it
abbrev pub after_edit : State → Edit → Reply → State
after_edit state (Put name body) (IsStored version) =
    with_stored (record { name = name; nodes = nodes_in (document_of body); bytes = body; version = version }) state
after_edit state (PutIf expected name body) (IsStored version) =
    with_stored (record { name = name; nodes = nodes_in (document_of body); bytes = body; version = version }) state
after_edit state (Remove name) (IsRemoved version) = without_name name state
after_edit state edit answer = state

-- the state after the edit at a place
abbrev pub next_edit : State → ℕ → Edit → State
next_edit state place edit = after_edit state edit (edit_reply state place edit)

-- Groups

-- the state behind edits at one place, each on what those before it leave
abbrev pub after_edits : State → ℕ → List Edit → State
after_edits state place [] = state
after_edits state place (edit ∷ edits) = after_edits (next_edit state place edit) place edits

-- the replies to edits at one place, each on what those before it leave
abbrev pub edit_replies : State → ℕ → List Edit → List Reply
edit_replies state place [] = []
edit_replies state place (edit ∷ edits) =
    edit_reply state place edit ∷ edit_replies (next_edit state place edit) place edits

-- why an edit with this reply is refused, if it is: any other edit was stored or removed
abbrev pub refusal_in : Reply → Option Refusal
refusal_in (IsRefused fault) = Some (BodyFault fault)
refusal_in (Conflict version) = Some (OtherVersion version)
refusal_in Absent = Some NotStored
refusal_in (TooManyNames limit) = Some (NoRoom limit)
refusal_in answer = None

-- the number of an edit, and why it is refused
pub record Halt : Type 0 where
  pub number : ℕ
  pub refusal : Refusal

abbrev pub halt_at : ℕ → Option Refusal → Option Halt → Option Halt
halt_at number None later = later
halt_at number (Some refusal) later = Some (record { number = number; refusal = refusal })

-- the first refusal among the replies to edits, which are counted from this number on
abbrev pub first_halt : ℕ → List Reply → Option Halt
first_halt number [] = None
first_halt number (answer ∷ answers) = halt_at number (refusal_in answer) (first_halt (number + 1) answers)

-- what stops a group: the first of its edits that is refused
abbrev pub halt_of : State → ℕ → List Edit → Option Halt
halt_of state place edits = first_halt 1 (edit_replies state place edits)

abbrev pub group_reply : ℕ → Option Halt → Reply
group_reply count None = IsGrouped count
group_reply count (Some halt) = IsStopped halt.number halt.refusal

abbrev pub unless_halted : Option Halt → State → State → State
unless_halted None after before = after
unless_halted (Some halt) after before = before

-- Requests

abbrev pub get_reply : Option Stored → Reply
get_reply None = Absent
get_reply (Some stored) = Bytes stored.bytes

abbrev pub listed : Stored → List ℕ × ℕ
listed stored = (stored.name, stored.version)

-- the reply to the request at a place
abbrev pub reply : State → ℕ → Request → Reply
reply state place (Single edit) = edit_reply state place edit
reply state place (Get name) = get_reply (stored_under state name)
reply state place Names = NameList (map listed state)
reply state place (Build root val) = Begun
reply state place (Group edits) = group_reply (length edits) (halt_of state place edits)

-- the state after the request at a place
abbrev pub next : State → ℕ → Request → State
next state place (Single edit) = next_edit state place edit
next state place (Get name) = state
next state place Names = state
next state place (Build root val) = state
next state place (Group edits) = unless_halted (halt_of state place edits) (after_edits state place edits) state
