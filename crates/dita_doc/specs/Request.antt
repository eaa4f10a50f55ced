-- What is asked of the desk (own): an edit, which stores a body under a name, whatever stands there or only if this
-- version stands there, or removes what stands under a name; to get what stands under a name; to list all names; to
-- build a map, with a DITAVAL or without; a group of edits, of which all are done or none.
use Rattle.std.specs.Prelude.{◌≡◌, ◌+◌, ◌≤◌, ℕ, true, List, length, map, sum, Option, Some, None}
use Rattle.std.specs.List.{All}
use Rattle.std.specs.Str.{is_utf8}

pub data Edit : Type 0 where
  Put : (name body : List ℕ) → Edit
  PutIf : (version : ℕ) (name body : List ℕ) → Edit
  Remove : (name : List ℕ) → Edit

pub data Request : Type 0 where
  Single : Edit → Request
  Get : (name : List ℕ) → Request
  Names : Request
  Build : (root : List ℕ) (val : Option (List ℕ)) → Request
  Group : (edits : List Edit) → Request

-- the most edits of a group
abbrev pub edit_limit : ℕ
edit_limit = 1000

-- if it is a group, it has no more edits than a group may have
abbrev pub HasFewEdits : Request → Type 0
HasFewEdits (Single edit) = Unit {0}
HasFewEdits (Get name) = Unit {0}
HasFewEdits Names = Unit {0}
HasFewEdits (Build root val) = Unit {0}
HasFewEdits (Group edits) = length edits ≤ edit_limit

-- the bytes of its name and of its body
abbrev pub edit_size : Edit → ℕ
edit_size (Put name body) = length name + length body
edit_size (PutIf version name body) = length name + length body
edit_size (Remove name) = length name

-- the bytes of its names and of its bodies
abbrev pub text_size : Request → ℕ
text_size (Single edit) = edit_size edit
text_size (Get name) = length name
text_size Names = 0
text_size (Build root None) = length root
text_size (Build root (Some val)) = length root + length val
text_size (Group edits) = sum (map edit_size edits)

-- its name and its body are UTF-8
abbrev pub IsUtf8Edit : Edit → Type 0
IsUtf8Edit (Put name body) = (is_utf8 name ≡ true) × (is_utf8 body ≡ true)
IsUtf8Edit (PutIf version name body) = (is_utf8 name ≡ true) × (is_utf8 body ≡ true)
IsUtf8Edit (Remove name) = is_utf8 name ≡ true

-- its names and its bodies are UTF-8
abbrev pub IsUtf8Request : Request → Type 0
IsUtf8Request (Single edit) = IsUtf8Edit edit
IsUtf8Request (Get name) = is_utf8 name ≡ true
IsUtf8Request Names = Unit {0}
IsUtf8Request (Build root None) = is_utf8 root ≡ true
IsUtf8Request (Build root (Some val)) = (is_utf8 root ≡ true) × (is_utf8 val ≡ true)
IsUtf8Request (Group edits) = All IsUtf8Edit edits
