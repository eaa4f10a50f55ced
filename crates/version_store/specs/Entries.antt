-- What the entries of a history put.
use Rattle.std.specs.Prelude.{◌≡◌, ◌+◌, ℕ, Bool, List, Option, Some, IsOk, bytes_eq, find, reverse}
use Rattle.std.specs.List.{slice_get}
use Rattle.dita_doc.specs.Bytes.{Bytes}
use Rattle.dita_doc.specs.Request.{Edit, Put, PutIf, Remove, Request, Single, Get, Names, Build, Group}
use Rattle.dita_doc.specs.Desk.{Stored, nodes_in}
use Rattle.dita_doc.specs.History.{Entry}
use Rattle.dita_doc.specs.Pyx.{document_of}

abbrev pub Entries : Type 0
Entries = List Entry

-- the name of which an edit is
abbrev pub edited_name : Edit → Bytes
edited_name (Put name body) = name
edited_name (PutIf version name body) = name
edited_name (Remove name) = name

abbrev pub is_of : Bytes → Edit → Bool
is_of name edit = bytes_eq (edited_name edit) name

-- the last edit of this name
abbrev pub last_of : Bytes → List Edit → Option Edit
last_of name edits = find (is_of name) (reverse edits)

-- the edit is to store this under this name
abbrev pub EditPuts : Edit → Bytes → Bytes → Type 0
EditPuts (Put named body) name bytes = (named ≡ name) × (body ≡ bytes)
EditPuts (PutIf version named body) name bytes = (named ≡ name) × (body ≡ bytes)
EditPuts (Remove named) name bytes = ⊥

-- the last of the edits of this name is to store this under it
pub record PutsLast (edits : List Edit) (name bytes : Bytes) : Type 0 where
  pub edit : Edit
  pub last : last_of name edits ≡ Some edit
  pub puts : EditPuts edit name bytes

-- the request is to store this under this name, and to leave it there
abbrev pub Puts : Request → Bytes → Bytes → Type 0
Puts (Single edit) name bytes = EditPuts edit name bytes
Puts (Get named) name bytes = ⊥
Puts Names name bytes = ⊥
Puts (Build root val) name bytes = ⊥
Puts (Group edits) name bytes = PutsLast edits name bytes

-- the entry at the place before its version put the document's bytes under its name, and its nodes are those of the
-- text that these bytes are
pub record ComesFrom (entries : Entries) (stored : Stored) : Type 0 where
  pub place : ℕ
  pub entry : Entry
  pub version : stored.version ≡ place + 1
  pub stands : slice_get entries place ≡ Some entry
  pub puts : Puts entry.request stored.name stored.bytes
  pub read : IsOk (document_of stored.bytes)
  pub nodes : stored.nodes ≡ nodes_in (document_of stored.bytes)
