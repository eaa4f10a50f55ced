-- What requests, replies and entries are, in the words of `Request`, `Desk` and `History`: an `Arc` is what it holds.
use Rattle.std.specs.Prelude.{◌≡◌, ℕ, List, [], ◌∷◌, IfOk, map}
use Rattle.std.specs.Arc.{arc_value}
use Rattle.std.specs.List.{All}
use Rattle.dita_doc.specs.declared.body.Body.{Body}
use Rattle.dita_doc.specs.declared.request.Read.{Read}
use Rattle.dita_doc.specs.declared.request.Edit as edited
use Rattle.dita_doc.specs.declared.request.Edit.TheVariants as edits
use Rattle.dita_doc.specs.declared.request.EditFault as refused
use Rattle.dita_doc.specs.declared.request.EditFault.TheVariants as refuses
use Rattle.dita_doc.specs.declared.request.Request as given
use Rattle.dita_doc.specs.declared.request.Request.TheVariants as gives
use Rattle.dita_doc.specs.declared.request.Reply as answered
use Rattle.dita_doc.specs.declared.request.Reply.TheVariants as answers
use Rattle.dita_doc.specs.declared.request.Entry as kept
use Rattle.dita_doc.specs.Request.{Edit, Put, PutIf, Remove, Request, Single, Get, Names, Build, Group}
use Rattle.dita_doc.specs.Desk.{Refusal, BodyFault, OtherVersion, NotStored, NoRoom, Reply, IsStored, IsRemoved, Bytes, NameList, IsRefused, Conflict, Absent, TooManyNames, Begun, IsGrouped, IsStopped}
use Rattle.dita_doc.specs.History.{Entry}

abbrev pub body_seen : Body → List ℕ
body_seen body = arc_value body.bytes

abbrev pub edit_seen : edited.Edit → Edit
edit_seen (edits.Put name body) = Put name (body_seen body)
edit_seen (edits.PutIf version name body) = PutIf version name (body_seen body)
edit_seen (edits.Remove name) = Remove name

abbrev pub request_seen : given.Request → Request
request_seen (gives.Put name body) = Single (Put name (body_seen body))
request_seen (gives.PutIf version name body) = Single (PutIf version name (body_seen body))
request_seen (gives.Remove name) = Single (Remove name)
request_seen (gives.Get name) = Get name
request_seen gives.Names = Names
request_seen (gives.Build root val) = Build root val
request_seen (gives.Group group) = Group (map edit_seen group)

abbrev pub refusal_seen : refused.EditFault → Refusal
refusal_seen (refuses.Refused fault) = BodyFault fault
refusal_seen (refuses.Conflict version) = OtherVersion version
refusal_seen refuses.Absent = NotStored
refusal_seen (refuses.TooManyNames limit) = NoRoom limit

abbrev pub read_seen : Read → List ℕ × ℕ
read_seen read = (read.name, read.version)

abbrev pub reply_seen : answered.Reply → Reply
reply_seen (answers.Stored version) = IsStored version
reply_seen (answers.Removed version) = IsRemoved version
reply_seen (answers.Bytes bytes) = Bytes (arc_value bytes)
reply_seen (answers.NameList names) = NameList (map read_seen names)
reply_seen (answers.Refused fault) = IsRefused fault
reply_seen (answers.Conflict version) = Conflict version
reply_seen answers.Absent = Absent
reply_seen (answers.TooManyNames limit) = TooManyNames limit
reply_seen answers.Begun = Begun
reply_seen (answers.Grouped count) = IsGrouped count
reply_seen (answers.Stopped number fault) = IsStopped number (refusal_seen fault)

abbrev pub entry_seen : kept.Entry → Entry
entry_seen entry = record {
  session = entry.session;
  number = entry.number;
  request =
      request_seen entry.request;
  reply = reply_seen entry.reply;
}

-- a document in the body has the name as its one origin
abbrev pub HasOrigin : List ℕ → Body → Type 0
HasOrigin name body = IfOk body.read (λ doc. (arc_value doc).origins ≡ name ∷ [])

-- a document that the edit is to store has the edit's name as its one origin
abbrev pub IsOwnEdit : edited.Edit → Type 0
IsOwnEdit (edits.Put name body) = HasOrigin name body
IsOwnEdit (edits.PutIf version name body) = HasOrigin name body
IsOwnEdit (edits.Remove name) = Unit {0}

-- a document that the request is to store has the name as its one origin under which it is to be stored
abbrev pub HasOwnOrigin : given.Request → Type 0
HasOwnOrigin (gives.Put name body) = HasOrigin name body
HasOwnOrigin (gives.PutIf version name body) = HasOrigin name body
HasOwnOrigin (gives.Remove name) = Unit {0}
HasOwnOrigin (gives.Get name) = Unit {0}
HasOwnOrigin gives.Names = Unit {0}
HasOwnOrigin (gives.Build root val) = Unit {0}
HasOwnOrigin (gives.Group group) = All IsOwnEdit group
