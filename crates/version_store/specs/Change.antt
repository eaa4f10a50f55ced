-- What an answer changes: a single edit is done in place, and a group that is done leaves sources of its own.
use Rattle.std.specs.Prelude.{Option, Some, None, IsOk}
use Rattle.dita_doc.specs.Desk.{State, Reply, IsStored, after_edit}
use Rattle.dita_doc.specs.Pyx.{document_of}
use Rattle.dita_doc.specs.Request.{Edit, Put, PutIf, Request, Single, Get, Names, Build, Group}

-- if the reply says that a body was stored, the body is a text
abbrev pub StoresText : Edit → Reply → Type 0
StoresText (Put name body) (IsStored version) = IsOk (document_of body)
StoresText (PutIf expected name body) (IsStored version) = IsOk (document_of body)
StoresText edit answer = Unit {0}

abbrev pub StoresTextIfEdit : Request → Reply → Type 0
StoresTextIfEdit (Single edit) answer = StoresText edit answer
StoresTextIfEdit (Get name) answer = Unit {0}
StoresTextIfEdit Names answer = Unit {0}
StoresTextIfEdit (Build root val) answer = Unit {0}
StoresTextIfEdit (Group edits) answer = Unit {0}

-- the state once a request with this reply has been done in place
abbrev pub after_reply : State → Request → Reply → State
after_reply state (Single edit) answer = after_edit state edit answer
after_reply state (Get name) answer = state
after_reply state Names answer = state
after_reply state (Build root val) answer = state
after_reply state (Group edits) answer = state

-- the state that a group has left, if there is one, or else that after the reply
abbrev pub left_by : State → Request → Reply → Option State → State
left_by state request answer None = after_reply state request answer
left_by state request answer (Some left) = left
