-- What a machine has begun, and what a line makes of it.
use Rattle.std.specs.Prelude.{ℕ, List, Option, Some, None, IfSome, map}
use Rattle.dita_doc.specs.Request.{Edit}
use Rattle.dita_doc.specs.Seen.{edit_seen, HasOwnOrigin}
use Rattle.dita_doc.specs.declared.request.Request.{Request}
use Rattle.script_text.specs.Script as said
use Rattle.script_text.specs.Command.{opening_seen}
use Rattle.script_text.specs.Read.{step_seen}
use Rattle.script_text.specs.declared.opened.OpenPut.{OpenPut}
use Rattle.script_text.specs.declared.group.Group as kept
use Rattle.script_text.specs.declared.turn.Begun.{Begun}
use Rattle.script_text.specs.declared.turn.Begun.TheVariants.{Put, Group, GroupPut}
use Rattle.script_text.specs.declared.turn.Turn.{Turn}

abbrev pub opened_seen : OpenPut → said.OpenPut
opened_seen put = record { opening = opening_seen put.opening; body = put.body }

-- the edits of a group so far
abbrev pub edits_seen : kept.Group → List Edit
edits_seen group = map edit_seen group.edits

abbrev pub group_seen : kept.Group → said.Begun
group_seen group = said.InGroup group.session (edits_seen group)

abbrev pub begun_seen : Begun → said.Begun
begun_seen (Put session put) = said.InPut session (opened_seen put)
begun_seen (Group group) = group_seen group
begun_seen (GroupPut group put) = said.InGroupPut group.session (edits_seen group) (opened_seen put)

abbrev pub pending_seen : Option Begun → Option said.Begun
pending_seen None = None
pending_seen (Some begun) = Some (begun_seen begun)

abbrev pub ended_seen : Option (ℕ × Request) → Option said.Step
ended_seen None = None
ended_seen (Some step) = Some (step_seen step)

-- the step that a line ended, and what is begun behind it
abbrev pub turned_seen : Option Begun → Option (ℕ × Request) → said.Turn
turned_seen begun step = record { step = ended_seen step; begun = pending_seen begun }

abbrev pub turn_seen : Turn → said.Turn
turn_seen turn = turned_seen turn.begun turn.step

-- a document that the request is to store, if one ends, has the name that it is stored under
abbrev pub EndsOwn : Turn → Type 0
EndsOwn turn = IfSome turn.step (λ step. HasOwnOrigin step.1)
