-- Commands as they are read.
use Rattle.std.specs.Prelude.{ℕ, Option, Some, None}
use Rattle.dita_doc.specs.Seen.{edit_seen, request_seen, IsOwnEdit, HasOwnOrigin}
use Rattle.script_text.specs.Script as said
use Rattle.script_text.specs.declared.command.Opening.{Opening}
use Rattle.script_text.specs.declared.command.Opening.TheVariants.{Put, PutIf}
use Rattle.script_text.specs.declared.command.EditCommand.{EditCommand}
use Rattle.script_text.specs.declared.command.EditCommand.TheVariants as edits
use Rattle.script_text.specs.declared.command.Command.{Command}
use Rattle.script_text.specs.declared.command.Command.TheVariants.{Edit, Whole, OpensGroup}

abbrev pub opening_seen : Opening → said.Opening
opening_seen (Put name) = said.PutOf name
opening_seen (PutIf version name) = said.PutIfOf version name

abbrev pub edit_command_seen : EditCommand → said.EditCommand
edit_command_seen (edits.Whole edit) = said.WholeEdit (edit_seen edit)
edit_command_seen (edits.Opens opening) = said.OpensBody (opening_seen opening)

abbrev pub edit_line_seen : Option EditCommand → Option said.EditCommand
edit_line_seen None = None
edit_line_seen (Some edit) = Some (edit_command_seen edit)

abbrev pub command_seen : Command → said.Command
command_seen (Edit edit) = said.Edits (edit_command_seen edit)
command_seen (Whole request) = said.Whole (request_seen request)
command_seen OpensGroup = said.OpensGroup

abbrev pub asked_seen : Option (ℕ × Command) → Option said.AskedLine
asked_seen None = None
asked_seen (Some asked) = Some (record { session = asked.0; command = command_seen asked.1 })

-- a document in a whole edit has the edit's name as its one origin
abbrev pub HasOwnEdit : EditCommand → Type 0
HasOwnEdit (edits.Whole edit) = IsOwnEdit edit
HasOwnEdit (edits.Opens opening) = Unit {0}

-- and one in a whole request the request's
abbrev pub HasOwn : Command → Type 0
HasOwn (Edit edit) = HasOwnEdit edit
HasOwn (Whole request) = HasOwnOrigin request
HasOwn OpensGroup = Unit {0}
