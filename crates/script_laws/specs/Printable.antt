-- Requests that a script can ask (own): names are document names in UTF-8, sessions and versions are numbers that a
-- script may have, a body is lines of which none ends it, and a group has at most 1,000 edits. So what they are printed
-- as is a script, if it is short enough.
use Rattle.std.specs.Prelude.{◌≡◌, ◌≤◌, ◌<◌, ◌^◌, ℕ, true, List, Some, None, All, length}
use Rattle.std.specs.List.{AllByRecursion, flat_map}
use Rattle.std.specs.Str.{is_utf8}
use Rattle.dita_doc.specs.Lines.{line}
use Rattle.dita_doc.specs.Name.{is_name}
use Rattle.dita_doc.specs.Request.{Edit, Put, PutIf, Remove, Request, Single, Get, Names, Build, Group, edit_limit}
use Rattle.script_laws.specs.Blocks.{IsBodyLine}
use Rattle.script_text.specs.Printed.{steps_text}
use Rattle.script_text.specs.Script.{Step, request_limit, script_limit, session_limit}

pub record CanName (name : List ℕ) : Type 0 where
  pub named : is_name name ≡ true
  pub utf8 : is_utf8 name ≡ true

pub record CanPut (body : List ℕ) : Type 0 where
  pub lines : List (List ℕ)
  pub each : All IsBodyLine lines
  pub is : body ≡ flat_map line lines

abbrev pub CanEdit : Edit → Type 0
CanEdit (Put name body) = CanName name × CanPut body
CanEdit (PutIf version name body) = (version < 10 ^ 18) × CanName name × CanPut body
CanEdit (Remove name) = CanName name

abbrev pub CanAsk : Request → Type 0
CanAsk (Single edit) = CanEdit edit
CanAsk (Get name) = CanName name
CanAsk Names = Unit {0}
CanAsk (Build root None) = CanName root
CanAsk (Build root (Some val)) = CanName root × CanName val
CanAsk (Group edits) = AllByRecursion CanEdit edits × (length edits ≤ edit_limit)

pub record CanStep (step : Step) : Type 0 where
  pub first : 1 ≤ step.session
  pub last : step.session ≤ session_limit
  pub asks : CanAsk step.request

pub record CanPrint (steps : List Step) : Type 0 where
  pub each : AllByRecursion CanStep steps
  pub few : length steps ≤ request_limit
  pub short : length (steps_text steps) ≤ script_limit
