-- How a script is printed (own): the line of each request, with single spaces between its words and no zeros before its
-- numbers; behind it the body of a put, or the edits of a group with theirs; and no line that is passed over.
use Rattle.std.specs.Prelude.{◌++◌, List, [], ℕ, Some, None, codes}
use Rattle.std.specs.Fmt.{decimal}
use Rattle.std.specs.List.{flat_map}
use Rattle.dita_doc.specs.Lines.{line}
use Rattle.dita_doc.specs.Request.{Edit, Put, PutIf, Remove, Request, Single, Get, Names, Build, Group}
use Rattle.script_text.specs.Script.{Step}

abbrev pub edit_line : Edit → List ℕ
edit_line (Put name body) = codes "put " ++ name
edit_line (PutIf version name body) = codes "putif " ++ decimal version ++ codes " " ++ name
edit_line (Remove name) = codes "remove " ++ name

-- a body, and the line that ends it
abbrev pub body_text : List ℕ → List ℕ
body_text body = body ++ line (codes ".")

abbrev pub behind_edit : Edit → List ℕ
behind_edit (Put name body) = body_text body
behind_edit (PutIf version name body) = body_text body
behind_edit (Remove name) = []

-- an edit of a group
abbrev pub edit_text : Edit → List ℕ
edit_text edit = line (edit_line edit) ++ behind_edit edit

abbrev pub request_line : Request → List ℕ
request_line (Single edit) = edit_line edit
request_line (Get name) = codes "get " ++ name
request_line Names = codes "names"
request_line (Build root None) = codes "build " ++ root
request_line (Build root (Some val)) = codes "build " ++ root ++ codes " " ++ val
request_line (Group edits) = codes "group"

abbrev pub behind_request : Request → List ℕ
behind_request (Single edit) = behind_edit edit
behind_request (Get name) = []
behind_request Names = []
behind_request (Build root val) = []
behind_request (Group edits) = flat_map edit_text edits ++ line (codes "end")

abbrev pub step_text : Step → List ℕ
step_text step = line (decimal step.session ++ codes " " ++ request_line step.request) ++ behind_request step.request

abbrev pub steps_text : List Step → List ℕ
steps_text steps = flat_map step_text steps
