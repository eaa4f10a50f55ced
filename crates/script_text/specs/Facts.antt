-- What the steps of each script keep to.
use Rattle.std.specs.Prelude.{◌≡◌, ◌≤◌, ℕ, List, [], ◌∷◌, Some, None, Result, Ok, Err, IfOk, length, map, sum}
use Rattle.std.specs.Arc.{arc_value}
use Rattle.std.specs.Coded.{Coded-set, coded_bool, coded_list, coded_ℕ, ×_prop, Unit-prop}
use Rattle.std.specs.List.{All}
use Rattle.std.proofs.Props.{props}
use Rattle.dita_doc.specs.Request.{Edit, Put, PutIf, Remove, Request, Single, Get, Names, Build, Group, HasFewEdits, text_size, IsUtf8Edit, IsUtf8Request}
use Rattle.dita_doc.specs.Seen.{request_seen, HasOrigin, IsOwnEdit, HasOwnOrigin}
use Rattle.dita_doc.specs.declared.body.Body.{Body}
use Rattle.dita_doc.specs.declared.request.Edit as edited
use Rattle.dita_doc.specs.declared.request.Edit.TheVariants as edits
use Rattle.dita_doc.specs.declared.request.Request as given
use Rattle.dita_doc.specs.declared.request.Request.TheVariants as gives
use Rattle.script_text.specs.Script.{Step, script_limit, request_limit, session_limit}

-- the bytes of the names and bodies of steps
abbrev pub steps_size : List Step → ℕ
steps_size steps = sum (map (λ step. text_size step.request) steps)

abbrev pub IsUtf8Step : Step → Type 0
IsUtf8Step step = IsUtf8Request step.request

-- if it is a group, it has few edits
abbrev pub HasFewStep : Step → Type 0
HasFewStep step = HasFewEdits step.request

-- steps as each script has them: few, groups of few edits, and texts that are short and UTF-8
pub record FitsScript (steps : List Step) : Type 0 where
  pub few : length steps ≤ request_limit
  pub few_edits : All HasFewStep steps
  pub size : steps_size steps ≤ script_limit
  pub utf8 : All IsUtf8Step steps

abbrev pub IsSession : ℕ → Type 0
IsSession session = (1 ≤ session) × (session ≤ session_limit)

abbrev pub IsInSession : ℕ × given.Request → Type 0
IsInSession step = IsSession step.0

abbrev pub HasUtf8 : ℕ × given.Request → Type 0
HasUtf8 step = IsUtf8Request (request_seen step.1)

abbrev pub HasFew : ℕ × given.Request → Type 0
HasFew step = HasFewEdits (request_seen step.1)

-- a document that the step is to store has the name that it is stored under
abbrev pub IsOwnStep : ℕ × given.Request → Type 0
IsOwnStep step = HasOwnOrigin step.1

-- What a type keeps is a proposition. Of facts that go by cases this is shown here.

edit-utf8-prop : (edit : Edit) → IsProp (IsUtf8Edit edit)
edit-utf8-prop (Put name body) = ×_prop (Coded-set coded_bool _ _) (Coded-set coded_bool _ _)
edit-utf8-prop (PutIf version name body) = ×_prop (Coded-set coded_bool _ _) (Coded-set coded_bool _ _)
edit-utf8-prop (Remove name) = Coded-set coded_bool _ _

all-utf8-prop : (edits : List Edit) → IsProp (All IsUtf8Edit edits)
all-utf8-prop edits = Prim.hlevel (props, edit-utf8-prop)

pub utf8-prop : (request : Request) → IsProp (IsUtf8Request request)
utf8-prop (Single edit) = edit-utf8-prop edit
utf8-prop (Get name) = Coded-set coded_bool _ _
utf8-prop Names = Unit-prop
utf8-prop (Build map None) = Coded-set coded_bool _ _
utf8-prop (Build map (Some val)) = ×_prop (Coded-set coded_bool _ _) (Coded-set coded_bool _ _)
utf8-prop (Group edits) = all-utf8-prop edits

length-prop : (n limit : ℕ) → IsProp (n ≤ limit)
length-prop n limit = Prim.hlevel props

pub few-prop : (request : Request) → IsProp (HasFewEdits request)
few-prop (Single edit) = Unit-prop
few-prop (Get name) = Unit-prop
few-prop Names = Unit-prop
few-prop (Build map val) = Unit-prop
few-prop (Group edits) = length-prop (length edits) _

ok-prop : {T E : Type 0} (result : Result T E) (P : T → Type 0) → ((value : T) → IsProp (P value))
    → IsProp (IfOk result P)
ok-prop (Ok value) P each = each value
ok-prop (Err error) P each = Unit-prop

origin-prop : (name : List ℕ) (body : Body) → IsProp (HasOrigin name body)
origin-prop name body =
    let names = coded_list (coded_list coded_ℕ) in
    ok-prop body.read (λ doc. (arc_value doc).origins ≡ name ∷ []) (λ doc. Coded-set names _ _)

pub own-edit-prop : (edit : edited.Edit) → IsProp (IsOwnEdit edit)
own-edit-prop (edits.Put name body) = origin-prop name body
own-edit-prop (edits.PutIf version name body) = origin-prop name body
own-edit-prop (edits.Remove name) = Unit-prop

all-own-prop : (edits : List edited.Edit) → IsProp (All IsOwnEdit edits)
all-own-prop edits = Prim.hlevel (props, own-edit-prop)

pub own-prop : (request : given.Request) → IsProp (HasOwnOrigin request)
own-prop (gives.Put name body) = origin-prop name body
own-prop (gives.PutIf version name body) = origin-prop name body
own-prop (gives.Remove name) = Unit-prop
own-prop (gives.Get name) = Unit-prop
own-prop gives.Names = Unit-prop
own-prop (gives.Build map val) = Unit-prop
own-prop (gives.Group edits) = all-own-prop edits

pub ruleset kept = (props, utf8-prop, few-prop, own-edit-prop, own-prop)
