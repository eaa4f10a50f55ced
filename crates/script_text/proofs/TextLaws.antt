-- The texts of a command, that is, its names, are the last of its words.
use Rattle.std.specs.Prelude.{◌≡◌, Bool, true, false, ℕ, List, [], ◌∷◌, ◌++◌, Option, Some, None, Result, Ok, Err, IfOk, codes, bytes_eq, if◌then◌else◌}
use Rattle.std.specs.List.{flat_map}
use Rattle.std.proofs.Common.{refl, ◌∙◌, ap, append-nil, append_assoc}
use Rattle.std.proofs.lemmas.Grind.{flat_map-append}
use Rattle.dita_doc.specs.Request.{Edit, Put, PutIf, Remove, Request, Single, Get, Names, Build, Group, HasFewEdits}
use Rattle.script_text.specs.declared.fault.ScriptCode.{ScriptCode}
use Rattle.script_text.specs.Script.{number_of, Opening, PutOf, PutIfOf, with_body, EditCommand, WholeEdit, OpensBody, name_of, if_named, put_by, put_if_of, put_if_by, remove_by, edit_of, Command, Edits, Whole, OpensGroup, get_by, names_by, build_command, group_by, edit_alone, command_of, OpenPut, whole_edit}

-- Texts

abbrev pub Texts : Type 0
Texts = List (List ℕ)

-- the texts of an edit: its name and its body
abbrev pub edit_texts : Edit → Texts
edit_texts (Put name body) = name ∷ body ∷ []
edit_texts (PutIf version name body) = name ∷ body ∷ []
edit_texts (Remove name) = name ∷ []

abbrev pub group_texts : List Edit → Texts
group_texts edits = flat_map edit_texts edits

-- the texts of a request: its names and its bodies
abbrev pub texts_of : Request → Texts
texts_of (Single edit) = edit_texts edit
texts_of (Get name) = name ∷ []
texts_of Names = []
texts_of (Build root None) = root ∷ []
texts_of (Build root (Some val)) = root ∷ val ∷ []
texts_of (Group edits) = group_texts edits

-- the name of a put whose body is to come
abbrev pub name_in : Opening → List ℕ
name_in (PutOf name) = name
name_in (PutIfOf version name) = name

-- the texts of a put: its name, and its body so far
abbrev pub put_texts : OpenPut → Texts
put_texts put = name_in put.opening ∷ put.body ∷ []

-- the texts in the line of an edit
abbrev pub line_texts : EditCommand → Texts
line_texts (WholeEdit edit) = edit_texts edit
line_texts (OpensBody opening) = name_in opening ∷ []

body_texts : (opening : Opening) (body : List ℕ) → edit_texts (with_body opening body) ≡ name_in opening ∷ body ∷ []
body_texts (PutOf name) body = refl
body_texts (PutIfOf version name) body = refl

-- a put whose body is whole has the texts that it had
pub whole_texts : (put : OpenPut) → edit_texts (whole_edit put) ≡ put_texts put
whole_texts put = body_texts put.opening put.body

-- one edit more at the end of a group
pub more_texts : (edits : List Edit) (edit : Edit)
    → group_texts (edits ++ edit ∷ []) ≡ group_texts edits ++ edit_texts edit
more_texts edits edit =
    flat_map-append edit_texts edits (edit ∷ [])
    ∙ ap (λ (texts : Texts). group_texts edits ++ texts) (append-nil (edit_texts edit))

-- Words

-- some texts are the last of some words
abbrev pub AreLast : Texts → Texts → Type 0
AreLast texts words = (front : Texts) × (front ++ texts ≡ words)

pub none_last : (words : Texts) → AreLast [] words
none_last words = (words, append-nil words)

-- the last of the last are the last
pub last_of_last : (texts some words : Texts) → AreLast texts some → AreLast some words → AreLast texts words
last_of_last texts some words inner are = (
  are.0 ++ inner.0,
  append_assoc are.0 inner.0 texts ∙ (ap (λ (all : Texts). are.0 ++ all) inner.1 ∙ are.1),
)

-- what words say: texts among them, and no group of edits
abbrev pub IsEditFrom : Texts → EditCommand → Type 0
IsEditFrom words edit = AreLast (line_texts edit) words

abbrev pub IsFrom : Texts → Command → Type 0
IsFrom words (Edits edit) = IsEditFrom words edit
IsFrom words (Whole request) = AreLast (texts_of request) words × HasFewEdits request
IsFrom words OpensGroup = Unit {0}

module _ {A : Type 0} (P : A → Type 0) where
  -- by a test
  ok_if : (test : Bool) (x y : Result A ScriptCode) → IfOk x P → IfOk y P → IfOk (if test then x else y) P
  ok_if true x y first second = first
  ok_if false x y first second = second

  ok_named : (found : Result (List ℕ) ScriptCode) (command : Result A ScriptCode) → IfOk command P
      → IfOk (if_named found command) P
  ok_named (Ok name) command is = is
  ok_named (Err code) command is = tt

-- Edits

module _ (verb : List ℕ) where
  put_from : (words : Texts) → IfOk (put_by words) (IsEditFrom (verb ∷ words))
  put_from [] = tt
  put_from (name ∷ []) =
      ok_named (IsEditFrom (verb ∷ name ∷ [])) (name_of name) (Ok (OpensBody (PutOf name))) (verb ∷ [], refl)
  put_from (name ∷ other ∷ words) = tt

  put_if_from : (version : Option ℕ) (word name : List ℕ)
      → IfOk (put_if_of version name) (IsEditFrom (verb ∷ word ∷ name ∷ []))
  put_if_from None word name = tt
  put_if_from (Some version) word name =
      ok_named (IsEditFrom (verb ∷ word ∷ name ∷ [])) (name_of name) (Ok (OpensBody (PutIfOf version name)))
      (verb ∷ word ∷ [], refl)

  put_if_by_from : (words : Texts) → IfOk (put_if_by words) (IsEditFrom (verb ∷ words))
  put_if_by_from [] = tt
  put_if_by_from (word ∷ []) = tt
  put_if_by_from (word ∷ name ∷ []) = put_if_from (number_of word) word name
  put_if_by_from (word ∷ name ∷ other ∷ words) = tt

  remove_from : (words : Texts) → IfOk (remove_by words) (IsEditFrom (verb ∷ words))
  remove_from [] = tt
  remove_from (name ∷ []) =
      ok_named (IsEditFrom (verb ∷ name ∷ [])) (name_of name) (Ok (WholeEdit (Remove name))) (verb ∷ [], refl)
  remove_from (name ∷ other ∷ words) = tt

-- the texts of an edit are the last of its words
pub edit_from : (words : Texts) → IfOk (edit_of words) (IsEditFrom words)
edit_from [] = tt
edit_from (verb ∷ words) =
    let P : EditCommand → Type 0 = IsEditFrom (verb ∷ words) in
    ok_if P (bytes_eq verb (codes "put")) _ _ (put_from verb words)
    (ok_if P (bytes_eq verb (codes "putif")) _ _ (put_if_by_from verb words)
    (ok_if P (bytes_eq verb (codes "remove")) _ _ (remove_from verb words) tt))

-- Commands

module _ (verb : List ℕ) where
  get_from : (words : Texts) → IfOk (get_by words) (IsFrom (verb ∷ words))
  get_from [] = tt
  get_from (name ∷ []) =
      ok_named (IsFrom (verb ∷ name ∷ [])) (name_of name) (Ok (Whole (Get name))) ((verb ∷ [], refl), tt)
  get_from (name ∷ other ∷ words) = tt

  names_from : (words : Texts) → IfOk (names_by words) (IsFrom (verb ∷ words))
  names_from [] = (none_last (verb ∷ []), tt)
  names_from (word ∷ words) = tt

  build_from : (words : Texts) → IfOk (build_command words) (IsFrom (verb ∷ words))
  build_from [] = tt
  build_from (root ∷ []) =
      ok_named (IsFrom (verb ∷ root ∷ [])) (name_of root) (Ok (Whole (Build root None))) ((verb ∷ [], refl), tt)
  build_from (root ∷ val ∷ []) =
      let P : Command → Type 0 = IsFrom (verb ∷ root ∷ val ∷ []) in
      let whole : Result Command ScriptCode = Ok (Whole (Build root (Some val))) in
      ok_named P (name_of root) (if_named (name_of val) whole)
      (ok_named P (name_of val) whole ((verb ∷ [], refl), tt))
  build_from (root ∷ val ∷ other ∷ words) = tt

  group_from : (words : Texts) → IfOk (group_by words) (IsFrom (verb ∷ words))
  group_from [] = tt
  group_from (word ∷ words) = tt

alone_from : (words : Texts) (edit : Result EditCommand ScriptCode) → IfOk edit (IsEditFrom words)
    → IfOk (edit_alone edit) (IsFrom words)
alone_from words (Ok edit) is = is
alone_from words (Err code) is = tt

-- and those of a command of its
pub command_from : (words : Texts) → IfOk (command_of words) (IsFrom words)
command_from [] = tt
command_from (verb ∷ words) =
    let P : Command → Type 0 = IsFrom (verb ∷ words) in
    ok_if P (bytes_eq verb (codes "get")) _ _ (get_from verb words)
    (ok_if P (bytes_eq verb (codes "names")) _ _ (names_from verb words)
    (ok_if P (bytes_eq verb (codes "build")) _ _ (build_from verb words)
    (ok_if P (bytes_eq verb (codes "group")) _ _ (group_from verb words)
    (alone_from (verb ∷ words) (edit_of (verb ∷ words)) (edit_from (verb ∷ words))))))

-- among more words
pub from_more : (some words : Texts) (command : Command) → AreLast some words → IsFrom some command
    → IsFrom words command
from_more some words (Edits edit) are is = last_of_last (line_texts edit) some words is are
from_more some words (Whole request) are is = (last_of_last (texts_of request) some words is.0 are, is.1)
from_more some words OpensGroup are is = tt
