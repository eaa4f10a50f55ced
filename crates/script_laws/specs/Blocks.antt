-- Scripts as lists of blocks (own): a line that is passed over, or a request with its session. Behind the line of a put
-- stand the lines of its body and a line that is a single `.`; behind that of a group stand lines that are passed over,
-- edits, at most 1,000, with their bodies, and a line that is `end`. Each block is printed in its forms, and a script is
-- what such a list is printed as. This says what a script is without reading it line by line.
use Rattle.std.specs.Prelude.{◌≡◌, ◌≢◌, ◌≤◌, ◌⊎◌, ◌++◌, ℕ, true, List, [], ◌∷◌, Some, None, length, codes}
use Rattle.std.specs.List.{All, flat_map, list_all}
use Rattle.std.specs.Str.{is_utf8}
use Rattle.dita_doc.specs.Bytes.{line_feed, number_sign, is_gap}
use Rattle.dita_doc.specs.Lines.{line, IsLineText}
use Rattle.dita_doc.specs.Name.{is_name}
use Rattle.dita_doc.specs.Request.{Edit, Put, PutIf, Remove, Request, Single, Get, Names, Build, Group, edit_limit}
use Rattle.script_laws.specs.Words.{IsLineOf, SaysNumber}
use Rattle.script_text.specs.Script.{Step, script_limit, request_limit, session_limit}

abbrev pub Steps : Type 0
Steps = List Step

-- a line that is passed over: spaces and tabs alone, or a comment, which begins with `#`
pub record IsPassed (text : List ℕ) : Type 0 where
  pub on_line : IsLineText text
  pub empty : (list_all is_gap text ≡ true) ⊎ ((rest : List ℕ) × (text ≡ number_sign ∷ rest))

-- Edits

-- the name of an edit is a document name
abbrev pub HasEditName : Edit → Type 0
HasEditName (Put name body) = is_name name ≡ true
HasEditName (PutIf version name body) = is_name name ≡ true
HasEditName (Remove name) = is_name name ≡ true

-- the words of an edit
abbrev pub AreEditWords : Edit → List (List ℕ) → Type 0
AreEditWords (Put name body) words = words ≡ codes "put" ∷ name ∷ []
AreEditWords (PutIf version name body) words =
    (number : List ℕ) × SaysNumber version number × (words ≡ codes "putif" ∷ number ∷ name ∷ [])
AreEditWords (Remove name) words = words ≡ codes "remove" ∷ name ∷ []

-- the line of an edit in a group
pub record IsLineOfEdit (edit : Edit) (text : List ℕ) : Type 0 where
  pub name : HasEditName edit
  pub words : List (List ℕ)
  pub says : AreEditWords edit words
  pub line : IsLineOf words text
  pub utf8 : is_utf8 text ≡ true

-- a line of a body is none that ends it
pub record IsBodyLine (text : List ℕ) : Type 0 where
  pub on_line : IsLineText text
  pub other : text ≢ codes "."

-- a body, and the line that ends it
pub record IsBody (body text : List ℕ) : Type 0 where
  pub lines : List (List ℕ)
  pub each : All IsBodyLine lines
  pub is : body ≡ flat_map line lines
  pub ended : text ≡ body ++ line (codes ".")

-- what stands behind the line of an edit
abbrev pub IsBehindEdit : Edit → List ℕ → Type 0
IsBehindEdit (Put name body) text = IsBody body text
IsBehindEdit (PutIf version name body) text = IsBody body text
IsBehindEdit (Remove name) text = text ≡ []

-- Groups

-- what stands in a group: a line that is passed over, or an edit
pub data Item : Type 0 where
  Blank : (text : List ℕ) → Item
  Does : Edit → Item

-- how an item is printed
abbrev pub IsItem : Item → List ℕ → Type 0
IsItem (Blank passed) text = IsPassed passed × (text ≡ line passed)
IsItem (Does edit) text =
    (head behind : List ℕ) × IsLineOfEdit edit head × IsBehindEdit edit behind × (text ≡ line head ++ behind)

-- items one behind the other, and behind them the line that ends a group
abbrev pub AreItems : List Item → List ℕ → Type 0
AreItems [] text = text ≡ line (codes "end")
AreItems (item ∷ items) text =
    (front back : List ℕ) × IsItem item front × AreItems items back × (text ≡ front ++ back)

-- the edits among items
abbrev pub edits_of : Item → List Edit
edits_of (Blank text) = []
edits_of (Does edit) = edit ∷ []

-- what stands behind the line of a group's request
pub record IsGroup (edits : List Edit) (text : List ℕ) : Type 0 where
  pub items : List Item
  pub are : edits ≡ flat_map edits_of items
  pub printed : AreItems items text
  pub few : length edits ≤ edit_limit

-- Requests

-- the names in the line of a request are document names
abbrev pub HasNames : Request → Type 0
HasNames (Single edit) = HasEditName edit
HasNames (Get name) = is_name name ≡ true
HasNames Names = Unit {0}
HasNames (Build root None) = is_name root ≡ true
HasNames (Build root (Some val)) = (is_name root ≡ true) × (is_name val ≡ true)
HasNames (Group edits) = Unit {0}

-- the words of a request behind its session
abbrev pub AreWordsOf : Request → List (List ℕ) → Type 0
AreWordsOf (Single edit) words = AreEditWords edit words
AreWordsOf (Get name) words = words ≡ codes "get" ∷ name ∷ []
AreWordsOf Names words = words ≡ codes "names" ∷ []
AreWordsOf (Build root None) words = words ≡ codes "build" ∷ root ∷ []
AreWordsOf (Build root (Some val)) words = words ≡ codes "build" ∷ root ∷ val ∷ []
AreWordsOf (Group edits) words = words ≡ codes "group" ∷ []

-- the line of a request: a session from 1 on, and the words
pub record IsLineOfStep (step : Step) (text : List ℕ) : Type 0 where
  pub first : 1 ≤ step.session
  pub last : step.session ≤ session_limit
  pub names : HasNames step.request
  pub session : List ℕ
  pub number : SaysNumber step.session session
  pub words : List (List ℕ)
  pub request : AreWordsOf step.request words
  pub line : IsLineOf (session ∷ words) text
  pub utf8 : is_utf8 text ≡ true

-- what stands behind the line of a request
abbrev pub IsBehind : Request → List ℕ → Type 0
IsBehind (Single edit) text = IsBehindEdit edit text
IsBehind (Get name) text = text ≡ []
IsBehind Names text = text ≡ []
IsBehind (Build root val) text = text ≡ []
IsBehind (Group edits) text = IsGroup edits text

-- Blocks

pub data Block : Type 0 where
  Passed : (text : List ℕ) → Block
  Asks : Step → Block

-- how a block is printed
abbrev pub IsTextOf : Block → List ℕ → Type 0
IsTextOf (Passed passed) text = IsPassed passed × (text ≡ line passed)
IsTextOf (Asks step) text =
    (head behind : List ℕ) × IsLineOfStep step head × IsBehind step.request behind × (text ≡ line head ++ behind)

-- blocks one behind the other
abbrev pub AreTextOf : List Block → List ℕ → Type 0
AreTextOf [] text = text ≡ []
AreTextOf (block ∷ blocks) text =
    (front back : List ℕ) × IsTextOf block front × AreTextOf blocks back × (text ≡ front ++ back)

-- the steps that blocks ask
abbrev pub step_of : Block → List Step
step_of (Passed text) = []
step_of (Asks step) = step ∷ []

-- The bytes are a script of these steps: they are the text of blocks that ask them, of which the last LF may be
-- missing.
pub record IsScriptOf (steps : List Step) (bytes : List ℕ) : Type 0 where
  pub blocks : List Block
  pub asked : steps ≡ flat_map step_of blocks
  pub text : List ℕ
  pub printed : AreTextOf blocks text
  pub is : (bytes ≡ text) ⊎ (bytes ++ line_feed ∷ [] ≡ text)
  pub few : length steps ≤ request_limit
  pub short : length bytes ≤ script_limit
