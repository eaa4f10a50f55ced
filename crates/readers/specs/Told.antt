-- What was told to a reader (own): questions with their answers, the last one first, and which worlds agree with them.
use Rattle.std.specs.Prelude.{◌≡◌, ℕ, List, [], ◌∷◌, Option, option_map}
use Rattle.std.specs.Arc.{arc_value}
use Rattle.std.specs.declared.alloc.Global.{Global}
use Rattle.std.specs.declared.sync.Arc.{Arc}
use Rattle.dita_doc.specs.Tree.{Content, tree_of}
use Rattle.dita_doc.specs.declared.content.KeyAnswer.{KeyAnswer}
use Rattle.dita_doc.specs.declared.content.PushList.{PushList}
use Rattle.dita_doc.specs.declared.doc.Doc.{Doc}
use Rattle.dita_doc.specs.declared.plan.Context.{Context}
use Rattle.dita_doc.specs.declared.plan.PagePlan.{PagePlan}
use Rattle.dita_doc.specs.declared.plan.PlanNode.{PlanNode}
use Rattle.dita_doc.specs.declared.question.DocKind.{DocKind}
use Rattle.reader_spec.specs.World.{World}
use Rattle.map_spec.specs.Keys.{key_answer}
use Rattle.map_spec.specs.Pages.{page_for}
use Rattle.map_spec.specs.Titles.{first_in, kind_in, title_in}
use Rattle.map_spec.specs.Pushes.{pushes_into}

-- a question with its answer; or one that got none: `pending`, about these documents; `pending_document`, for this document
pub data Told : Type 0 where
  document : (name : List ℕ) (tree : Option Content) → Told
  kind : (name : List ℕ) (answer : DocKind) → Told
  title : (name topic text : List ℕ) → Told
  first : (name id : List ℕ) → Told
  key : (nodes : List PlanNode) (scope : ℕ) (key : List ℕ) (answer : KeyAnswer) → Told
  pushes : (documents : List (List ℕ)) (name : List ℕ) (answer : PushList) → Told
  page_of : (pages : List PagePlan) (name : List ℕ) (context : Context) (answer : Option ℕ) → Told
  pending : (names : List (List ℕ)) → Told
  pending_document : (name : List ℕ) → Told

-- the answer is that of the world
abbrev pub Holds : World → Told → Type 0
Holds world (document name tree) = world name ≡ tree
Holds world (kind name answer) = kind_in world name ≡ answer
Holds world (title name topic text) = title_in world name topic ≡ text
Holds world (first name id) = first_in world name ≡ id
Holds world (key nodes scope text answer) = key_answer world nodes scope text ≡ answer
Holds world (pushes documents name answer) = pushes_into world documents name ≡ answer
Holds world (page_of pages name context answer) = page_for pages name context.page ≡ answer
Holds world (pending names) = Unit {0}
Holds world (pending_document name) = Unit {0}

-- a world agrees with what was told: each answer is its own
abbrev pub Agrees : World → List Told → Type 0
Agrees world [] = Unit {0}
Agrees world (t ∷ ts) = Holds world t × Agrees world ts

-- what every world has that agrees with what was told
abbrev pub Knows : List Told → (World → Type 0) → Type 0
Knows ts P = (world : World) → Agrees world ts → P world

-- the document that was found, and its tree
abbrev pub doc_of : Option (Arc Doc Global) → Option Doc
doc_of found = option_map (λ (doc : Arc Doc Global). arc_value doc) found

abbrev pub tree_found : Option (Arc Doc Global) → Option Content
tree_found found = option_map (λ (doc : Doc). tree_of doc.nodes) (doc_of found)
