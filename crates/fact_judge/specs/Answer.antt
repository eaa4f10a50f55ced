-- The answer that a world gives to a question (own): the document or its absence; the kind of its root; the title of a
-- topic; the id of the first topic; and, where there is a plan, what a key gives among its nodes, the pushes of its
-- documents into a document, and the page of a document for a context. Without a plan the last three have no answer,
-- and a key has none in a scope that the plan has not.
use Rattle.std.specs.Prelude.{◌≡◌, ◌<◌, ℕ, List, [], ◌∷◌, Option, Some, None, Result, Ok, Err, length}
use Rattle.std.specs.Arc.{arc_value}
use Rattle.dita_doc.specs.declared.plan.Plan.{Plan}
use Rattle.dita_doc.specs.declared.plan.PlanStop.{PlanStop}
use Rattle.dita_doc.specs.declared.question.Answered.{Answered}
use Rattle.dita_doc.specs.declared.question.Answered.TheVariants as answers
use Rattle.dita_doc.specs.declared.question.Asked.{Asked}
use Rattle.dita_doc.specs.declared.question.Question.{Question}
use Rattle.dita_doc.specs.declared.question.Question.TheVariants as questions
use Rattle.map_spec.specs.Keys.{key_answer}
use Rattle.map_spec.specs.Pages.{page_for}
use Rattle.map_spec.specs.Pushes.{pushes_into}
use Rattle.map_spec.specs.Scopes.{scopes}
use Rattle.map_spec.specs.Titles.{first_in, kind_in, title_in}
use Rattle.reader_spec.specs.World.{World}
use Rattle.readers.specs.Setting.{Setting}
use Rattle.readers.specs.Told.{tree_found}

-- what questions about a plan are put for: its nodes, documents and pages, if there is a plan
abbrev pub setting_by : Result Plan PlanStop → Option Setting
setting_by (Ok plan) = Some (record { nodes = plan.nodes; documents = plan.documents; pages = plan.pages })
setting_by (Err stop) = None

-- there is such a scope among the nodes
abbrev pub HasScope : Setting → ℕ → Type 0
HasScope setting scope = scope < length (scopes setting.nodes)

-- this is the world's answer; an answer of another kind is none
abbrev pub IsAnswer : World → Option Setting → Question → Answered → Type 0
IsAnswer world setting (questions.Document name) (answers.Document found) = world name ≡ tree_found found
IsAnswer world setting (questions.Kind name) (answers.Kind kind) = kind_in world name ≡ kind
IsAnswer world setting (questions.Title name topic) (answers.Title text) = title_in world name topic ≡ text
IsAnswer world setting (questions.First name) (answers.First id) = first_in world name ≡ id
IsAnswer world (Some setting) (questions.Key scope text) (answers.Key answer) =
    HasScope setting scope × (key_answer world setting.nodes scope text ≡ answer)
IsAnswer world (Some setting) (questions.Pushes name) (answers.Pushes pushes faults) =
    pushes_into world setting.documents name ≡ record { pushes = pushes; faults = faults }
IsAnswer world (Some setting) (questions.PageOf name context) (answers.PageOf place) =
    page_for setting.pages name (arc_value context).page ≡ place
IsAnswer world setting question answered = ⊥

-- each question has its recorded answer in the world
abbrev pub AreAnswers : World → Option Setting → List Asked → Type 0
AreAnswers world setting [] = Unit {0}
AreAnswers world setting (one ∷ more) = IsAnswer world setting one.question one.answered × AreAnswers world setting more

-- The kinds of answers

-- the answer is of the question's kind, and a key is asked for in a scope that there is
abbrev pub IsOfKind : Setting → Question → Answered → Type 0
IsOfKind setting (questions.Document name) (answers.Document found) = Unit {0}
IsOfKind setting (questions.Kind name) (answers.Kind kind) = Unit {0}
IsOfKind setting (questions.Title name topic) (answers.Title text) = Unit {0}
IsOfKind setting (questions.First name) (answers.First id) = Unit {0}
IsOfKind setting (questions.Key scope text) (answers.Key answer) = HasScope setting scope
IsOfKind setting (questions.Pushes name) (answers.Pushes pushes faults) = Unit {0}
IsOfKind setting (questions.PageOf name context) (answers.PageOf place) = Unit {0}
IsOfKind setting question answered = ⊥

-- it is of the question's kind, and can be given while there is no plan
abbrev pub IsOfPlanKind : Question → Answered → Type 0
IsOfPlanKind (questions.Document name) (answers.Document found) = Unit {0}
IsOfPlanKind (questions.Kind name) (answers.Kind kind) = Unit {0}
IsOfPlanKind (questions.Title name topic) (answers.Title text) = Unit {0}
IsOfPlanKind (questions.First name) (answers.First id) = Unit {0}
IsOfPlanKind question answered = ⊥

-- each answer is of its question's kind, with a plan or without one
abbrev pub AreOfKind : (Question → Answered → Type 0) → List Asked → Type 0
AreOfKind of [] = Unit {0}
AreOfKind of (one ∷ more) = of one.question one.answered × AreOfKind of more
