-- Which names the questions of a fact may be about (own): the map, the DITAVAL, and names that answers before them
-- give; about pushes and pages also the documents of the plan, which the questions of the plan have fixed by then. A
-- context names a map, a DITAVAL, a document and filters; the page's name in it is no document.
use Rattle.std.specs.Prelude.{◌++◌, ℕ, not, List, [], ◌∷◌, Result, Ok, Err, filter}
use Rattle.std.specs.Arc.{arc_value}
use Rattle.std.specs.Option.{option_to_list}
use Rattle.dita_doc.specs.declared.plan.Context.{Context}
use Rattle.dita_doc.specs.declared.plan.Plan.{Plan}
use Rattle.dita_doc.specs.declared.plan.PlanStop.{PlanStop}
use Rattle.dita_doc.specs.declared.question.Asked.{Asked}
use Rattle.dita_doc.specs.declared.question.Question.{Question}
use Rattle.dita_doc.specs.declared.question.Question.TheVariants as questions
use Rattle.fact_judge.specs.Order.{InOrder, given_by}
use Rattle.facts.specs.declared.fact.Fact.{Fact}
use Rattle.readers.specs.Founded.{is_among, names_given}
use Rattle.readers.specs.Noted.{told_asked}
use Rattle.readers.specs.Setting.{no_setting}

-- the map and the DITAVAL of a fact
abbrev pub roots_of : Fact → List (List ℕ)
roots_of fact = fact.key.map ∷ option_to_list fact.key.val

-- the names that an answer gives: those that references in a document are joined to, the document to which a key leads,
-- and those from which pushes come
abbrev pub names_of_answer : Asked → List (List ℕ)
names_of_answer one = names_given (told_asked no_setting one)

abbrev pub plan_documents : Result Plan PlanStop → List (List ℕ)
plan_documents (Ok plan) = plan.documents
plan_documents (Err stop) = []

-- the names but for these
abbrev pub beside : List (List ℕ) → List (List ℕ) → List (List ℕ)
beside these names = filter (λ name. not (is_among these name)) names

abbrev pub names_in_context : Context → List (List ℕ)
names_in_context context =
    context.map ∷ option_to_list context.val ++ (context.page.doc ∷ context.page.filters)

-- the document names in a question, but for documents of the plan where they may stand
abbrev pub names_in_question : List (List ℕ) → Question → List (List ℕ)
names_in_question planned (questions.Document name) = name ∷ []
names_in_question planned (questions.Kind name) = name ∷ []
names_in_question planned (questions.Title name topic) = name ∷ []
names_in_question planned (questions.First name) = name ∷ []
names_in_question planned (questions.Key scope text) = []
names_in_question planned (questions.Pushes name) = beside planned (name ∷ [])
names_in_question planned (questions.PageOf name context) = beside planned (name ∷ names_in_context (arc_value context))

-- the questions of the plan, and then those of the fact's own
pub record IsFoundedFact (fact : Fact) : Type 0 where
  pub plan : InOrder (names_in_question []) names_of_answer (roots_of fact) (arc_value fact.plan).asked
  pub own :
      InOrder (names_in_question (plan_documents (arc_value fact.plan).value)) names_of_answer
      (roots_of fact ++ given_by names_of_answer (arc_value fact.plan).asked) fact.asked
