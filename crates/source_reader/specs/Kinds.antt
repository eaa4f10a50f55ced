-- The questions that may be put while there is no plan (own): for a document, for what one is, for a title and for a
-- first topic. `Answer` of `fact_judge`, which stands above, says the same of the questions that facts keep.
use Rattle.std.specs.Prelude.{Bool, true, false, List, IsTrue}
use Rattle.std.specs.Box.{box_value}
use Rattle.std.specs.List.{list_all}
use Rattle.dita_doc.specs.declared.question.Answered.{Answered}
use Rattle.dita_doc.specs.declared.question.Answered.TheVariants as answers
use Rattle.dita_doc.specs.declared.question.Asked.{Asked}
use Rattle.dita_doc.specs.declared.question.Question.{Question}
use Rattle.dita_doc.specs.declared.question.Question.TheVariants as questions
use Rattle.readers.specs.declared.questions.Note.{Note}
use Rattle.readers.specs.declared.questions.Note.TheVariants as notes

-- the answer is of the question's kind, and can be given while there is no plan
abbrev pub is_of_plan_kind : Question → Answered → Bool
is_of_plan_kind (questions.Document name) (answers.Document found) = true
is_of_plan_kind (questions.Kind name) (answers.Kind kind) = true
is_of_plan_kind (questions.Title name topic) (answers.Title text) = true
is_of_plan_kind (questions.First name) (answers.First id) = true
is_of_plan_kind question answered = false

abbrev pub is_plan_question : Asked → Bool
is_plan_question asked = is_of_plan_kind asked.question asked.answered

-- the same of a note, which has its answer
abbrev pub is_plan_note : Note → Bool
is_plan_note (notes.Document name found) = true
is_plan_note (notes.Kind name answer) = true
is_plan_note (notes.Title name topic text) = true
is_plan_note (notes.First name id) = true
is_plan_note (notes.Answer asked) = is_plan_question (box_value asked)
is_plan_note _ = false

abbrev pub AreOfPlanKind : List Note → Type 0
AreOfPlanKind all = IsTrue (list_all is_plan_note all)
