-- What a fact records of the questions that were asked for a part (own): those that have an answer of their kind, but for
-- those about pages, whose answer follows from the plan. Beyond the scopes of a plan a key is sought as in its root scope,
-- so that it is recorded for that one.
use Rattle.std.specs.Prelude.{ℕ, Bool, true, false, List, Option, Some, None, nat_lt, if◌then◌else◌}
use Rattle.std.specs.List.{filter_map}
use Rattle.dita_doc.specs.declared.question.Answered.{Answered}
use Rattle.dita_doc.specs.declared.question.Answered.TheVariants as answers
use Rattle.dita_doc.specs.declared.question.Asked.{Asked}
use Rattle.dita_doc.specs.declared.question.Question.{Question}
use Rattle.dita_doc.specs.declared.question.Question.TheVariants as questions

-- the answer is of the question's kind, and the question is not about a page
abbrev pub is_own : Question → Answered → Bool
is_own (questions.Document name) (answers.Document found) = true
is_own (questions.Kind name) (answers.Kind kind) = true
is_own (questions.Title name topic) (answers.Title text) = true
is_own (questions.First name) (answers.First id) = true
is_own (questions.Key scope text) (answers.Key answer) = true
is_own (questions.Pushes name) (answers.Pushes pushes faults) = true
is_own question answered = false

-- a scope among so many, or else the root scope
abbrev pub scope_within : ℕ → ℕ → ℕ
scope_within count scope = if nat_lt scope count then scope else 0

abbrev pub question_within : ℕ → Question → Question
question_within count (questions.Key scope text) = questions.Key (scope_within count scope) text
question_within count question = question

abbrev pub asked_within : ℕ → Asked → Asked
asked_within count one = record { question = question_within count one.question; answered = one.answered }

abbrev pub if_own : ℕ → Asked → Option Asked
if_own count one = if is_own one.question one.answered then Some (asked_within count one) else None

-- of all questions with their answers, for a plan of so many scopes
abbrev pub own_asked : ℕ → List Asked → List Asked
own_asked count asked = filter_map (if_own count) asked
