-- A world gives questions their recorded answers exactly if it agrees with what these tell a reader, where each answer
-- is of its question's kind.
use Rattle.std.proofs.Common.{List, [], ◌∷◌, Some, None}
use Rattle.dita_doc.specs.declared.question.Answered.{Answered}
use Rattle.dita_doc.specs.declared.question.Answered.TheVariants as answers
use Rattle.dita_doc.specs.declared.question.Asked.{Asked}
use Rattle.dita_doc.specs.declared.question.Question.{Question}
use Rattle.dita_doc.specs.declared.question.Question.TheVariants as questions
use Rattle.fact_judge.specs.Answer.{AreAnswers, AreOfKind, IsAnswer, IsOfKind, IsOfPlanKind}
use Rattle.reader_spec.specs.World.{World}
use Rattle.readers.specs.Noted.{told_asked, told_by, told_in}
use Rattle.readers.specs.Setting.{Setting}
use Rattle.readers.specs.Told.{Agrees, Holds, Told}

-- One question

pub answer_holds : (world : World) (setting : Setting) (question : Question) (answered : Answered)
    → IsAnswer world (Some setting) question answered → Holds world (told_by setting question answered)
answer_holds world setting (questions.Document name) (answers.Document found) is = is
answer_holds world setting (questions.Kind name) (answers.Kind kind) is = is
answer_holds world setting (questions.Title name topic) (answers.Title text) is = is
answer_holds world setting (questions.First name) (answers.First id) is = is
answer_holds world setting (questions.Key scope text) (answers.Key answer) is = is.1
answer_holds world setting (questions.Pushes name) (answers.Pushes pushes faults) is = is
answer_holds world setting (questions.PageOf name context) (answers.PageOf place) is = is
answer_holds world setting question answered is = absurd is

pub holds_answer : (world : World) (setting : Setting) (question : Question) (answered : Answered)
    → IsOfKind setting question answered → Holds world (told_by setting question answered)
    → IsAnswer world (Some setting) question answered
holds_answer world setting (questions.Document name) (answers.Document found) kind holds = holds
holds_answer world setting (questions.Kind name) (answers.Kind answer) kind holds = holds
holds_answer world setting (questions.Title name topic) (answers.Title text) kind holds = holds
holds_answer world setting (questions.First name) (answers.First id) kind holds = holds
holds_answer world setting (questions.Key scope text) (answers.Key answer) kind holds = (kind, holds)
holds_answer world setting (questions.Pushes name) (answers.Pushes pushes faults) kind holds = holds
holds_answer world setting (questions.PageOf name context) (answers.PageOf place) kind holds = holds
holds_answer world setting question answered kind holds = absurd kind

pub plan_answer_holds : (world : World) (setting : Setting) (question : Question) (answered : Answered)
    → IsAnswer world None question answered → Holds world (told_by setting question answered)
plan_answer_holds world setting (questions.Document name) (answers.Document found) is = is
plan_answer_holds world setting (questions.Kind name) (answers.Kind kind) is = is
plan_answer_holds world setting (questions.Title name topic) (answers.Title text) is = is
plan_answer_holds world setting (questions.First name) (answers.First id) is = is
plan_answer_holds world setting question answered is = absurd is

pub holds_plan_answer : (world : World) (setting : Setting) (question : Question) (answered : Answered)
    → IsOfPlanKind question answered → Holds world (told_by setting question answered)
    → IsAnswer world None question answered
holds_plan_answer world setting (questions.Document name) (answers.Document found) kind holds = holds
holds_plan_answer world setting (questions.Kind name) (answers.Kind answer) kind holds = holds
holds_plan_answer world setting (questions.Title name topic) (answers.Title text) kind holds = holds
holds_plan_answer world setting (questions.First name) (answers.First id) kind holds = holds
holds_plan_answer world setting question answered kind holds = absurd kind

-- All of them, behind what was told before

pub answers_agree : (world : World) (setting : Setting) (ts : List Told) (asked : List Asked)
    → AreAnswers world (Some setting) asked → Agrees world ts → Agrees world (told_in setting ts asked)
answers_agree world setting ts [] answers agreed = agreed
answers_agree world setting ts (one ∷ more) answers agreed =
    answers_agree world setting (told_asked setting one ∷ ts) more answers.1
    (answer_holds world setting one.question one.answered answers.0, agreed)

pub agrees_answers : (world : World) (setting : Setting) (ts : List Told) (asked : List Asked)
    → AreOfKind (IsOfKind setting) asked → Agrees world (told_in setting ts asked)
    → AreAnswers world (Some setting) asked × Agrees world ts
agrees_answers world setting ts [] kinds agreed = (tt, agreed)
agrees_answers world setting ts (one ∷ more) kinds agreed =
    let rest : AreAnswers world (Some setting) more × Agrees world (told_asked setting one ∷ ts) =
    agrees_answers world setting (told_asked setting one ∷ ts) more kinds.1 agreed in
    ((holds_answer world setting one.question one.answered kinds.0 rest.1.0, rest.0), rest.1.1)

pub plan_answers_agree : (world : World) (setting : Setting) (ts : List Told) (asked : List Asked)
    → AreAnswers world None asked → Agrees world ts → Agrees world (told_in setting ts asked)
plan_answers_agree world setting ts [] answers agreed = agreed
plan_answers_agree world setting ts (one ∷ more) answers agreed =
    plan_answers_agree world setting (told_asked setting one ∷ ts) more answers.1
    (plan_answer_holds world setting one.question one.answered answers.0, agreed)

pub agrees_plan_answers : (world : World) (setting : Setting) (ts : List Told) (asked : List Asked)
    → AreOfKind IsOfPlanKind asked → Agrees world (told_in setting ts asked)
    → AreAnswers world None asked × Agrees world ts
agrees_plan_answers world setting ts [] kinds agreed = (tt, agreed)
agrees_plan_answers world setting ts (one ∷ more) kinds agreed =
    let rest : AreAnswers world None more × Agrees world (told_asked setting one ∷ ts) =
    agrees_plan_answers world setting (told_asked setting one ∷ ts) more kinds.1 agreed in
    ((holds_plan_answer world setting one.question one.answered kinds.0 rest.1.0, rest.0), rest.1.1)
