-- Questions that were founded for a reader are in order for a fact: what readers promise of the names of their questions
-- is enough, but for questions about pages, whose contexts name more, and which a fact may leave out.
use Rattle.std.proofs.Common.{◌≡◌, ◌||◌, ◌++◌, ℕ, Bool, true, false, not, List, [], ◌∷◌, refl, subst, if◌then◌else◌}
use Rattle.std.specs.Prelude.{IsTrue}
use Rattle.dita_doc.specs.declared.question.Answered.{Answered}
use Rattle.dita_doc.specs.declared.question.Answered.TheVariants as answers
use Rattle.dita_doc.specs.declared.question.Asked.{Asked}
use Rattle.dita_doc.specs.declared.question.Question.{Question}
use Rattle.dita_doc.specs.declared.question.Question.TheVariants as questions
use Rattle.fact_judge.specs.Answer.{AreOfKind}
use Rattle.fact_judge.specs.Founded.{beside, names_in_question, names_of_answer}
use Rattle.fact_judge.specs.Order.{InOrder}
use Rattle.readers.proofs.AmongLaws.{among_back, among_front}
use Rattle.readers.specs.Founded.{AreAllowed, AreAmong, IsFounded, is_allowed, is_among, names_asked, names_given}
use Rattle.readers.specs.Noted.{told_asked, told_by, told_in}
use Rattle.readers.specs.Setting.{Setting, no_setting}
use Rattle.readers.specs.Told.{Told}

-- an answer of its question's kind, to a question that is not about a page
abbrev pub IsOfNoPage : Question → Answered → Type 0
IsOfNoPage (questions.Document name) (answers.Document found) = Unit {0}
IsOfNoPage (questions.Kind name) (answers.Kind kind) = Unit {0}
IsOfNoPage (questions.Title name topic) (answers.Title text) = Unit {0}
IsOfNoPage (questions.First name) (answers.First id) = Unit {0}
IsOfNoPage (questions.Key scope text) (answers.Key answer) = Unit {0}
IsOfNoPage (questions.Pushes name) (answers.Pushes pushes faults) = Unit {0}
IsOfNoPage question answered = ⊥

-- what an answer gives does not depend on what the question was put for
given_same : (setting : Setting) (question : Question) (answered : Answered)
    → names_given (told_by setting question answered) ≡ names_given (told_by no_setting question answered)
given_same setting (questions.Document name) (answers.Document found) = refl
given_same setting (questions.Kind name) (answers.Kind kind) = refl
given_same setting (questions.Title name topic) (answers.Title text) = refl
given_same setting (questions.First name) (answers.First id) = refl
given_same setting (questions.Key scope text) (answers.Key answer) = refl
given_same setting (questions.Pushes name) (answers.Pushes pushes faults) = refl
given_same setting (questions.PageOf name context) (answers.PageOf place) = refl
given_same setting question answered = refl

-- names that are left of one name are that name
left_if : (name : List ℕ) (b : Bool) (m : List ℕ) → IsTrue (is_among (if b then name ∷ [] else []) m)
    → IsTrue (is_among (name ∷ []) m)
left_if name true m is = is
left_if name false m is = among_front [] (name ∷ []) m is

beside_one : (planned : List (List ℕ)) (name m : List ℕ) → IsTrue (is_among (beside planned (name ∷ [])) m)
    → IsTrue (is_among (name ∷ []) m)
beside_one planned name m is = left_if name (not (is_among planned name)) m is

abbrev pub Known : List (List ℕ) → List (List ℕ) → List Told → Type 0
Known known roots ts = (m : List ℕ) → IsTrue (is_allowed roots ts m) → IsTrue (is_among known m)

-- the names in one question
pub among_known : (setting : Setting) (planned known roots : List (List ℕ)) (ts : List Told) (question : Question)
    (answered : Answered) → Known known roots ts → IsOfNoPage question answered
    → AreAllowed roots ts (names_asked (told_by setting question answered))
    → AreAmong (names_in_question planned question) known
among_known setting planned known roots ts (questions.Document name) (answers.Document found) is kind allowed =
    record { each = λ m among. is m (allowed.each m among) }
among_known setting planned known roots ts (questions.Kind name) (answers.Kind answer) is kind allowed =
    record { each = λ m among. is m (allowed.each m among) }
among_known setting planned known roots ts (questions.Title name topic) (answers.Title text) is kind allowed =
    record { each = λ m among. is m (allowed.each m among) }
among_known setting planned known roots ts (questions.First name) (answers.First id) is kind allowed =
    record { each = λ m among. is m (allowed.each m among) }
among_known setting planned known roots ts (questions.Key scope text) (answers.Key answer) is kind allowed =
    record { each = λ m among. among_front [] known m among }
among_known setting planned known roots ts (questions.Pushes name) (answers.Pushes pushes faults) is kind allowed =
    record { each = λ m among. is m (allowed.each m (beside_one planned name m among)) }
among_known setting planned known roots ts question answered is kind allowed = absurd kind

-- what is known once an answer has given its names
known_if : (known given : List (List ℕ)) (m : List ℕ) (b c : Bool) → is_among given m ≡ b
    → (IsTrue c → IsTrue (is_among known m)) → IsTrue (b || c) → IsTrue (is_among (known ++ given) m)
known_if known given m true c gives is or = among_back known given m gives
known_if known given m false c gives is or = among_front known given m (is or)

pub known_more : (setting : Setting) (known roots : List (List ℕ)) (ts : List Told) (one : Asked) → Known known roots ts
    → Known (known ++ names_of_answer one) roots (told_asked setting one ∷ ts)
known_more setting known roots ts one is m allowed =
    known_if known (names_of_answer one) m (is_among (names_of_answer one) m) (is_allowed roots ts m) refl (is m)
    (subst (λ names. IsTrue (is_among names m || is_allowed roots ts m))
    (given_same setting one.question one.answered) allowed)

-- All questions, behind what was told before
pub founded_in_order : (setting : Setting) (planned known roots : List (List ℕ)) (ts : List Told) (asked : List Asked)
    → Known known roots ts → AreOfKind IsOfNoPage asked → IsFounded roots (told_in setting ts asked)
    → InOrder (names_in_question planned) names_of_answer known asked × IsFounded roots ts
founded_in_order setting planned known roots ts [] is kinds founded = (tt, founded)
founded_in_order setting planned known roots ts (one ∷ more) is kinds founded =
    let rest : InOrder (names_in_question planned) names_of_answer (known ++ names_of_answer one) more
    × IsFounded roots (told_asked setting one ∷ ts) =
    founded_in_order setting planned (known ++ names_of_answer one) roots (told_asked setting one ∷ ts) more
    (known_more setting known roots ts one is) kinds.1 founded in
    ((among_known setting planned known roots ts one.question one.answered is kinds.0 rest.1.0, rest.0), rest.1.1)
