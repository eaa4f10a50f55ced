-- What is recorded of the questions for a part is in order: each is about names that are known by then.
use Rattle.std.specs.Prelude.{ℕ, List, [], ◌∷◌}
use Rattle.std.specs.List.{cons_option}
use Rattle.dita_doc.specs.declared.question.Answered.{Answered}
use Rattle.dita_doc.specs.declared.question.Answered.TheVariants as answers
use Rattle.dita_doc.specs.declared.question.Asked.{Asked}
use Rattle.dita_doc.specs.declared.question.Question.{Question}
use Rattle.dita_doc.specs.declared.question.Question.TheVariants as questions
use Rattle.fact_judge.proofs.FoundedLaws.{Known, among_known, known_more}
use Rattle.fact_judge.specs.Founded.{names_in_question, names_of_answer}
use Rattle.fact_judge.specs.Order.{InOrder}
use Rattle.readers.specs.Founded.{AreAllowed, IsFounded, names_asked}
use Rattle.readers.specs.Noted.{told_asked, told_by, told_in}
use Rattle.readers.specs.Setting.{Setting}
use Rattle.readers.specs.Told.{Told}
use Rattle.fact_maker.specs.Own.{if_own, own_asked}

module _ (setting : Setting) (count : ℕ) (planned : List (List ℕ)) where
  abbrev Ordered : List (List ℕ) → List Asked → Type 0
  Ordered known asked = InOrder (names_in_question planned) names_of_answer known asked

  -- one question, and what is recorded behind it
  with_order : (known roots : List (List ℕ)) (ts : List Told) (question : Question) (answered : Answered)
      (more : List Asked) → Known known roots ts → AreAllowed roots ts (names_asked (told_by setting question answered))
      → ((known' : List (List ℕ)) → Known known' roots (told_by setting question answered ∷ ts) → Ordered known' more)
      → Ordered known (cons_option (if_own count (record { question = question; answered = answered })) more)
  with_order known roots ts (questions.Document name) (answers.Document found) more is allowed rest = (
    among_known setting planned known roots ts (questions.Document name) (answers.Document found) is tt allowed,
    rest _ (known_more setting known roots ts (record {
      question = questions.Document name;
      answered = answers.Document found;
    }) is),
  )
  with_order known roots ts (questions.Kind name) (answers.Kind kind) more is allowed rest = (
    among_known setting planned known roots ts (questions.Kind name) (answers.Kind kind) is tt allowed,
    rest _ (known_more setting known roots ts (record { question = questions.Kind name; answered = answers.Kind kind }) is),
  )
  with_order known roots ts (questions.Title name topic) (answers.Title text) more is allowed rest = (
    among_known setting planned known roots ts (questions.Title name topic) (answers.Title text) is tt allowed,
    rest _ (known_more setting known roots ts (record {
      question = questions.Title name topic;
      answered = answers.Title text;
    }) is),
  )
  with_order known roots ts (questions.First name) (answers.First id) more is allowed rest = (
    among_known setting planned known roots ts (questions.First name) (answers.First id) is tt allowed,
    rest _ (known_more setting known roots ts (record { question = questions.First name; answered = answers.First id }) is),
  )
  with_order known roots ts (questions.Key scope text) (answers.Key answer) more is allowed rest = (
    among_known setting planned known roots ts (questions.Key scope text) (answers.Key answer) is tt allowed,
    rest _ (known_more setting known roots ts (record {
      question = questions.Key scope text;
      answered = answers.Key answer;
    }) is),
  )
  with_order known roots ts (questions.Pushes name) (answers.Pushes pushes faults) more is allowed rest = (
    among_known setting planned known roots ts (questions.Pushes name) (answers.Pushes pushes faults) is tt allowed,
    rest _ (known_more setting known roots ts (record {
      question = questions.Pushes name;
      answered = answers.Pushes pushes faults;
    }) is),
  )
  with_order known roots ts (questions.PageOf name context) (answers.PageOf place) more is allowed rest = rest known is
  with_order known roots ts question answered more is allowed rest = rest known is

  -- behind what was told before
  pub own_order : (known roots : List (List ℕ)) (ts : List Told) (asked : List Asked) → Known known roots ts
      → IsFounded roots (told_in setting ts asked) → Ordered known (own_asked count asked)
  own_order known roots ts [] is founded = tt
  own_order known roots ts (one ∷ more) is founded =
      with_order known roots ts one.question one.answered (own_asked count more) is
      (first_allowed roots ts one more founded)
      (λ known' is'. own_order known' roots (told_asked setting one ∷ ts) more is' founded)
    where
      -- the question was allowed when it was put
      founded_before : (roots : List (List ℕ)) (ts : List Told) (asked : List Asked)
          → IsFounded roots (told_in setting ts asked) → IsFounded roots ts
      founded_before roots ts [] founded = founded
      founded_before roots ts (first ∷ later) founded =
          (founded_before roots (told_asked setting first ∷ ts) later founded).1

      first_allowed : (roots : List (List ℕ)) (ts : List Told) (one : Asked) (more : List Asked)
          → IsFounded roots (told_in setting (told_asked setting one ∷ ts) more)
          → AreAllowed roots ts (names_asked (told_asked setting one))
      first_allowed roots ts one more founded = (founded_before roots (told_asked setting one ∷ ts) more founded).0
