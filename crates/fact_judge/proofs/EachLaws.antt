-- Answers one by one: of questions that were gone through, and of one that has another answer.
use Rattle.std.proofs.Common.{◌≡◌, ◌+◌, ◌<◌, ℕ, zero, suc, Bool, false, true, List, [], ◌∷◌, Option, Some, None, length, take, get_or, sym, subst, arith}
use Rattle.dita_doc.specs.declared.question.Answered.{Answered}
use Rattle.dita_doc.specs.declared.question.Answered.TheVariants as answers
use Rattle.dita_doc.specs.declared.question.Asked.{Asked}
use Rattle.dita_doc.specs.declared.question.Question.{Question}
use Rattle.dita_doc.specs.declared.question.Question.TheVariants as questions
use Rattle.fact_judge.specs.Answer.{AreAnswers, IsAnswer}
use Rattle.dita_doc.specs.Desk.{State}
use Rattle.fact_judge.specs.Judging.{WasSo, is_about_plan}
use Rattle.facts.specs.Judged.{Tells}
use Rattle.reader_spec.specs.World.{World, world_of}
use Rattle.readers.specs.Setting.{Setting}

module _ (world : World) (setting : Option Setting) where
  -- each of them has its answer, so that one has
  pub one_of : (asked : List Asked) (k : ℕ) (one : Asked) → k < length asked → one ≡ get_or asked k one
      → AreAnswers world setting asked → IsAnswer world setting one.question one.answered
  one_of [] k one low is all = absurd (omega arith)
  one_of (first ∷ more) zero one low is all =
      subst (λ (a : Asked). IsAnswer world setting a.question a.answered) (sym is) all.0
  one_of (first ∷ more) (suc k) one low is all = one_of more k one (omega arith) is all.1

  -- one more has it
  one_more : (asked : List Asked) (k : ℕ) (one : Asked) → k < length asked → one ≡ get_or asked k one
      → AreAnswers world setting (take k asked) → IsAnswer world setting one.question one.answered
      → AreAnswers world setting (take (suc k) asked)
  one_more [] k one low is all this = absurd (omega arith)
  one_more (first ∷ more) zero one low is all this =
      (subst (λ (a : Asked). IsAnswer world setting a.question a.answered) is this, tt)
  one_more (first ∷ more) (suc k) one low is all this = (all.0, one_more more k one (omega arith) is all.1 this)

  pub more_of : (asked : List Asked) (k : ℕ) (one : Asked) → k < length asked → one ≡ get_or asked k one
      → AreAnswers world setting (take k asked) → IsAnswer world setting one.question one.answered
      → AreAnswers world setting (take (k + 1) asked)
  more_of asked k one low is all this =
      let next : suc k ≡ k + 1 = omega arith in
      subst (λ n. AreAnswers world setting (take n asked)) next (one_more asked k one low is all this)

-- What the answer yes or no to one of them tells

module _ (world : World) (setting : Option Setting) (asked : List Asked) (k : ℕ) (one : Asked)
    (low : k < length asked) (is : one ≡ get_or asked k one) where
  pub no_to_all : (answer : Bool) → answer ≡ false → Tells answer (IsAnswer world setting one.question one.answered)
      → AreAnswers world setting asked → ⊥
  no_to_all true told tells all = absurd (cc)
  no_to_all false told tells all = tells (one_of world setting asked k one low is all)

  pub yes_to_more : (answer : Bool) → answer ≡ true → Tells answer (IsAnswer world setting one.question one.answered)
      → AreAnswers world setting (take k asked) → AreAnswers world setting (take (k + 1) asked)
  yes_to_more true told tells all = more_of world setting asked k one low is all tells
  yes_to_more false told tells all = absurd (cc)

-- what was so of all of them was so of each
pub was_of : (setting : Option Setting) (since : ℕ) (newer : State) (asked : List Asked) (k : ℕ) (one : Asked)
    → k < length asked → one ≡ get_or asked k one
    → WasSo (λ state. AreAnswers (world_of state) setting asked) since newer
    → WasSo (λ state. IsAnswer (world_of state) setting one.question one.answered) since newer
was_of setting since newer asked k one low is before = record {
  older = before.older;
  was = one_of (world_of before.older) setting asked k one low is before.was;
  stood = before.stood;
}

-- Questions that are not about a plan have their answers with one as without

module _ (world : World) (setting : Setting) where
  pub with_plan : (question : Question) (answered : Answered) → is_about_plan question ≡ false
      → IsAnswer world None question answered → IsAnswer world (Some setting) question answered
  with_plan (questions.Document name) (answers.Document found) apart is = is
  with_plan (questions.Kind name) (answers.Kind kind) apart is = is
  with_plan (questions.Title name topic) (answers.Title text) apart is = is
  with_plan (questions.First name) (answers.First id) apart is = is
  with_plan question answered apart is = absurd is

  pub without_plan : (question : Question) (answered : Answered) → is_about_plan question ≡ false
      → IsAnswer world (Some setting) question answered → IsAnswer world None question answered
  without_plan (questions.Document name) (answers.Document found) apart is = is
  without_plan (questions.Kind name) (answers.Kind kind) apart is = is
  without_plan (questions.Title name topic) (answers.Title text) apart is = is
  without_plan (questions.First name) (answers.First id) apart is = is
  without_plan (questions.Key scope text) (answers.Key answer) apart is = absurd (cc)
  without_plan (questions.Pushes name) (answers.Pushes pushes faults) apart is = absurd (cc)
  without_plan (questions.PageOf name context) (answers.PageOf place) apart is = absurd (cc)
  without_plan question answered apart is = absurd is
