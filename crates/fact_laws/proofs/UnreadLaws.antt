-- Questions about other documents have the same answers where one document alone differs.
use Rattle.std.proofs.Common.{◌≡◌, ◌≢◌, ◌++◌, ℕ, false, List, [], ◌∷◌, Option, Some, None, bytes_eq, ap, sym, subst, ◌∙◌, append_assoc}
use Rattle.std.specs.Arc.{arc_value}
use Rattle.std.specs.Option.{option_map_or}
use Rattle.std.specs.Prelude.{option_map}
use Rattle.std.proofs.lemmas.Bool.{or_left}
use Rattle.std.proofs.lemmas.Slice.Eq.{bytes_eq-Decides}
use Rattle.dita_doc.specs.Desk.{State}
use Rattle.dita_doc.specs.Tree.{Content}
use Rattle.dita_doc.specs.declared.question.Answered.{Answered}
use Rattle.dita_doc.specs.declared.question.Answered.TheVariants as answers
use Rattle.dita_doc.specs.declared.question.Asked.{Asked}
use Rattle.dita_doc.specs.declared.question.DocKind.TheVariants as kinds
use Rattle.dita_doc.specs.declared.question.Question.{Question}
use Rattle.dita_doc.specs.declared.question.Question.TheVariants as questions
use Rattle.fact_judge.specs.Agreed.{own_agrees, plan_agrees}
use Rattle.fact_judge.specs.Answer.{AreAnswers, IsAnswer, setting_by}
use Rattle.fact_judge.specs.Founded.{IsFoundedFact, names_in_question, names_of_answer, plan_documents, roots_of}
use Rattle.fact_judge.specs.Order.{InOrder, given_by}
use Rattle.fact_laws.specs.Unread.{AllStay, DifferAt, IsUnknown, KeysAndPushesStay, Stays, known_to_fact, known_to_plan}
use Rattle.facts.specs.declared.fact.Fact.{Fact}
use Rattle.map_spec.specs.Titles.{first_of_document, kind_of_document, title_of_document}
use Rattle.map_spec.specs.Written.{written_in}
use Rattle.reader_spec.specs.World.{World, world_of}
use Rattle.readers.proofs.AmongLaws.{among_front}
use Rattle.readers.specs.Setting.{Setting}

module _ (name : List ℕ) (world other : World)
    (same : (asked : List ℕ) → asked ≢ name → other asked ≡ world asked) where
  -- one name that is not this one
  apart : (asked : List ℕ) → IsUnknown (asked ∷ []) name → asked ≢ name
  apart asked unknown is = unknown (or_left (bytes_eq asked name) false ((bytes_eq-Decides asked name).1 is))

  -- One question

  stays : (setting : Setting) (planned : List (List ℕ)) (question : Question) (answered : Answered)
      → IsUnknown (names_in_question planned question) name → Stays other (Some setting) question answered
      → IsAnswer world (Some setting) question answered → IsAnswer other (Some setting) question answered
  stays setting planned (questions.Document asked) (answers.Document found) unknown kept is =
      same asked (apart asked unknown) ∙ is
  stays setting planned (questions.Kind asked) (answers.Kind kind) unknown kept is =
      ap (λ (found : Option Content). option_map_or kind_of_document (option_map (written_in asked) found) kinds.Absent)
      (same asked (apart asked unknown)) ∙ is
  stays setting planned (questions.Title asked topic) (answers.Title text) unknown kept is =
      ap (λ (found : Option Content). option_map_or (title_of_document asked topic)
      (option_map (written_in asked) found) asked) (same asked (apart asked unknown)) ∙ is
  stays setting planned (questions.First asked) (answers.First id) unknown kept is =
      ap (λ (found : Option Content). option_map_or first_of_document (option_map (written_in asked) found) [])
      (same asked (apart asked unknown)) ∙ is
  stays setting planned (questions.Key scope text) (answers.Key answer) unknown kept is = kept
  stays setting planned (questions.Pushes asked) (answers.Pushes pushes faults) unknown kept is = kept
  stays setting planned (questions.PageOf asked context) (answers.PageOf place) unknown kept is = is
  stays setting planned question answered unknown kept is = absurd is

  -- and where there is no plan
  plan_stays : (planned : List (List ℕ)) (question : Question) (answered : Answered)
      → IsUnknown (names_in_question planned question) name
      → IsAnswer world None question answered → IsAnswer other None question answered
  plan_stays planned (questions.Document asked) (answers.Document found) unknown is =
      same asked (apart asked unknown) ∙ is
  plan_stays planned (questions.Kind asked) (answers.Kind kind) unknown is =
      ap (λ (found : Option Content). option_map_or kind_of_document (option_map (written_in asked) found) kinds.Absent)
      (same asked (apart asked unknown)) ∙ is
  plan_stays planned (questions.Title asked topic) (answers.Title text) unknown is =
      ap (λ (found : Option Content). option_map_or (title_of_document asked topic)
      (option_map (written_in asked) found) asked) (same asked (apart asked unknown)) ∙ is
  plan_stays planned (questions.First asked) (answers.First id) unknown is =
      ap (λ (found : Option Content). option_map_or first_of_document (option_map (written_in asked) found) [])
      (same asked (apart asked unknown)) ∙ is
  plan_stays planned question answered unknown is = absurd is

  one_stays : (setting : Option Setting) (planned : List (List ℕ)) (question : Question) (answered : Answered)
      → IsUnknown (names_in_question planned question) name → Stays other setting question answered
      → IsAnswer world setting question answered → IsAnswer other setting question answered
  one_stays None planned question answered unknown kept is = plan_stays planned question answered unknown is
  one_stays (Some setting) planned question answered unknown kept is =
      stays setting planned question answered unknown kept is

  -- All questions, each about names that are known

  all_stay : (setting : Option Setting) (planned known : List (List ℕ)) (asked : List Asked)
      → InOrder (names_in_question planned) names_of_answer known asked
      → IsUnknown (known ++ given_by names_of_answer asked) name → AllStay other setting asked
      → AreAnswers world setting asked → AreAnswers other setting asked
  all_stay setting planned known [] order unknown kept is = tt
  all_stay setting planned known (one ∷ more) order unknown kept is = (
    one_stays setting planned one.question one.answered
        (λ among. unknown (among_front known (given_by names_of_answer (one ∷ more)) name (order.0.each name among)))
        kept.0 is.0,
    all_stay setting planned (known ++ names_of_answer one) more order.1
        (subst (λ (names : List (List ℕ)). IsUnknown names name)
        (sym (append_assoc known (names_of_answer one) (given_by names_of_answer more))) unknown) kept.1 is.1,
  )

  -- without a plan nothing is said of keys and pushes that has an answer
  plan_questions : (asked : List Asked) (planned known : List (List ℕ))
      → InOrder (names_in_question planned) names_of_answer known asked
      → IsUnknown (known ++ given_by names_of_answer asked) name
      → AreAnswers world None asked → AreAnswers other None asked
  plan_questions [] planned known order unknown is = tt
  plan_questions (one ∷ more) planned known order unknown is = (
    plan_stays planned one.question one.answered
        (λ among. unknown (among_front known (given_by names_of_answer (one ∷ more)) name (order.0.each name among)))
        is.0,
    plan_questions more planned (known ++ names_of_answer one) order.1
        (subst (λ (names : List (List ℕ)). IsUnknown names name)
        (sym (append_assoc known (names_of_answer one) (given_by names_of_answer more))) unknown) is.1,
  )

-- Facts

pub plan_again : (fact : Fact) (name : List ℕ) (old new : State) → IsFoundedFact fact
    → IsUnknown (known_to_plan fact) name → DifferAt name old new → plan_agrees (arc_value fact.plan) old
    → plan_agrees (arc_value fact.plan) new
plan_again fact name old new founded unknown differ is =
    plan_questions name (world_of old) (world_of new) differ.each (arc_value fact.plan).asked [] (roots_of fact)
    founded.plan unknown is

pub own_again : (fact : Fact) (name : List ℕ) (old new : State) → IsFoundedFact fact
    → IsUnknown (known_to_fact fact) name → DifferAt name old new → KeysAndPushesStay fact new → own_agrees fact old
    → own_agrees fact new
own_again fact name old new founded unknown differ kept is =
    all_stay name (world_of old) (world_of new) differ.each (setting_by (arc_value fact.plan).value)
    (plan_documents (arc_value fact.plan).value) (known_to_plan fact) fact.asked founded.own
    unknown kept is
