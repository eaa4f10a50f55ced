-- The notes of a reader that was made for no plan are questions that may be put while there is none.
use Rattle.std.proofs.Common.{◌≡◌, ℕ, Bool, true, false, List, [], ◌∷◌, ◌++◌, ◌⊎◌, Option, Some, None, IsTrue, reverse, sym, ap, subst, refl, ◌∙◌}
use Rattle.std.proofs.Math.Logic.{⊎_elim}
use Rattle.std.proofs.lemmas.Bool.{and_from, and_parts}
use Rattle.std.proofs.lemmas.List.{reverse-append}
use Rattle.std.proofs.lemmas.List.Elements.{filter_map-append}
use Rattle.std.proofs.lemmas.List.Folds.{list_all-append}
use Rattle.std.specs.Box.{box_value}
use Rattle.std.specs.List.{list_all}
use Rattle.std.specs.Option.{option_to_list}
use Rattle.dita_doc.specs.Tree.{Content}
use Rattle.dita_doc.specs.declared.question.Answered.{Answered}
use Rattle.dita_doc.specs.declared.question.Answered.TheVariants as answers
use Rattle.dita_doc.specs.declared.question.Asked.{Asked}
use Rattle.dita_doc.specs.declared.question.DocKind.{DocKind}
use Rattle.dita_doc.specs.declared.question.Question.{Question}
use Rattle.dita_doc.specs.declared.question.Question.TheVariants as questions
use Rattle.readers.specs.Noted.{answered_of, if_answered, told_by, told_of}
use Rattle.readers.specs.Setting.{no_setting}
use Rattle.readers.specs.Told.{Told, document, kind, title, first, key, pushes, page_of, pending, pending_document}
use Rattle.readers.specs.declared.questions.Note.{Note}
use Rattle.readers.specs.declared.questions.Note.TheVariants as notes
use Rattle.source_reader.specs.Kinds.{AreOfPlanKind, is_of_plan_kind, is_plan_note, is_plan_question}

-- what such a question tells

abbrev is_plan_told : Told → Bool
is_plan_told (document name tree) = true
is_plan_told (kind name answer) = true
is_plan_told (title name topic text) = true
is_plan_told (first name id) = true
is_plan_told _ = false

question_kind : (question : Question) (answered : Answered)
    → is_plan_told (told_by no_setting question answered) ≡ is_of_plan_kind question answered
question_kind (questions.Document name) (answers.Document found) = refl
question_kind (questions.Kind name) (answers.Kind answer) = refl
question_kind (questions.Title name topic) (answers.Title text) = refl
question_kind (questions.First name) (answers.First id) = refl
question_kind (questions.Key scope text) (answers.Key answer) = refl
question_kind (questions.Pushes name) (answers.Pushes made faults) = refl
question_kind (questions.PageOf name context) (answers.PageOf place) = refl
question_kind question answered = refl

note_kind : (note : Note) → is_plan_told (told_of no_setting note) ≡ is_plan_note note
note_kind (notes.Document name found) = refl
note_kind (notes.Kind name answer) = refl
note_kind (notes.Title name topic text) = refl
note_kind (notes.First name id) = refl
note_kind (notes.Answer asked) = question_kind (box_value asked).question (box_value asked).answered
note_kind (notes.Pending name) = refl
note_kind (notes.PendingDocument name) = refl
note_kind notes.PendingKey = refl

-- a question was put, if there was memory

kinds_put : (t : Told) (note : Note) (old new : List Note) → IsTrue (is_plan_told t) → AreOfPlanKind old
    → told_of no_setting note ≡ t → (new ≡ old) ⊎ (new ≡ note ∷ old) → AreOfPlanKind new
kinds_put t note old new of_plan kinds tells either =
    let here : IsTrue (is_plan_note note) = sym (note_kind note) ∙ ap is_plan_told tells ∙ of_plan in
    ⊎_elim (λ is. subst AreOfPlanKind (sym is) kinds)
    (λ is. subst AreOfPlanKind (sym is) (and_from (is_plan_note note) (list_all is_plan_note old) here kinds)) either

module _ (note : Note) (old new : List Note) (kinds : AreOfPlanKind old) where
  pub document_put : (name : List ℕ) (tree : Option Content) → told_of no_setting note ≡ document name tree
      → (new ≡ old) ⊎ (new ≡ note ∷ old) → AreOfPlanKind new
  document_put name tree = kinds_put (document name tree) note old new refl kinds

  pub kind_put : (name : List ℕ) (answer : DocKind) → told_of no_setting note ≡ kind name answer
      → (new ≡ old) ⊎ (new ≡ note ∷ old) → AreOfPlanKind new
  kind_put name answer = kinds_put (kind name answer) note old new refl kinds

  pub title_put : (name topic text : List ℕ) → told_of no_setting note ≡ title name topic text
      → (new ≡ old) ⊎ (new ≡ note ∷ old) → AreOfPlanKind new
  title_put name topic text = kinds_put (title name topic text) note old new refl kinds

  pub first_put : (name id : List ℕ) → told_of no_setting note ≡ first name id
      → (new ≡ old) ⊎ (new ≡ note ∷ old) → AreOfPlanKind new
  first_put name id = kinds_put (first name id) note old new refl kinds

-- The questions of such notes as facts keep them, the oldest first

one_question : (note : Note) → IsTrue (is_plan_note note)
    → IsTrue (list_all is_plan_question (option_to_list (if_answered note)))
one_question (notes.Document name found) here = refl
one_question (notes.Kind name answer) here = refl
one_question (notes.Title name topic text) here = refl
one_question (notes.First name id) here = refl
one_question (notes.Answer asked) here = and_from (is_plan_question (box_value asked)) true here refl
one_question (notes.Pending name) here = refl
one_question (notes.PendingDocument name) here = refl
one_question notes.PendingKey here = refl

alone : (found : Option Asked) → IsTrue (list_all is_plan_question (option_to_list found))
    → (note : Note) → if_answered note ≡ found → IsTrue (list_all is_plan_question (answered_of (note ∷ [])))
alone None here note is = rw is refl
alone (Some asked) here note is = rw is here

pub questions_of_kind : (all : List Note) → AreOfPlanKind all
    → IsTrue (list_all is_plan_question (answered_of (reverse all)))
questions_of_kind [] kinds = refl
questions_of_kind (note ∷ older) kinds =
    let parts = and_parts (is_plan_note note) (list_all is_plan_note older) kinds in
    ap (λ l. list_all is_plan_question (answered_of l)) (reverse-append (note ∷ []) older)
    ∙ ap (list_all is_plan_question) (filter_map-append if_answered (reverse older) (note ∷ []))
    ∙ list_all-append is_plan_question (answered_of (reverse older)) (answered_of (note ∷ []))
    ∙ and_from (list_all is_plan_question (answered_of (reverse older)))
    (list_all is_plan_question (answered_of (note ∷ []))) (questions_of_kind older parts.1)
    (alone (if_answered note) (one_question note parts.0) note refl)
