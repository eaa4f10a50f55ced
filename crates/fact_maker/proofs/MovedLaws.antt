-- What a reader that was made for no plan says of its notes, said of the questions that a fact keeps: each note has its
-- answer, so the questions tell the same.
use Rattle.std.proofs.Common.{◌≡◌, ◌∙◌, ◌++◌, List, [], ◌∷◌, IsTrue, reverse, ap, refl}
use Rattle.std.proofs.lemmas.Bool.{and_parts, false≢true}
use Rattle.std.proofs.lemmas.List.{reverse-append}
use Rattle.std.proofs.lemmas.List.Elements.{filter_map-append}
use Rattle.std.specs.List.{list_all}
use Rattle.dita_doc.specs.declared.question.Answered.{Answered}
use Rattle.dita_doc.specs.declared.question.Answered.TheVariants as answers
use Rattle.dita_doc.specs.declared.question.Asked.{Asked}
use Rattle.dita_doc.specs.declared.question.Question.{Question}
use Rattle.dita_doc.specs.declared.question.Question.TheVariants as questions
use Rattle.fact_judge.specs.Answer.{AreOfKind, IsOfPlanKind}
use Rattle.readers.specs.Noted.{answered_of, if_answered, told_asked, told_in, told_of}
use Rattle.readers.specs.Setting.{no_setting}
use Rattle.readers.specs.Told.{Told}
use Rattle.readers.specs.declared.questions.Note.{Note}
use Rattle.readers.specs.declared.questions.Note.TheVariants as notes
use Rattle.source_reader.proofs.KindLaws.{questions_of_kind}
use Rattle.source_reader.specs.Kinds.{AreOfPlanKind, is_of_plan_kind, is_plan_note, is_plan_question}
use Rattle.source_reader.specs.Stored.{told_alone}

-- Each answer is of its question's kind

plan_kind : (question : Question) (answered : Answered) → IsTrue (is_of_plan_kind question answered)
    → IsOfPlanKind question answered
plan_kind (questions.Document name) (answers.Document found) here = tt
plan_kind (questions.Kind name) (answers.Kind answer) here = tt
plan_kind (questions.Title name topic) (answers.Title text) here = tt
plan_kind (questions.First name) (answers.First id) here = tt
plan_kind question answered here = absurd (false≢true here)

plan_kinds : (all : List Asked) → IsTrue (list_all is_plan_question all) → AreOfKind IsOfPlanKind all
plan_kinds [] here = tt
plan_kinds (one ∷ more) here =
    let parts = and_parts (is_plan_question one) (list_all is_plan_question more) here in
    (plan_kind one.question one.answered parts.0, plan_kinds more parts.1)

pub kept_kinds : (all : List Note) → AreOfPlanKind all → AreOfKind IsOfPlanKind (answered_of (reverse all))
kept_kinds all kinds = plan_kinds (answered_of (reverse all)) (questions_of_kind all kinds)

-- The questions tell what the notes do

told_append : (ts : List Told) (xs ys : List Asked)
    → told_in no_setting ts (xs ++ ys) ≡ told_in no_setting (told_in no_setting ts xs) ys
told_append ts [] ys = refl
told_append ts (one ∷ xs) ys = told_append (told_asked no_setting one ∷ ts) xs ys

one_told : (note : Note) (ts : List Told) → IsTrue (is_plan_note note)
    → told_in no_setting ts (answered_of (note ∷ [])) ≡ told_of no_setting note ∷ ts
one_told (notes.Document name found) ts here = refl
one_told (notes.Kind name answer) ts here = refl
one_told (notes.Title name topic text) ts here = refl
one_told (notes.First name id) ts here = refl
one_told (notes.Answer asked) ts here = refl
one_told (notes.Pending name) ts here = absurd (false≢true here)
one_told (notes.PendingDocument name) ts here = absurd (false≢true here)
one_told notes.PendingKey ts here = absurd (false≢true here)

pub told_kept : (all : List Note) → AreOfPlanKind all
    → told_in no_setting [] (answered_of (reverse all)) ≡ told_alone all
told_kept [] kinds = refl
told_kept (note ∷ older) kinds =
    let parts = and_parts (is_plan_note note) (list_all is_plan_note older) kinds in
    ap (λ l. told_in no_setting [] (answered_of l)) (reverse-append (note ∷ []) older)
    ∙ ap (told_in no_setting []) (filter_map-append if_answered (reverse older) (note ∷ []))
    ∙ told_append [] (answered_of (reverse older)) (answered_of (note ∷ []))
    ∙ one_told note (told_in no_setting [] (answered_of (reverse older))) parts.0
    ∙ ap (λ ts. told_of no_setting note ∷ ts) (told_kept older parts.1)
