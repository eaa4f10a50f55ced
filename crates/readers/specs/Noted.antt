-- What the notes of a reader tell (own): notes, the newest first, on top of what was told before.
use Rattle.std.specs.Prelude.{List, [], ◌∷◌, Option, Some, None}
use Rattle.std.specs.Arc.{arc_value}
use Rattle.std.specs.Box.{box_value}
use Rattle.std.specs.List.{filter_map}
use Rattle.dita_doc.specs.declared.question.Answered.{Answered}
use Rattle.dita_doc.specs.declared.question.Answered.TheVariants as answers
use Rattle.dita_doc.specs.declared.question.Asked.{Asked}
use Rattle.dita_doc.specs.declared.question.Question.{Question}
use Rattle.dita_doc.specs.declared.question.Question.TheVariants as questions
use Rattle.readers.specs.declared.questions.Note.{Note}
use Rattle.readers.specs.declared.questions.Note.TheVariants as notes
use Rattle.readers.specs.Founded.{homes}
use Rattle.readers.specs.Setting.{Setting}
use Rattle.readers.specs.Told.{Told, document, kind, title, first, key, pushes, page_of, pending, pending_document, tree_found}

-- a question with an answer of another kind tells nothing
abbrev pub told_by : Setting → Question → Answered → Told
told_by setting (questions.Document name) (answers.Document found) = document name (tree_found found)
told_by setting (questions.Kind name) (answers.Kind answer) = kind name answer
told_by setting (questions.Title name topic) (answers.Title text) = title name topic text
told_by setting (questions.First name) (answers.First id) = first name id
told_by setting (questions.Key scope text) (answers.Key answer) = key setting.nodes scope text answer
told_by setting (questions.Pushes name) (answers.Pushes made faults) =
    pushes setting.documents name (record { pushes = made; faults = faults })
told_by setting (questions.PageOf name context) (answers.PageOf place) =
    page_of setting.pages name (arc_value context) place
told_by setting question answer = pending []

abbrev pub told_of : Setting → Note → Told
told_of setting (notes.Document name found) = document name (tree_found found)
told_of setting (notes.Kind name answer) = kind name answer
told_of setting (notes.Title name topic text) = title name topic text
told_of setting (notes.First name id) = first name id
told_of setting (notes.Answer asked) = told_by setting (box_value asked).question (box_value asked).answered
told_of setting (notes.Pending name) = pending (name ∷ [])
told_of setting (notes.PendingDocument name) = pending_document name
told_of setting notes.PendingKey = pending (homes setting.nodes)

abbrev pub told_onto : Setting → List Told → List Note → List Told
told_onto setting ts [] = ts
told_onto setting ts (note ∷ older) = told_of setting note ∷ told_onto setting ts older

-- The questions that have their answers, as facts keep them

abbrev pub if_answered : Note → Option Asked
if_answered (notes.Document name found) =
    Some (record { question = questions.Document name; answered = answers.Document found })
if_answered (notes.Kind name answer) = Some (record { question = questions.Kind name; answered = answers.Kind answer })
if_answered (notes.Title name topic text) =
    Some (record { question = questions.Title name topic; answered = answers.Title text })
if_answered (notes.First name id) = Some (record { question = questions.First name; answered = answers.First id })
if_answered (notes.Answer asked) = Some (box_value asked)
if_answered _ = None

abbrev pub answered_of : List Note → List Asked
answered_of all = filter_map if_answered all

abbrev pub told_asked : Setting → Asked → Told
told_asked setting asked = told_by setting asked.question asked.answered

-- what such a list tells, the oldest of which stands first
abbrev pub told_in : Setting → List Told → List Asked → List Told
told_in setting ts [] = ts
told_in setting ts (asked ∷ later) = told_in setting (told_asked setting asked ∷ ts) later
