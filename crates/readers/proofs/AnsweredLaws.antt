-- The questions that have answers tell what all notes tell: a question without an answer tells nothing.
use Rattle.std.proofs.Common.{◌≡◌, ◌||◌, ℕ, List, [], ◌∷◌, ◌++◌, IsTrue, reverse, sym, ap, subst, refl, ◌∙◌}
use Rattle.std.specs.Box.{box_value}
use Rattle.std.proofs.lemmas.List.{reverse-append}
use Rattle.std.proofs.lemmas.List.Elements.{filter_map-append}
use Rattle.dita_doc.specs.declared.question.Asked.{Asked}
use Rattle.reader_spec.specs.World.{World}
use Rattle.readers.specs.Founded.{IsFounded, is_allowed, is_among, names_given}
use Rattle.readers.specs.Noted.{answered_of, if_answered, told_asked, told_in, told_onto}
use Rattle.readers.specs.Setting.{Setting}
use Rattle.readers.specs.Told.{Told, document, kind, title, first, Agrees, tree_found}
use Rattle.readers.specs.declared.questions.Note.{Note}
use Rattle.readers.specs.declared.questions.Note.TheVariants.{Document, Kind, Title, First, Answer, PendingDocument, Pending, PendingKey}

module _ (setting : Setting) (ts : List Told) where
  -- what the notes with answers tell, the newest first
  abbrev answers : List Note → List Told
  answers [] = ts
  answers (Document name found ∷ older) = document name (tree_found found) ∷ answers older
  answers (Kind name answer ∷ older) = kind name answer ∷ answers older
  answers (Title name topic text ∷ older) = title name topic text ∷ answers older
  answers (First name id ∷ older) = first name id ∷ answers older
  answers (Answer asked ∷ older) = told_asked setting (box_value asked) ∷ answers older
  answers (Pending name ∷ older) = answers older
  answers (PendingDocument name ∷ older) = answers older
  answers (PendingKey ∷ older) = answers older

  agrees_answers : (world : World) (notes : List Note) → Agrees world (told_onto setting ts notes)
      → Agrees world (answers notes)
  agrees_answers world [] agrees = agrees
  agrees_answers world (Document name found ∷ older) agrees = (agrees.0, agrees_answers world older agrees.1)
  agrees_answers world (Kind name answer ∷ older) agrees = (agrees.0, agrees_answers world older agrees.1)
  agrees_answers world (Title name topic text ∷ older) agrees = (agrees.0, agrees_answers world older agrees.1)
  agrees_answers world (First name id ∷ older) agrees = (agrees.0, agrees_answers world older agrees.1)
  agrees_answers world (Answer asked ∷ older) agrees = (agrees.0, agrees_answers world older agrees.1)
  agrees_answers world (Pending name ∷ older) agrees = agrees_answers world older agrees.1
  agrees_answers world (PendingDocument name ∷ older) agrees = agrees_answers world older agrees.1
  agrees_answers world (PendingKey ∷ older) agrees = agrees_answers world older agrees.1

  agrees_all : (world : World) (notes : List Note) → Agrees world (answers notes)
      → Agrees world (told_onto setting ts notes)
  agrees_all world [] agrees = agrees
  agrees_all world (Document name found ∷ older) agrees = (agrees.0, agrees_all world older agrees.1)
  agrees_all world (Kind name answer ∷ older) agrees = (agrees.0, agrees_all world older agrees.1)
  agrees_all world (Title name topic text ∷ older) agrees = (agrees.0, agrees_all world older agrees.1)
  agrees_all world (First name id ∷ older) agrees = (agrees.0, agrees_all world older agrees.1)
  agrees_all world (Answer asked ∷ older) agrees = (agrees.0, agrees_all world older agrees.1)
  agrees_all world (Pending name ∷ older) agrees = (tt, agrees_all world older agrees)
  agrees_all world (PendingDocument name ∷ older) agrees = (tt, agrees_all world older agrees)
  agrees_all world (PendingKey ∷ older) agrees = (tt, agrees_all world older agrees)

  allowed_alike : (roots : List (List ℕ)) (m : List ℕ) (notes : List Note)
      → is_allowed roots (told_onto setting ts notes) m ≡ is_allowed roots (answers notes) m
  allowed_alike roots m [] = refl
  allowed_alike roots m (Document name found ∷ older) =
      ap (λ b. is_among (names_given (document name (tree_found found))) m || b) (allowed_alike roots m older)
  allowed_alike roots m (Kind name answer ∷ older) =
      ap (λ b. is_among (names_given (kind name answer)) m || b) (allowed_alike roots m older)
  allowed_alike roots m (Title name topic text ∷ older) =
      ap (λ b. is_among (names_given (title name topic text)) m || b) (allowed_alike roots m older)
  allowed_alike roots m (First name id ∷ older) =
      ap (λ b. is_among (names_given (first name id)) m || b) (allowed_alike roots m older)
  allowed_alike roots m (Answer asked ∷ older) =
      ap (λ b. is_among (names_given (told_asked setting (box_value asked))) m || b) (allowed_alike roots m older)
  allowed_alike roots m (Pending name ∷ older) = allowed_alike roots m older
  allowed_alike roots m (PendingDocument name ∷ older) = allowed_alike roots m older
  allowed_alike roots m (PendingKey ∷ older) = allowed_alike roots m older

  founded_answers : (roots : List (List ℕ)) (notes : List Note) → IsFounded roots (told_onto setting ts notes)
      → IsFounded roots (answers notes)
  founded_answers roots [] founded = founded
  founded_answers roots (Document name found ∷ older) founded = (
    record {
      each = λ m among. subst IsTrue (allowed_alike roots m older) (founded.0.each m among);
    },
    founded_answers roots older founded.1,
  )
  founded_answers roots (Kind name answer ∷ older) founded = (
    record {
      each = λ m among. subst IsTrue (allowed_alike roots m older) (founded.0.each m among);
    },
    founded_answers roots older founded.1,
  )
  founded_answers roots (Title name topic text ∷ older) founded = (
    record {
      each = λ m among. subst IsTrue (allowed_alike roots m older) (founded.0.each m among);
    },
    founded_answers roots older founded.1,
  )
  founded_answers roots (First name id ∷ older) founded = (
    record {
      each = λ m among. subst IsTrue (allowed_alike roots m older) (founded.0.each m among);
    },
    founded_answers roots older founded.1,
  )
  founded_answers roots (Answer asked ∷ older) founded = (
    record {
      each = λ m among. subst IsTrue (allowed_alike roots m older) (founded.0.each m among);
    },
    founded_answers roots older founded.1,
  )
  founded_answers roots (Pending name ∷ older) founded = founded_answers roots older founded.1
  founded_answers roots (PendingDocument name ∷ older) founded = founded_answers roots older founded.1
  founded_answers roots (PendingKey ∷ older) founded = founded_answers roots older founded.1

told-append : (setting : Setting) (ts : List Told) (xs ys : List Asked)
    → told_in setting ts (xs ++ ys) ≡ told_in setting (told_in setting ts xs) ys
told-append setting ts [] ys = refl
told-append setting ts (asked ∷ xs) ys = told-append setting (told_asked setting asked ∷ ts) xs ys

told_by_one : (setting : Setting) (ts : List Told) (note : Note) (older : List Note)
    → told_in setting ts (answered_of (reverse older)) ≡ answers setting ts older
    → told_in setting (told_in setting ts (answered_of (reverse older))) (answered_of (note ∷ []))
    ≡ answers setting ts (note ∷ older)
told_by_one setting ts (Document name found) older is = ap (λ all. document name (tree_found found) ∷ all) is
told_by_one setting ts (Kind name answer) older is = ap (λ all. kind name answer ∷ all) is
told_by_one setting ts (Title name topic text) older is = ap (λ all. title name topic text ∷ all) is
told_by_one setting ts (First name id) older is = ap (λ all. first name id ∷ all) is
told_by_one setting ts (Answer asked) older is = ap (λ all. told_asked setting (box_value asked) ∷ all) is
told_by_one setting ts (Pending name) older is = is
told_by_one setting ts (PendingDocument name) older is = is
told_by_one setting ts PendingKey older is = is

told_by_answers : (setting : Setting) (ts : List Told) (notes : List Note)
    → told_in setting ts (answered_of (reverse notes)) ≡ answers setting ts notes
told_by_answers setting ts [] = refl
told_by_answers setting ts (note ∷ older) =
    ap (λ all. told_in setting ts (answered_of all)) (reverse-append (note ∷ []) older)
    ∙ ap (told_in setting ts) (filter_map-append if_answered (reverse older) (note ∷ []))
    ∙ told-append setting ts (answered_of (reverse older)) (answered_of (note ∷ []))
    ∙ told_by_one setting ts note older (told_by_answers setting ts older)

-- a world that agrees with all notes agrees with the answers, and the other way round
pub agrees_with_answered : (setting : Setting) (ts : List Told) (world : World) (notes : List Note)
    → Agrees world (told_onto setting ts notes) → Agrees world (told_in setting ts (answered_of (reverse notes)))
agrees_with_answered setting ts world notes agrees =
    subst (Agrees world) (sym (told_by_answers setting ts notes)) (agrees_answers setting ts world notes agrees)

pub agrees_with_notes : (setting : Setting) (ts : List Told) (world : World) (notes : List Note)
    → Agrees world (told_in setting ts (answered_of (reverse notes))) → Agrees world (told_onto setting ts notes)
agrees_with_notes setting ts world notes agrees =
    agrees_all setting ts world notes (subst (Agrees world) (told_by_answers setting ts notes) agrees)

pub answered_founded : (setting : Setting) (ts : List Told) (roots : List (List ℕ)) (notes : List Note)
    → IsFounded roots (told_onto setting ts notes) → IsFounded roots (told_in setting ts (answered_of (reverse notes)))
answered_founded setting ts roots notes founded = subst (IsFounded roots) (sym (told_by_answers setting ts notes))
    (founded_answers setting ts roots notes founded)
