-- What is recorded of the questions for a part says what all of them say: a world that gives the recorded answers gives
-- them all, if some world does.
use Rattle.std.specs.Prelude.{◌≡◌, ◌≤◌, ℕ, Bool, true, false, List, [], ◌∷◌, Some, length, nat_lt, if◌then◌else◌}
use Rattle.std.specs.List.{AllByRecursion, cons_option}
use Rattle.std.proofs.Common.{refl, sym, ◌∙◌, arith}
use Rattle.std.proofs.lemmas.Bool.Decides.{nat_tests}
use Rattle.dita_doc.specs.declared.question.Answered.{Answered}
use Rattle.dita_doc.specs.declared.question.Answered.TheVariants as answers
use Rattle.dita_doc.specs.declared.question.Asked.{Asked}
use Rattle.dita_doc.specs.declared.question.Question.{Question}
use Rattle.dita_doc.specs.declared.question.Question.TheVariants as questions
use Rattle.fact_judge.specs.Answer.{AreAnswers, HasScope}
use Rattle.key_scopes.specs.Above.{AreInPreorder, parent_in}
use Rattle.map_spec.specs.Keys.{key_answer}
use Rattle.map_spec.specs.Scopes.{scopes}
use Rattle.reader_spec.specs.World.{World}
use Rattle.readers.specs.Noted.{told_asked, told_by, told_in}
use Rattle.readers.specs.Setting.{Setting}
use Rattle.readers.specs.Told.{Agrees, Holds, Told}
use Rattle.fact_maker.proofs.KeyPastLaws.{key_past}
use Rattle.fact_maker.specs.Own.{if_own, own_asked}

-- each answer that was told is that of the world
abbrev pub AllHold : World → Setting → List Asked → Type 0
AllHold world setting asked = AllByRecursion (λ (one : Asked). Holds world (told_asked setting one)) asked

pub hold_all : (world : World) (setting : Setting) (ts : List Told) (asked : List Asked)
    → Agrees world (told_in setting ts asked) → AllHold world setting asked × Agrees world ts
hold_all world setting ts [] agrees = (tt, agrees)
hold_all world setting ts (one ∷ more) agrees =
    let rest : AllHold world setting more × Agrees world (told_asked setting one ∷ ts) =
    hold_all world setting (told_asked setting one ∷ ts) more agrees in
    ((rest.1.0, rest.0), rest.1.1)

pub agrees_all : (world : World) (setting : Setting) (ts : List Told) (asked : List Asked)
    → AllHold world setting asked → Agrees world ts → Agrees world (told_in setting ts asked)
agrees_all world setting ts [] all agrees = agrees
agrees_all world setting ts (one ∷ more) all agrees =
    agrees_all world setting (told_asked setting one ∷ ts) more all.1 (all.0, agrees)

module _ (setting : Setting) (count : ℕ) (counted : count ≡ length (scopes setting.nodes))
    (ordered : AreInPreorder (parent_in (scopes setting.nodes)) (length (scopes setting.nodes))) where
  -- The scope of a key

  scope_there : (scope : ℕ) (test : Bool) → nat_lt scope count ≡ test → HasScope setting (if test then scope else 0)
  scope_there scope true is = grind (arith, nat_tests, is, counted)
  scope_there scope false is = omega arith

  key_there : (world : World) (scope : ℕ) (text : List ℕ) (test : Bool) → nat_lt scope count ≡ test
      → key_answer world setting.nodes scope text ≡ key_answer world setting.nodes (if test then scope else 0) text
  key_there world scope text true is = refl
  key_there world scope text false is =
      let out : length (scopes setting.nodes) ≤ scope = grind (arith, nat_tests, is, counted) in
      key_past world setting.nodes ordered scope out text

  -- What holds is recorded so

  with_answer : (world : World) (question : Question) (answered : Answered) (more : List Asked)
      → Holds world (told_by setting question answered) → AreAnswers world (Some setting) more
      → AreAnswers world (Some setting)
      (cons_option (if_own count (record { question = question; answered = answered })) more)
  with_answer world (questions.Document name) (answers.Document found) more holds rest = (holds, rest)
  with_answer world (questions.Kind name) (answers.Kind kind) more holds rest = (holds, rest)
  with_answer world (questions.Title name topic) (answers.Title text) more holds rest = (holds, rest)
  with_answer world (questions.First name) (answers.First id) more holds rest = (holds, rest)
  with_answer world (questions.Key scope text) (answers.Key answer) more holds rest = (
    (
      scope_there scope (nat_lt scope count) refl,
      sym (key_there world scope text (nat_lt scope count) refl) ∙ holds,
    ),
    rest,
  )
  with_answer world (questions.Pushes name) (answers.Pushes pushes faults) more holds rest = (holds, rest)
  with_answer world question answered more holds rest = rest

  pub own_answers : (world : World) (asked : List Asked) → AllHold world setting asked
      → AreAnswers world (Some setting) (own_asked count asked)
  own_answers world [] all = tt
  own_answers world (one ∷ more) all =
      with_answer world one.question one.answered (own_asked count more) all.0 (own_answers world more all.1)

  -- What is recorded holds, and so does what is not recorded

  holds_there : (world here : World) (question : Question) (answered : Answered) (more : List Asked)
      → Holds here (told_by setting question answered)
      → AreAnswers world (Some setting)
      (cons_option (if_own count (record { question = question; answered = answered })) more)
      → Holds world (told_by setting question answered) × AreAnswers world (Some setting) more
  holds_there world here (questions.Document name) (answers.Document found) more holds are = are
  holds_there world here (questions.Kind name) (answers.Kind kind) more holds are = are
  holds_there world here (questions.Title name topic) (answers.Title text) more holds are = are
  holds_there world here (questions.First name) (answers.First id) more holds are = are
  holds_there world here (questions.Key scope text) (answers.Key answer) more holds are =
      (key_there world scope text (nat_lt scope count) refl ∙ are.0.1, are.1)
  holds_there world here (questions.Pushes name) (answers.Pushes pushes faults) more holds are = are
  holds_there world here (questions.PageOf name context) (answers.PageOf place) more holds are = (holds, are)
  holds_there world here question answered more holds are = (tt, are)

  pub own_hold : (world here : World) (asked : List Asked) → AllHold here setting asked
      → AreAnswers world (Some setting) (own_asked count asked) → AllHold world setting asked
  own_hold world here [] all are = tt
  own_hold world here (one ∷ more) all are =
      let both = holds_there world here one.question one.answered (own_asked count more) all.0 are in
      (both.0, own_hold world here more all.1 both.1)
