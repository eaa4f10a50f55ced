-- When a fact does not know a document, and sources that differ in one document alone (own).
use Rattle.std.specs.Prelude.{◌≡◌, ◌≢◌, ◌++◌, ℕ, List, [], ◌∷◌, Option, IsTrue}
use Rattle.std.specs.Arc.{arc_value}
use Rattle.dita_doc.specs.Desk.{State}
use Rattle.dita_doc.specs.declared.question.Answered.{Answered}
use Rattle.dita_doc.specs.declared.question.Asked.{Asked}
use Rattle.dita_doc.specs.declared.question.Question.{Question}
use Rattle.dita_doc.specs.declared.question.Question.TheVariants as questions
use Rattle.fact_judge.specs.Answer.{IsAnswer, setting_by}
use Rattle.fact_judge.specs.Founded.{names_of_answer, roots_of}
use Rattle.fact_judge.specs.Order.{given_by}
use Rattle.facts.specs.declared.fact.Fact.{Fact}
use Rattle.reader_spec.specs.World.{World, world_of}
use Rattle.readers.specs.Founded.{is_among}
use Rattle.readers.specs.Setting.{Setting}

-- the same document stands under each name but this one
pub record DifferAt (name : List ℕ) (old new : State) : Type 0 where
  pub each : (other : List ℕ) → other ≢ name → world_of new other ≡ world_of old other

-- the name is none of these
abbrev pub IsUnknown : List (List ℕ) → List ℕ → Type 0
IsUnknown names name = IsTrue (is_among names name) → ⊥

-- the names that a fact's plan was about or led to: the map, the DITAVAL, and those that its answers name
abbrev pub known_to_plan : Fact → List (List ℕ)
known_to_plan fact = roots_of fact ++ given_by names_of_answer (arc_value fact.plan).asked

-- and those that its own answers name
abbrev pub known_to_fact : Fact → List (List ℕ)
known_to_fact fact = known_to_plan fact ++ given_by names_of_answer fact.asked

-- a question about a key or about pushes has its recorded answer: they hang on more documents than they name
abbrev pub Stays : World → Option Setting → Question → Answered → Type 0
Stays world setting (questions.Key scope text) answered = IsAnswer world setting (questions.Key scope text) answered
Stays world setting (questions.Pushes name) answered = IsAnswer world setting (questions.Pushes name) answered
Stays world setting question answered = Unit {0}

abbrev pub AllStay : World → Option Setting → List Asked → Type 0
AllStay world setting [] = Unit {0}
AllStay world setting (one ∷ more) = Stays world setting one.question one.answered × AllStay world setting more

abbrev pub KeysAndPushesStay : Fact → State → Type 0
KeysAndPushesStay fact sources = AllStay (world_of sources) (setting_by (arc_value fact.plan).value) fact.asked
