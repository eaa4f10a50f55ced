-- Answers to keys that were made (own): each is that of its key in every world that agrees with what was told, and the
-- document that it names may be asked about.
use Rattle.std.specs.Prelude.{◌≡◌, ℕ, List, [], ◌∷◌}
use Rattle.std.specs.Coded.{Coded, Coded-set, codes, ×_prop, Unit-prop}
use Rattle.std.specs.Option.{option_to_list}
use Rattle.std.proofs.Props.{props}
use Rattle.dita_doc.specs.declared.content.KeyAnswer.{KeyAnswer}
use Rattle.dita_doc.specs.declared.plan.PlanNode.{PlanNode}
use Rattle.map_spec.specs.Keys.{key_answer}
use Rattle.map_spec.specs.Pages.{local_name}
use Rattle.reader_spec.specs.World.{World}
use Rattle.readers.specs.Founded.{AreAllowed}
use Rattle.readers.specs.Told.{Told, Agrees}
use Rattle.key_layer.specs.declared.memo.KeyAt.{KeyAt}

pub record IsAnswer (told : List Told) (nodes : List PlanNode) (at : KeyAt) (answer : KeyAnswer) : Type 0 where
  pub known : (world : World) → Agrees world told → key_answer world nodes at.scope at.key ≡ answer
  pub given : (roots : List (List ℕ)) → AreAllowed roots told (option_to_list (local_name answer.target))

abbrev pub AreAnswers : List Told → List PlanNode → List (KeyAt × KeyAnswer) → Type 0
AreAnswers told nodes [] = Unit {0}
AreAnswers told nodes (entry ∷ more) = IsAnswer told nodes entry.0 entry.1 × AreAnswers told nodes more

answer_code : Coded KeyAnswer
answer_code = hlevel codes

pub answer_set : IsSet KeyAnswer
answer_set = Coded-set answer_code

IsAnswer-prop : (told : List Told) (nodes : List PlanNode) (at : KeyAt) (answer : KeyAnswer)
    → IsProp (IsAnswer told nodes at answer)
IsAnswer-prop told nodes at answer = hlevel (props, answer_set)

pub AreAnswers-prop : (told : List Told) (nodes : List PlanNode) (all : List (KeyAt × KeyAnswer))
    → IsProp (AreAnswers told nodes all)
AreAnswers-prop told nodes [] = Unit-prop
AreAnswers-prop told nodes (entry ∷ more) =
    ×_prop (IsAnswer-prop told nodes entry.0 entry.1) (AreAnswers-prop told nodes more)
