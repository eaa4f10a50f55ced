-- What is known of the nodes goes on to hold as more is told, and gives answers to keys.
use Rattle.std.proofs.Common.{◌≡◌, ℕ, List, [], Option, Result, Ok, Err, IfOk, map, sym, subst}
use Rattle.std.proofs.Math.Logic.{∥∥₁_elim}
use Rattle.std.proofs.lemmas.Bool.{false≢true}
use Rattle.std.specs.Option.{option_to_list}
use Rattle.dita_doc.specs.declared.content.KeyAnswer.{KeyAnswer}
use Rattle.dita_doc.specs.declared.plan.PlanNode.{PlanNode}
use Rattle.dita_doc.specs.declared.stop.NoMemory.{NoMemory}
use Rattle.map_spec.specs.Cascade.{whole_at}
use Rattle.map_spec.specs.Keys.{key_answer}
use Rattle.map_spec.specs.Pages.{local_name}
use Rattle.map_spec.specs.Written.{Whole}
use Rattle.plan_nodes.specs.Carried.{CarryScopes, CarryValues}
use Rattle.reader_spec.specs.World.{World}
use Rattle.readers.specs.Founded.{AreAllowed, Grows, StaysFounded}
use Rattle.readers.specs.Told.{Told, Agrees, Knows}
use Rattle.readers.proofs.FoundedLaws.{stays_among}
use Rattle.readers.proofs.GrowthLaws.{agrees_before}
use Rattle.key_layer.specs.Answers.{IsAnswer, answer_set}
use Rattle.key_layer.specs.Ready.{AreReady}

-- a call about no document
pub stays_none : (names : List (List ℕ)) (old new : List Told) → StaysFounded [] old new → StaysFounded names old new
stays_none names old new = stays_among [] names old new (λ m here. absurd (false≢true here))

-- what a call gives for a key in each world that agrees, in which what is known of the nodes holds
abbrev Gives : List Told → List PlanNode → List (Option Whole) → (World → List PlanNode → Type 0) → ℕ → List ℕ
    → Result KeyAnswer NoMemory → Type 0
Gives told nodes homes IsTable scope key result = (world : World) → Agrees world told
    → homes ≡ map (whole_at world) nodes → IsTable world nodes → CarryValues world nodes → CarryScopes nodes
    → IfOk result (λ answer. answer ≡ key_answer world nodes scope key)

-- by what is known of the nodes it is the answer to the key
pub answered : (start told : List Told) (slice nodes : List PlanNode) (homes : List (Option Whole))
    (IsTable : World → List PlanNode → Type 0) (scope : ℕ) (name key : List ℕ) (result : Result KeyAnswer NoMemory)
    → slice ≡ nodes → name ≡ key → Grows start told → AreReady start nodes homes
    → Knows start (λ world. ∥ IsTable world nodes ∥₁) → Gives told slice homes IsTable scope name result
    → ((roots : List (List ℕ)) → IfOk result (λ answer. AreAllowed roots told
    (option_to_list (local_name answer.target))))
    → IfOk result (IsAnswer told nodes (record { scope = scope; key = key }))
answered start told slice nodes homes IsTable scope name key result same same_key grows ready tabled gives given =
    right result (subst (λ k. Gives told nodes homes IsTable scope k result) same_key
    (subst (λ ns. Gives told ns homes IsTable scope name result) same gives)) given
  where
    right : (result : Result KeyAnswer NoMemory) → Gives told nodes homes IsTable scope key result
        → ((roots : List (List ℕ)) → IfOk result (λ answer. AreAllowed roots told
        (option_to_list (local_name answer.target))))
        → IfOk result (IsAnswer told nodes (record { scope = scope; key = key }))
    right (Err stop) gives given = tt
    right (Ok answer) gives given = record {
      known = λ world agrees. let before = agrees_before world start told grows agrees in
          ∥∥₁_elim (tabled world before) (answer_set _ _) (λ is. sym
          (gives world agrees (ready.elements world before) is (ready.values world before) ready.scopes));
      given = given;
    }
