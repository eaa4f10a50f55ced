-- What a reader aside answers for a key is so in the world on which it stands.
use Rattle.std.proofs.Common.{◌≡◌, ℕ, List, Option, Result, Ok, Err, IfOk, map, sym, subst}
use Rattle.std.proofs.Math.Logic.{∥∥₁_elim}
use Rattle.std.specs.Coded.{Coded, Coded-set, codes}
use Rattle.dita_doc.specs.declared.content.KeyAnswer.{KeyAnswer}
use Rattle.dita_doc.specs.declared.plan.PlanNode.{PlanNode}
use Rattle.dita_doc.specs.declared.stop.NoMemory.{NoMemory}
use Rattle.key_scopes.specs.Made.{IsTableOf}
use Rattle.key_scopes.specs.Table.{Table}
use Rattle.map_spec.specs.Cascade.{whole_at}
use Rattle.map_spec.specs.Keys.{key_answer}
use Rattle.map_spec.specs.Written.{Whole}
use Rattle.plan_nodes.specs.Carried.{CarryScopes, CarryValues}
use Rattle.plan_reader.specs.Keyed.{AreKeyed}
use Rattle.reader_spec.specs.World.{World}
use Rattle.readers.specs.Told.{Told, Agrees}

answer_code : Coded KeyAnswer
answer_code = hlevel codes

-- what a call gives for a key in each world that agrees, in which what is known of the nodes holds
abbrev Gives : List Told → List PlanNode → List (Option Whole) → Table → ℕ → List ℕ → Result KeyAnswer NoMemory → Type 0
Gives told nodes homes table scope key result = (world : World) → Agrees world told
    → homes ≡ map (whole_at world) nodes → IsTableOf world nodes table → CarryValues world nodes → CarryScopes nodes
    → IfOk result (λ answer. answer ≡ key_answer world nodes scope key)

-- by what is known of the nodes it is the answer to the key
pub answered : (world after : World) (told : List Told) (slice nodes : List PlanNode) (homes : List (Option Whole))
    (table : Table) (scope : ℕ) (name key : List ℕ) (result : Result KeyAnswer NoMemory) → after ≡ world → slice ≡ nodes
    → name ≡ key → AreKeyed world nodes homes table → Agrees after told
    → Gives told slice homes table scope name result
    → IfOk result (λ answer. key_answer world nodes scope key ≡ answer)
answered world after told slice nodes homes table scope name key result stood same same_key keyed agrees gives =
    right result (subst (λ k. Gives told nodes homes table scope k result) same_key
    (subst (λ ns. Gives told ns homes table scope name result) same gives))
  where
    right : (result : Result KeyAnswer NoMemory) → Gives told nodes homes table scope key result
        → IfOk result (λ answer. key_answer world nodes scope key ≡ answer)
    right (Err stop) gives = tt
    right (Ok answer) gives = ∥∥₁_elim keyed.tabled (Coded-set answer_code _ _) (λ is. sym
        (gives world (subst (λ w. Agrees w told) stood agrees) keyed.elements is keyed.values keyed.scopes))
