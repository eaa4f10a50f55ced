-- A reader that passes questions on to the one below it, and asks for no other document (own).
use Rattle.std.specs.Prelude.{◌≡◌, ℕ, List, [], IsTrue}
use Rattle.std.proofs.Props.{props}
use Rattle.dita_doc.specs.declared.content.KeyAnswer.{KeyAnswer}
use Rattle.dita_doc.specs.declared.plan.PlanNode.{PlanNode}
use Rattle.readers.specs.Documents.{AskedBy, Follows, may_ask}
use Rattle.readers.specs.Props.{AskedBy-prop}
use Rattle.readers.specs.Told.{Told, key, pending_document, pending}

-- by the rule nothing follows from a key, nor from a question without an answer
pub record FollowsNoKey (rule : Follows) : Type 0 where
  pub keys : (nodes : List PlanNode) (scope : ℕ) (text : List ℕ) (answer : KeyAnswer)
      → rule (key nodes scope text answer) ≡ []
  pub tried : (names : List (List ℕ)) → rule (pending names) ≡ []
  pub sought : (name : List ℕ) → rule (pending_document name) ≡ []

-- by such rules, what may be asked for above may be below, and if all that was asked for above might be, so might all
-- below
pub record PassesOn (below above : List Told) : Type 0 where
  pub may : (rule : Follows) (roots : List (List ℕ)) (m : List ℕ) → FollowsNoKey rule
      → IsTrue (may_ask rule roots above m) → IsTrue (may_ask rule roots below m)
  pub asked : (rule : Follows) (roots : List (List ℕ)) → FollowsNoKey rule → AskedBy rule roots above
      → AskedBy rule roots below

pub PassesOn-prop : (below above : List Told) → IsProp (PassesOn below above)
PassesOn-prop below above = hlevel (props, AskedBy-prop)
