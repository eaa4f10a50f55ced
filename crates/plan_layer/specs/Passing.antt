-- A reader that tells what is pushed into documents, and passes all other questions on to the one below it (own): of
-- documents it asks for no other than those that are asked for above it, and those that pushes come from.
use Rattle.std.specs.Prelude.{◌≡◌, ℕ, List, [], Option, IsTrue}
use Rattle.std.proofs.Props.{props}
use Rattle.conref_push.specs.Into.{froms}
use Rattle.dita_doc.specs.declared.content.PushList.{PushList}
use Rattle.dita_doc.specs.declared.plan.Context.{Context}
use Rattle.dita_doc.specs.declared.plan.PagePlan.{PagePlan}
use Rattle.readers.specs.Documents.{AskedBy, Follows, may_ask}
use Rattle.readers.specs.Founded.{AreAmong, is_among}
use Rattle.readers.specs.Props.{AskedBy-prop}
use Rattle.readers.specs.Told.{Told, pushes, page_of, pending_document, pending}

-- by the rule no more follows from pushes than the documents that they come from, and nothing from a page, nor from a
-- question without an answer
pub record FollowsPlan (rule : Follows) : Type 0 where
  pub pushes : (documents : List (List ℕ)) (name : List ℕ) (answer : PushList) (m : List ℕ)
      → IsTrue (is_among (rule (pushes documents name answer)) m) → IsTrue (is_among (froms answer.pushes) m)
  pub pages : (pages : List PagePlan) (name : List ℕ) (context : Context) (answer : Option ℕ)
      → rule (page_of pages name context answer) ≡ []
  pub tried : (names : List (List ℕ)) → rule (pending names) ≡ []
  pub sought : (name : List ℕ) → rule (pending_document name) ≡ []

-- by such rules, where the documents of the plan are roots: what may be asked for above may be below, and if all that was
-- asked for above might be, so might all below
pub record PassesOn (documents : List (List ℕ)) (below above : List Told) : Type 0 where
  pub may : (rule : Follows) (roots : List (List ℕ)) (m : List ℕ) → FollowsPlan rule → AreAmong documents roots
      → IsTrue (may_ask rule roots above m) → IsTrue (may_ask rule roots below m)
  pub asked : (rule : Follows) (roots : List (List ℕ)) → FollowsPlan rule → AreAmong documents roots
      → AskedBy rule roots above → AskedBy rule roots below

pub PassesOn-prop : (documents : List (List ℕ)) (below above : List Told) → IsProp (PassesOn documents below above)
PassesOn-prop documents below above = hlevel (props, AskedBy-prop)
