-- What was told on a walk over nodes whose documents are asked for.
use Rattle.std.proofs.Common.{◌≡◌, ◌<◌, ℕ, zero, suc, List, [], ◌∷◌, IsTrue, length, get_or, sym, subst, arith}
use Rattle.dita_doc.specs.declared.plan.PlanNode.{PlanNode}
use Rattle.readers.specs.Documents.{AsksOnly, nothing}
use Rattle.readers.specs.Founded.{Grows, StaysFounded, homes, is_among}
use Rattle.readers.specs.Only.{TellsOnly, is_document_of}
use Rattle.readers.specs.Told.{Told}
use Rattle.readers.proofs.DocumentLaws.{asks_after, asks_one}
use Rattle.readers.proofs.FoundedLaws.{among_behind, among_first, stays_after, stays_one}
use Rattle.readers.proofs.OnlyLaws.{only_after, only_one}

-- the document of each node is among those of all
pub home_among : (nodes : List PlanNode) (at : ℕ) (node : PlanNode) → at < length nodes → node ≡ get_or nodes at node
    → IsTrue (is_among (homes nodes) node.doc)
home_among [] at node within is = absurd (omega arith)
home_among (first ∷ nodes) zero node within is =
    subst (λ (n : PlanNode). IsTrue (is_among (homes (first ∷ nodes)) n.doc)) (sym is) (among_first first.doc (homes nodes))
home_among (first ∷ nodes) (suc at) node within is =
    among_behind first.doc (homes nodes) node.doc (home_among nodes at node (omega arith) is)

-- the document of one node more is asked for, and nothing else
pub only_walking : (nodes : List PlanNode) (at : ℕ) (node : PlanNode) → at < length nodes
    → node ≡ get_or nodes at node → (start before now : List Told) → TellsOnly (is_document_of (homes nodes)) start before
    → TellsOnly (is_document_of (node.doc ∷ [])) before now → TellsOnly (is_document_of (homes nodes)) start now
only_walking nodes at node within is start before now only one = only_after _ start before now only
    (only_one node.doc (homes nodes) before now (home_among nodes at node within is) one)

-- the document of one node more is asked about
module _ (nodes : List PlanNode) (at : ℕ) (node : PlanNode) (within : at < length nodes)
    (is : node ≡ get_or nodes at node) (start before now : List Told) (grows : Grows start before) where
  pub stays_walking : StaysFounded (homes nodes) start before → StaysFounded (node.doc ∷ []) before now
      → StaysFounded (homes nodes) start now
  stays_walking founded one = stays_after (homes nodes) start before now grows founded
      (stays_one node.doc (homes nodes) before now (home_among nodes at node within is) one)

  pub asks_walking : AsksOnly nothing (homes nodes) start before → AsksOnly nothing (node.doc ∷ []) before now
      → AsksOnly nothing (homes nodes) start now
  asks_walking asks one = asks_after nothing (homes nodes) start before now grows asks
      (asks_one nothing node.doc (homes nodes) before now (home_among nodes at node within is) one)
