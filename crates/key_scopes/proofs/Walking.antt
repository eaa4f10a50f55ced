-- What closes most claims of a call that asks for the documents of nodes.
use Rattle.std.proofs.Common.{◌≡◌, List, OnOk, Result, subst}
use Rattle.dita_doc.specs.declared.plan.PlanNode.{PlanNode}
use Rattle.readers.specs.Founded.{homes}
use Rattle.readers.specs.Only.{TellsOnly, is_document_of}
use Rattle.readers.specs.Told.{Told}
use Rattle.readers.proofs.DocumentLaws.{asking}
use Rattle.readers.proofs.FoundedLaws.{founding}
use Rattle.readers.proofs.GrowthLaws.{growing}
use Rattle.readers.proofs.OnlyLaws.{telling}

-- the documents of the same nodes are asked for
pub same_nodes : {A E : Type 0} (r : Result A E) (nodes all : List PlanNode) (old new : List Told) → nodes ≡ all
    → OnOk r (TellsOnly (is_document_of (homes nodes)) old new) → OnOk r (TellsOnly (is_document_of (homes all)) old new)
same_nodes r nodes all old new same =
    subst (λ (l : List PlanNode). OnOk r (TellsOnly (is_document_of (homes l)) old new)) same

pub ruleset walking = (growing, founding, asking, telling)
