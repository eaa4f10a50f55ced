-- What a reader of the parts of a plan was made for, and what it was told (own).
use Rattle.std.specs.Prelude.{ℕ, List, []}
use Rattle.dita_doc.specs.declared.plan.PagePlan.{PagePlan}
use Rattle.dita_doc.specs.declared.plan.PlanNode.{PlanNode}
use Rattle.readers.specs.Noted.{told_onto}
use Rattle.readers.specs.Setting.{Setting}
use Rattle.readers.specs.Told.{Told}
use Rattle.readers.specs.declared.questions.Note.{Note}

abbrev pub made_for : List PlanNode → List (List ℕ) → List PagePlan → Setting
made_for nodes documents pages = record { nodes = nodes; documents = documents; pages = pages }

-- what the notes tell that such a reader keeps
abbrev pub told_for : List PlanNode → List (List ℕ) → List PagePlan → List Note → List Told
told_for nodes documents pages asked = told_onto (made_for nodes documents pages) [] asked
