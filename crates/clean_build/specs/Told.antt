-- What the readers of a plan's parts are made for (own), and what they tell.
use Rattle.std.specs.Prelude.{List, []}
use Rattle.dita_doc.specs.declared.plan.Plan.{Plan}
use Rattle.readers.specs.Noted.{told_onto}
use Rattle.readers.specs.Setting.{Setting}
use Rattle.readers.specs.Told.{Told}
use Rattle.readers.specs.declared.questions.Note.{Note}

abbrev pub made_for : Plan → Setting
made_for plan = record { nodes = plan.nodes; documents = plan.documents; pages = plan.pages }

-- the notes of a reader that was made for this plan
abbrev pub told_by_plan : Plan → List Note → List Told
told_by_plan plan asked = told_onto (made_for plan) [] asked
