-- What a reader stands on (own): its world, what it was made for, and the names of the references by which it reaches
-- the reader below it.
use Rattle.std.specs.Prelude.{ℕ, List, [], None}
use Rattle.std.specs.Borrow.{GName}
use Rattle.dita_doc.specs.declared.plan.PagePlan.{PagePlan}
use Rattle.dita_doc.specs.declared.plan.PlanNode.{PlanNode}
use Rattle.reader_spec.specs.World.{World}

-- what a reader was made for: the nodes of a map, the documents of a plan that push, and the pages of a plan
pub record Setting : Type 0 where
  pub nodes : List PlanNode
  pub documents : List (List ℕ)
  pub pages : List PagePlan

pub record Stand : Type 0 where
  pub world : World
  pub setting : Setting
  pub lent : List GName

-- made for nothing
abbrev pub no_setting : Setting
no_setting = record { nodes = []; documents = []; pages = [] }

abbrev pub no_stand : Stand
no_stand = record { world = λ name. None; setting = no_setting; lent = [] }
