-- Sources that a build of a fact's map and DITAVAL can't tell apart, and facts that agree with sources as a whole (own).
use Rattle.std.specs.Prelude.{◌≡◌, ℕ, List}
use Rattle.std.specs.Arc.{arc_value}
use Rattle.dita_doc.specs.Desk.{State}
use Rattle.fact_judge.specs.Agreed.{own_agrees, plan_agrees}
use Rattle.facts.specs.declared.fact.Fact.{Fact}
use Rattle.reader_spec.specs.World.{world_of}
use Rattle.run_spec.specs.Reached.{IsReached}

-- under each name that the build reaches in the first sources the second have the same document, or none as well
pub record AreSameReached (fact : Fact) (first second : State) : Type 0 where
  pub each : (name : List ℕ) → IsReached (world_of first) fact.key.map fact.key.val name
      → world_of first name ≡ world_of second name

-- the recorded questions of the plan and of the fact's own have their answers
abbrev pub AgreesWith : Fact → State → Type 0
AgreesWith fact sources = plan_agrees (arc_value fact.plan) sources × own_agrees fact sources
