-- When facts agree (own): each question of the plan has its recorded answer, and so has each question of the fact's
-- own, where those about a plan are put for the plan of the fact. While a plan is made, there is none.
use Rattle.std.specs.Prelude.{None}
use Rattle.std.specs.Arc.{arc_value}
use Rattle.dita_doc.specs.Desk.{State}
use Rattle.fact_judge.specs.Answer.{AreAnswers, setting_by}
use Rattle.facts.specs.declared.fact.Fact.{Fact}
use Rattle.facts.specs.declared.fact.PlanFact.{PlanFact}
use Rattle.reader_spec.specs.World.{World, world_of}

-- In a world

abbrev pub PlanAnswers : PlanFact → World → Type 0
PlanAnswers plan world = AreAnswers world None plan.asked

abbrev pub OwnAnswers : Fact → World → Type 0
OwnAnswers fact world = AreAnswers world (setting_by (arc_value fact.plan).value) fact.asked

-- Over sources

abbrev pub plan_agrees : PlanFact → State → Type 0
plan_agrees plan sources = PlanAnswers plan (world_of sources)

abbrev pub own_agrees : Fact → State → Type 0
own_agrees fact sources = OwnAnswers fact (world_of sources)
