-- When a fact is sound (own): in every world that gives each of its questions the recorded answer the fact is the part
-- of its key; its questions are founded, and ask for no document as a whole but those that its part may ask for. The
-- questions of the plan alone fix the plan.
use Rattle.std.specs.Prelude.{◌≡◌, ◌<◌, ℕ, List, [], Option, Some, None, Result, Ok, length}
use Rattle.std.specs.Arc.{arc_value}
use Rattle.std.specs.declared.alloc.Global.{Global}
use Rattle.std.specs.declared.sync.Arc.{Arc}
use Rattle.dita_doc.specs.declared.fact.Html.{Html}
use Rattle.dita_doc.specs.declared.fact.Part.{Part}
use Rattle.dita_doc.specs.declared.fact.Part.TheVariants as parts
use Rattle.dita_doc.specs.declared.plan.Plan.{Plan}
use Rattle.dita_doc.specs.declared.plan.PlanStop.{PlanStop}
use Rattle.fact_judge.specs.Agreed.{OwnAnswers, PlanAnswers}
use Rattle.fact_judge.specs.Asks.{AsksAsItMay}
use Rattle.fact_judge.specs.Founded.{IsFoundedFact}
use Rattle.facts.specs.declared.fact.Fact.{Fact}
use Rattle.map_spec.specs.PlanOf.{limits, plan_of}
use Rattle.part_spec.specs.Parts.{contents_part, page_part, rooms}
use Rattle.reader_spec.specs.World.{World}

-- the plan of the fact's map and DITAVAL in the world is this one, or there is none for this reason
abbrev pub HasPlan : Fact → World → Type 0
HasPlan fact world = plan_of limits world fact.key.map fact.key.val ≡ (arc_value fact.plan).value

-- this is the page at an index of a plan
pub record IsPage (plan : Plan) (val : Option (List ℕ)) (index : ℕ) (html : Html) (world : World) : Type 0 where
  pub within : index < length plan.pages
  pub made : html ≡ page_part rooms world plan val index

-- this is the part of a plan; a build without a plan has no other part, and a part that is the plan has no HTML
abbrev pub IsPartOf : Part → Result Plan PlanStop → Option (List ℕ) → Option (Arc Html Global) → World → Type 0
IsPartOf parts.Plan plan val None world = Unit {0}
IsPartOf (parts.Page index) (Ok plan) val (Some html) world = IsPage plan val index (arc_value html) world
IsPartOf parts.Contents (Ok plan) val (Some html) world = arc_value html ≡ contents_part world plan
IsPartOf _ plan val html world = ⊥

abbrev pub IsPart : Fact → World → Type 0
IsPart fact world = IsPartOf fact.key.part (arc_value fact.plan).value fact.key.val fact.html world

-- a fact that is a plan has no questions of its own, and names no other row
abbrev pub RestsOnItself : Part → Fact → Type 0
RestsOnItself parts.Plan fact = (fact.asked ≡ []) × (fact.planned ≡ 0)
RestsOnItself _ fact = Unit {0}

pub record IsSound (fact : Fact) : Type 0 where
  pub rests : RestsOnItself fact.key.part fact
  pub plan : (world : World) → PlanAnswers (arc_value fact.plan) world → HasPlan fact world
  pub part : (world : World) → PlanAnswers (arc_value fact.plan) world → OwnAnswers fact world → IsPart fact world
  pub founded : IsFoundedFact fact
  pub asks : AsksAsItMay fact
