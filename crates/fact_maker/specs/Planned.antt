-- The plan of a map with all that was asked for it (own): the answers alone fix it, the sources give them, and the
-- questions are founded, and ask for no document as a whole but those that a plan may ask for.
use Rattle.std.specs.Prelude.{◌≡◌, ℕ, List, [], Option}
use Rattle.build_plan.specs.Documents.{build_names}
use Rattle.dita_doc.specs.Desk.{State}
use Rattle.fact_judge.specs.Agreed.{PlanAnswers, plan_agrees}
use Rattle.fact_judge.specs.Asks.{AskNoKey, PlanAsks}
use Rattle.fact_judge.specs.Founded.{names_in_question, names_of_answer}
use Rattle.fact_judge.specs.Order.{InOrder}
use Rattle.facts.specs.declared.fact.PlanFact.{PlanFact}
use Rattle.map_spec.specs.PlanOf.{limits, plan_of}
use Rattle.reader_spec.specs.World.{World}

pub record IsPlanned (sources : State) (map : List ℕ) (val : Option (List ℕ)) (plan : PlanFact) : Type 0 where
  pub fixed : (world : World) → PlanAnswers plan world → plan_of limits world map val ≡ plan.value
  pub agrees : plan_agrees plan sources
  pub founded : InOrder (names_in_question []) names_of_answer (build_names map val) plan.asked
  pub asks : PlanAsks (build_names map val) plan
  pub no_key : AskNoKey plan.asked
