-- What is made of a plan for a page or for the contents page (own): in each world that gives the answers of the plan and
-- the own ones, the HTML is that of the part; the sources give the own answers; and the own questions are founded, and
-- ask for no document as a whole but those that the part may ask for.
use Rattle.std.specs.Prelude.{◌≡◌, ◌++◌, ◌⊎◌, ℕ, List, All, Option, Result, Ok}
use Rattle.build_plan.specs.Documents.{build_names}
use Rattle.dita_doc.specs.Desk.{State}
use Rattle.dita_doc.specs.declared.fact.Html.{Html}
use Rattle.dita_doc.specs.declared.fact.Part.{Part}
use Rattle.dita_doc.specs.declared.fact.Part.TheVariants as parts
use Rattle.dita_doc.specs.declared.plan.Plan.{Plan}
use Rattle.dita_doc.specs.declared.plan.PlanStop.{PlanStop}
use Rattle.dita_doc.specs.declared.question.Asked.{Asked}
use Rattle.fact_judge.specs.Agreed.{PlanAnswers}
use Rattle.fact_judge.specs.Answer.{AreAnswers, setting_by}
use Rattle.fact_judge.specs.Asks.{AskNoKey, ContentsAsks, IsPageDocumentAt, IsPlanned, whole_documents}
use Rattle.fact_judge.specs.Founded.{names_in_question, names_of_answer, plan_documents}
use Rattle.fact_judge.specs.Order.{InOrder, given_by}
use Rattle.fact_judge.specs.Sound.{IsPage}
use Rattle.facts.specs.declared.fact.PlanFact.{PlanFact}
use Rattle.part_spec.specs.Parts.{contents_part}
use Rattle.reader_spec.specs.World.{World, world_of}

-- a plan with its questions
abbrev pub with_plan : List Asked → Plan → PlanFact
with_plan asked plan = record { asked = asked; value = Ok plan }

-- the HTML is that of this part of the plan
abbrev pub IsHtmlOf : Part → Result Plan PlanStop → Option (List ℕ) → Html → World → Type 0
IsHtmlOf (parts.Page index) (Ok plan) val html world = IsPage plan val index html world
IsHtmlOf parts.Contents (Ok plan) val html world = html ≡ contents_part world plan
IsHtmlOf _ plan val html world = ⊥

-- a page asks for documents that its plan asks for, and for its own
pub record PageReads (plan : PlanFact) (val : Option (List ℕ)) (index : ℕ) (asked : List Asked) : Type 0 where
  pub each : (world : World) → PlanAnswers plan world → AreAnswers world (setting_by plan.value) asked
      → All (λ name. ∥ IsPlanned plan name ⊎ IsPageDocumentAt world plan.value val index name ∥₁) (whole_documents asked)

abbrev pub HtmlAsks : Part → PlanFact → Option (List ℕ) → List Asked → Type 0
HtmlAsks (parts.Page index) plan val asked = PageReads plan val index asked
HtmlAsks parts.Contents plan val asked = ContentsAsks plan asked × AskNoKey asked
HtmlAsks parts.Plan plan val asked = ⊥

pub record IsRight (sources : State) (map : List ℕ) (val : Option (List ℕ)) (plan : PlanFact) (part : Part) (html : Html)
    (asked : List Asked) : Type 0 where
  pub made : (world : World) → PlanAnswers plan world → AreAnswers world (setting_by plan.value) asked
      → IsHtmlOf part plan.value val html world
  pub agrees : AreAnswers (world_of sources) (setting_by plan.value) asked
  pub founded :
      InOrder (names_in_question (plan_documents plan.value)) names_of_answer
      (build_names map val ++ given_by names_of_answer plan.asked) asked
  pub asks : HtmlAsks part plan val asked
