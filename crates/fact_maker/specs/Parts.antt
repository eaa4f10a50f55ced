-- Which parts a build has (own): its plan and, if there is one, each page of the plan and the contents page.
use Rattle.std.specs.Prelude.{ℕ, Bool, true, false, Option, Some, None, Result, Ok, Err, length, nat_lt, is_ok}
use Rattle.std.specs.Arc.{arc_value}
use Rattle.dita_doc.specs.declared.fact.Part.{Part}
use Rattle.dita_doc.specs.declared.fact.Part.TheVariants as parts
use Rattle.dita_doc.specs.declared.plan.Plan.{Plan}
use Rattle.dita_doc.specs.declared.plan.PlanStop.{PlanStop}
use Rattle.facts.specs.declared.fact.Fact.{Fact}

abbrev pub has_page : Result Plan PlanStop → ℕ → Bool
has_page (Ok plan) index = nat_lt index (length plan.pages)
has_page (Err stop) index = false

abbrev pub has_part : Result Plan PlanStop → Part → Bool
has_part plan parts.Plan = true
has_part plan (parts.Page index) = has_page plan index
has_part plan parts.Contents = is_ok plan

-- which of them have HTML
abbrev pub has_html : Result Plan PlanStop → Part → Bool
has_html plan parts.Plan = false
has_html plan part = has_part plan part

-- the part is the plan, or the plan was made and has this part
abbrev pub is_planned : Part → Option Fact → Bool
is_planned parts.Plan planned = true
is_planned part None = false
is_planned part (Some fact) = has_part (arc_value fact.plan).value part
