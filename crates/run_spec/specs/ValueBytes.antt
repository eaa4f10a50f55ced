-- How many pages the plan of a build has, and how many bytes the value of each of its parts has (own): of a page or of
-- the contents page its own bytes, of a plan 256 for each of its nodes and for each of its pages. A build without a
-- plan has one part, whose value has none.
use Rattle.std.specs.Prelude.{◌+◌, ◌*◌, ℕ, List, Option, Some, None, Result, Ok, Err, length}
use Rattle.dita_doc.specs.Desk.{State}
use Rattle.dita_doc.specs.declared.fact.FactKey.{FactKey}
use Rattle.dita_doc.specs.declared.fact.Html.{Html}
use Rattle.dita_doc.specs.declared.fact.Part.{Part}
use Rattle.dita_doc.specs.declared.fact.Part.TheVariants as parts
use Rattle.dita_doc.specs.declared.plan.Plan.{Plan}
use Rattle.dita_doc.specs.declared.plan.PlanStop.{PlanStop}
use Rattle.map_spec.specs.PlanOf.{limits, plan_of}
use Rattle.part_spec.specs.Parts.{contents_part, page_part, rooms}
use Rattle.reader_spec.specs.World.{World, world_of}

abbrev pub pages_in : Result Plan PlanStop → Option ℕ
pages_in (Ok plan) = Some (length plan.pages)
pages_in (Err stop) = None

abbrev pub page_count : State → List ℕ → Option (List ℕ) → Option ℕ
page_count state root val = pages_in (plan_of limits (world_of state) root val)

abbrev pub plan_bytes : Plan → ℕ
plan_bytes plan = 256 * (length plan.nodes + length plan.pages)

abbrev pub html_bytes : Html → ℕ
html_bytes html = length html.bytes

abbrev pub value_with : World → Option (List ℕ) → Part → Result Plan PlanStop → ℕ
value_with world val part (Err stop) = 0
value_with world val parts.Plan (Ok plan) = plan_bytes plan
value_with world val (parts.Page index) (Ok plan) = html_bytes (page_part rooms world plan val index)
value_with world val parts.Contents (Ok plan) = html_bytes (contents_part world plan)

abbrev pub value_bytes : State → FactKey → ℕ
value_bytes state key =
    value_with (world_of state) key.val key.part (plan_of limits (world_of state) key.map key.val)
