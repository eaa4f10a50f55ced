-- A part that is right over sources has as many bytes as the language says of its key.
use Rattle.std.specs.Prelude.{◌≡◌, ℕ, List, Option, Some, None, Result, Ok, Err, length}
use Rattle.std.specs.Arc.{arc_value}
use Rattle.std.specs.declared.alloc.Global.{Global}
use Rattle.std.specs.declared.sync.Arc.{Arc}
use Rattle.std.proofs.Common.{refl, sym, ap, ◌∙◌}
use Rattle.dita_doc.specs.Desk.{State}
use Rattle.dita_doc.specs.declared.fact.Html.{Html}
use Rattle.dita_doc.specs.declared.fact.Part.{Part}
use Rattle.dita_doc.specs.declared.fact.Part.TheVariants as parts
use Rattle.dita_doc.specs.declared.plan.Plan.{Plan}
use Rattle.dita_doc.specs.declared.plan.PlanStop.{PlanStop}
use Rattle.fact_judge.specs.Agreed.{own_agrees, plan_agrees}
use Rattle.fact_judge.specs.Sound.{IsPartOf, IsSound}
use Rattle.facts.specs.Latest.{Agrees}
use Rattle.facts.specs.Table.{bytes_of_part, html_bytes, plan_bytes, value_bytes}
use Rattle.facts.specs.declared.fact.Fact.{Fact}
use Rattle.reader_spec.specs.World.{World, world_of}
use Rattle.run_spec.specs.Language.{dita}
use Rattle.run_spec.specs.ValueBytes.{value_with}

-- the bytes of a value by the plan and the HTML alone
abbrev part_bytes : Part → Result Plan PlanStop → Option (Arc Html Global) → ℕ
part_bytes parts.Plan plan html = plan_bytes plan
part_bytes (parts.Page index) plan html = html_bytes html
part_bytes parts.Contents plan html = html_bytes html

bytes_by : (part : Part) (fact : Fact) → bytes_of_part part fact ≡ part_bytes part (arc_value fact.plan).value fact.html
bytes_by parts.Plan fact = refl
bytes_by (parts.Page index) fact = refl
bytes_by parts.Contents fact = refl

counts_of : (part : Part) (plan : Result Plan PlanStop) (val : Option (List ℕ)) (html : Option (Arc Html Global))
    (world : World) → IsPartOf part plan val html world → part_bytes part plan html ≡ value_with world val part plan
counts_of parts.Plan (Ok plan) val html world is = refl
counts_of parts.Plan (Err stop) val html world is = refl
counts_of (parts.Page index) (Ok plan) val (Some html) world is = ap (λ (page : Html). length page.bytes) is.made
counts_of (parts.Page index) (Ok plan) val None world is = absurd is
counts_of (parts.Page index) (Err stop) val (Some html) world is = absurd is
counts_of (parts.Page index) (Err stop) val None world is = absurd is
counts_of parts.Contents (Ok plan) val (Some html) world is = ap (λ (page : Html). length page.bytes) is
counts_of parts.Contents (Ok plan) val None world is = absurd is
counts_of parts.Contents (Err stop) val (Some html) world is = absurd is
counts_of parts.Contents (Err stop) val None world is = absurd is

pub counts : (state : State) (fact : Fact) → IsSound fact → Agrees plan_agrees own_agrees fact state
    → value_bytes fact ≡ dita.value_bytes state fact.key
counts state fact sound agrees =
    bytes_by fact.key.part fact
    ∙ counts_of fact.key.part (arc_value fact.plan).value fact.key.val fact.html (world_of state)
    (sound.part (world_of state) agrees.plan agrees.own)
    ∙ ap (value_with (world_of state) fact.key.val fact.key.part) (sym (sound.plan (world_of state) agrees.plan))
