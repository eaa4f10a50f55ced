-- Why there is no map under a name.
use Rattle.std.specs.Prelude.{Option, Some, None}
use Rattle.dita_doc.specs.declared.plan.PlanStop.{PlanStop}
use Rattle.dita_doc.specs.declared.plan.PlanStop.TheVariants as stops
use Rattle.map_spec.specs.Written.{Whole}

-- by the root of what is stored there, which is no map
abbrev pub why_none : Option Whole → PlanStop
why_none None = stops.NoMap
why_none (Some root) = stops.NotMap
