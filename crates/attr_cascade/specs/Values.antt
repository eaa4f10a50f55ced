-- The values of a node one after the other (own): those of which the nearest counts, then those with tokens.
use Rattle.std.specs.Prelude.{ℕ, Bool, false, List, Option, map, slice_get, unwrap_or}
use Rattle.std.specs.Option.{option_to_list}
use Rattle.dita_doc.specs.declared.doc.Attribute.{Attribute}
use Rattle.dita_doc.specs.declared.plan.PlanNode.{PlanNode}
use Rattle.map_spec.specs.Cascade.{cascaded_value, nearest_names}
use Rattle.reader_spec.specs.World.{World}

abbrev pub nearest_on : World → List PlanNode → List Attribute
nearest_on world nodes = map (λ name. record { name = name; value = cascaded_value world name nodes }) nearest_names

abbrev pub put_if : Option Attribute → List Attribute
put_if value = option_to_list value

abbrev pub told_at : List Bool → ℕ → Bool
told_at inside at = unwrap_or (slice_get inside at) false
