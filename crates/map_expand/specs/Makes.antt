-- What an element of a map makes, by the types that it has.
use Rattle.std.specs.Prelude.{◌==◌, ℕ, not, List, Option, Some, None, length, codes, bytes_eq, if◌then◌else◌}
use Rattle.std.specs.List.{list_any}
use Rattle.dita_doc.specs.declared.plan.PlanKind.{PlanKind}
use Rattle.dita_doc.specs.declared.plan.PlanKind.TheVariants as kinds
use Rattle.map_spec.specs.Elements.{is_transparent}
use Rattle.map_spec.specs.Included.{kind_of}
use Rattle.map_spec.specs.Written.{Element}
use Rattle.map_expand.specs.declared.element.MapTypes.{MapTypes}
use Rattle.map_expand.specs.declared.element.Makes.{Makes}
use Rattle.map_expand.specs.declared.element.Makes.TheVariants as makes

-- the types of maps among the tokens of an element, and whether there are any tokens
abbrev pub types_among : List (List ℕ) → MapTypes
types_among words = record {
  any = not (length words == 0);
  ditavalref = list_any (bytes_eq (codes "ditavalref-d/ditavalref")) words;
  topicref = list_any (bytes_eq (codes "map/topicref")) words;
  reltable = list_any (bytes_eq (codes "map/reltable")) words;
  relrow = list_any (bytes_eq (codes "map/relrow")) words;
  relcell = list_any (bytes_eq (codes "map/relcell")) words;
}

-- the kind of node that an element of these types makes
abbrev pub kind_by : MapTypes → Option PlanKind
kind_by types =
    if types.ditavalref then Some kinds.DitavalRef
    else if types.topicref then Some kinds.Reference
    else if types.reltable then Some kinds.RelTable
    else if types.relrow then Some kinds.RelRow
    else if types.relcell then Some kinds.RelCell
    else None

abbrev pub makes_kind : Option PlanKind → Makes
makes_kind None = makes.Nothing
makes_kind (Some kind) = makes.Node kind

-- what an element makes
abbrev pub made : Element → Makes
made element = if is_transparent element then makes.Content else makes_kind (kind_of element)
