-- The order of keys (own).
use Rattle.std.specs.Cmp.Lexicographic.{slice_cmp}
use Rattle.std.specs.Option.{option_cmp}
use Rattle.std.specs.Ordering.{nat_cmp, ordering_then}
use Rattle.std.specs.declared.cmp.Ordering.{Ordering}
use Rattle.dita_doc.specs.contracts.fact.PartOrd.TheImpl as part_ord
use Rattle.dita_doc.specs.declared.fact.FactKey.{FactKey}
use Rattle.dita_doc.specs.declared.fact.Part.{Part}

-- parts in the order in which their kinds are declared, and pages by their index
abbrev pub part_order : Part → Part → Ordering
part_order = (part_ord.ghosts).cmp

abbrev pub order : FactKey → FactKey → Ordering
order a b = ordering_then (part_order a.part b.part)
    (ordering_then (slice_cmp nat_cmp a.map b.map) (option_cmp (slice_cmp nat_cmp) a.val b.val))
