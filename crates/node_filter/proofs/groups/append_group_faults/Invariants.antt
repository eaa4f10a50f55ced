use Rattle.std.proofs.Common.{◌≡◌, ◌++◌, drop, filter, map}
use Rattle.dita_doc.specs.declared.doc.Attribute.{Attribute}
use Rattle.dita_doc.specs.declared.fault.FaultCode.TheVariants as fault_codes
use Rattle.doc_elements.specs.Walk.{element_of}
use Rattle.map_spec.specs.Elements.{fault_at}
use Rattle.map_spec.specs.Judged.{group_faults, has_groups}
use Rattle.node_filter.proofs.groups.append_group_faults.Given as goal

abbrev pub invariant-loop-attribute : goal.invariant-loop-attribute
invariant-loop-attribute l = l.faults
    ++ map (λ (written : Attribute). fault_at (element_of l.name l.element) fault_codes.GroupValue written.name)
    (filter (has_groups l.declared) (drop l.attribute-index l.attribute-items))
    ≡ l.fn.faults ++ group_faults l.declared (element_of l.name l.element)
