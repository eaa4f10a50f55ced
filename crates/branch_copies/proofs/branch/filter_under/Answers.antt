use Rattle.std.proofs.Common.{ap, ◌∙◌}
use Rattle.dita_doc.specs.declared.fault.FaultCode.TheVariants as codes_of_faults
use Rattle.doc_elements.specs.Walk.{element_of}
use Rattle.map_spec.specs.Elements.{fault_at}
use Rattle.branch_copies.proofs.BranchLaws.{filter_found, filter_missing}
use Rattle.branch_copies.proofs.branch.filter_under.Goals as goal

pub returns-in-Some-clause-known : goal.returns-in-Some-clause-known
returns-in-Some-clause-known g c = λ world agrees known.
    filter_found world c.args.ditavals.now.read.items c.find.new.self.read.items c.find.new.self.known.entries
    c.args.faults.now c.append_faults.new.faults (element_of c.args.name.now c.args.element.now) c.args.val
    c.in-Some.ditaval c.in_ok-ditaval.field-0 c.in-Some.is c.in_ok-append_faults.ensures
    (c.in_ok-ditaval.ensures.known world agrees known)

pub returns-clause-known : goal.returns-clause-known
returns-clause-known g c = λ world agrees known.
    filter_missing world c.args.ditavals.now.read.items c.find.new.self.read.items c.find.new.self.known.entries
    c.args.faults.now c.push.new.self (element_of c.args.name.now c.args.element.now) c.args.val
    c.in_ok-ditaval.field-0 c.in_ok-fault_at.field-0 c.in_default.is
    (c.in_ok-fault_at.ensures
    ∙ ap (fault_at (element_of c.args.name.now c.args.element.now) codes_of_faults.DitavalMissing) c.as_str.ensures.value)
    c.in_ok-push.ensures (c.in_ok-ditaval.ensures.known world agrees known)
