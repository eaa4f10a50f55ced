use Rattle.std.proofs.Common.{◌∙◌, ap, sym}
use Rattle.std.specs.Option.{option_copied}
use Rattle.reltable_links.proofs.FaultLaws.{no_node, put_fault}
use Rattle.reltable_links.proofs.faults.append_fault.Goals as goal

pub returns-in_default-node_at : goal.returns-in_default-node_at
returns-in_default-node_at c =
    no_node c.args.plan.now c.args.at c.in-Some.name.now c.args.faults.now c.in-Some.ensures
    (sym (ap option_copied c.in_default-node_at.is) ∙ c.node_at.ensures)

pub returns : goal.returns
returns c =
    put_fault c.args.plan.now c.args.at c.in-Some.name.now c.as_str.result.now c.in-Some-node_at.node.now
    c.in_ok-fault_of.field-0 c.args.faults.now c.push.new.self c.in-Some.ensures c.in-Some-node_at.ensures
    c.as_str.ensures.value c.in_ok-fault_of.ensures c.in_ok-push.ensures
