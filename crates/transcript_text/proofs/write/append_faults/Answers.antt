use Rattle.std.proofs.Common.{arith}
use Rattle.std.proofs.lemmas.Grind.{common_steps}
use Rattle.transcript_text.specs.Transcript.{IsFaultShown, fault_shown}
use Rattle.transcript_text.proofs.WrittenForm.{first_more, first_all}
use Rattle.transcript_text.proofs.write.append_faults.Goals as goal

pub loop-fault-preserved : goal.loop-fault-preserved
loop-fault-preserved c = record {
  text = grind (arith, common_steps);
  form = first_more IsFaultShown fault_shown c.args.faults.now c.loop-fault.fault-index c.fault-item.result
      (omega arith) c.fault-item.is c.loop-fault.invariant.form c.in_ok-append_fault.ensures.form;
}

pub returns-clause-form : goal.returns-clause-form
returns-clause-form c =
    first_all IsFaultShown fault_shown c.args.faults.now c.loop-fault.fault-index (omega arith)
    c.loop-fault.invariant.form
