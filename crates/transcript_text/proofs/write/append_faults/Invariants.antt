use Rattle.std.proofs.Common.{◌≡◌, ◌++◌, map, drop, take}
use Rattle.std.specs.List.{flat_map, All}
use Rattle.transcript_text.specs.Transcript.{IsFaultShown, bar_line, fault_line, fault_shown}
use Rattle.transcript_text.proofs.write.append_faults.Given as goal

abbrev pub invariant-loop-fault : goal.invariant-loop-fault
invariant-loop-fault l = record {
  text : l.out ++ flat_map bar_line (map fault_line (map fault_shown (drop l.fault-index l.faults)))
      ≡ l.fn.out ++ flat_map bar_line (map fault_line (map fault_shown l.faults));
  form : All (λ fault. IsFaultShown (fault_shown fault)) (take l.fault-index l.faults);
}
