use Rattle.transcript_text.proofs.FaultLaws.{back_lacks, fault_by, fault_not_placed}
use Rattle.transcript_text.proofs.below.is_fault_text.Goals as goal

pub is_code_text-requires : goal.is_code_text-requires
is_code_text-requires c = back_lacks 10 _ _ _ c.in-Some.ensures c.requires

pub returns-then-is_place : goal.returns-then-is_place
returns-then-is_place c =
    fault_by _ _ _ c.is_code_text.result c.in-Some.ensures c.if-is_place.ensures c.is_code_text.ensures

pub returns-else-is_place : goal.returns-else-is_place
returns-else-is_place c = rw c.if-is_place.false (fault_not_placed _ _ _ c.in-Some.ensures c.if-is_place.ensures)
