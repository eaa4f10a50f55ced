use Rattle.transcript_text.proofs.FaultLaws.{back_lacks, code_alone, code_not_known, code_by}
use Rattle.transcript_text.proofs.below.is_code_text.Goals as goal

pub is_detail-requires : goal.is_detail-requires
is_detail-requires c = back_lacks 10 _ _ _ c.in-Some.ensures c.requires

pub returns-then-is_fault_code : goal.returns-then-is_fault_code
returns-then-is_fault_code c =
    code_by _ _ _ c.is_detail.result c.in-Some.ensures c.if-is_fault_code.ensures c.is_detail.ensures

pub returns-else-is_fault_code : goal.returns-else-is_fault_code
returns-else-is_fault_code c =
    rw c.if-is_fault_code.false (code_not_known _ _ _ c.in-Some.ensures c.if-is_fault_code.ensures)

pub returns-in-None : goal.returns-in-None
returns-in-None c = code_alone _ _ c.in-None.ensures c.is_fault_code-in-None.ensures
