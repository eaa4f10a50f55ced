use Rattle.std.proofs.Common.{arith}
use Rattle.dita_doc.proofs.Utf8Laws.{boundary_after_first}
use Rattle.dita_doc.proofs.escapes.read_pyx_escape.Goals as goal

pub range_from-requires : goal.range_from-requires
range_from-requires c some =
    boundary_after_first 110 c.args.behind.now (omega arith) (cc c.in-Some-eq110.ensures.value) c.utf8.behind

pub range_from-requires-in-Some-eq116 : goal.range_from-requires-in-Some-eq116
range_from-requires-in-Some-eq116 c some =
    boundary_after_first 116 c.args.behind.now (omega arith) (cc c.in-Some-eq116.ensures.value) c.utf8.behind

pub range_from-requires-in-Some-eq92 : goal.range_from-requires-in-Some-eq92
range_from-requires-in-Some-eq92 c some =
    boundary_after_first 92 c.args.behind.now (omega arith) (cc c.in-Some-eq92.ensures.value) c.utf8.behind
