use Rattle.std.proofs.Common.{length, arith, ap}
use Rattle.transcript_text.proofs.LineLaws.{lines_cut, back_shorter, rest_line, some_left}
use Rattle.transcript_text.proofs.lines.count_lines.Goals as goal

pub loop-back-preserved : goal.loop-back-preserved
loop-back-preserved c =
    let cut = c.in-Some.ensures in
    record {
      counted = let same = ap length (lines_cut _ _ _ cut) in omega arith;
      within = let less = back_shorter _ _ _ cut in omega arith;
    }

pub returns-else-is_empty : goal.returns-else-is_empty
returns-else-is_empty c =
    let some = some_left c.loop-back.rest.now (c.if-is_empty.ensures) in
    let same = ap length (rest_line c.loop-back.rest.now c.in_default.ensures some) in omega arith
