use Rattle.std.proofs.Common.{[], ◌∙◌, sym, append-nil}
use Rattle.transcript_text.proofs.LineLaws.{lines_cut, rest_line, some_left, one_told}
use Rattle.transcript_text.proofs.lines.append_lines.Goals as goal

pub loop-front-preserved : goal.loop-front-preserved
loop-front-preserved c =
    one_told c.loop-front.out c.append_line.new.out c.in-Some.front.now c.loop-front.rest.now _
    (lines_cut _ _ _ c.in-Some.ensures) c.in_ok-append_line.ensures
    ∙ c.loop-front.invariant

pub returns-in_ok-append_line-2 : goal.returns-in_ok-append_line-2
returns-in_ok-append_line-2 c =
    let some = some_left c.loop-front.rest.now c.if-not-is_empty.ensures in
    sym (append-nil _)
    ∙ one_told c.loop-front.out _ c.loop-front.rest.now c.loop-front.rest.now []
    (rest_line _ c.in_default.ensures some) c.in_ok-append_line-2.ensures
    ∙ c.loop-front.invariant
