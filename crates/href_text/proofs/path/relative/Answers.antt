use Rattle.std.proofs.Common.{append_assoc}
use Rattle.href_text.proofs.JoinedLaws.{relative_cut, relative_uncut}
use Rattle.href_text.proofs.path.relative.Goals as goal

pub loop-more-preserved : goal.loop-more-preserved
loop-more-preserved c =
    rw (c.in_ok-append.ensures, append_assoc, ← relative_cut _ _ _ c.args.to.now c.in-Some.ensures)
    c.loop-more.invariant

pub returns : goal.returns
returns c = rw (c.in_ok-append-2.ensures, c.as_str.ensures.value)
    (rw (relative_uncut c.loop-more.rest.now c.args.to.now c.in_default.ensures) at c.loop-more.invariant)
