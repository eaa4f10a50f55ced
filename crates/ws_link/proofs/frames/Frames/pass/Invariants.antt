use Rattle.std.proofs.Common.{length}
use Rattle.ws_link.proofs.frames.Frames.pass.Given as goal

abbrev pub decreases-loop-rest : goal.decreases-loop-rest
decreases-loop-rest l = length l.rest
