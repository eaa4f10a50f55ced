use Rattle.std.proofs.Common.{◌+◌, ◌*◌}
use Rattle.lock_examples.proofs.rush.+sessions.Given as goal

-- each session leaves one less

abbrev pub decreases-hold_all : goal.decreases-hold_all
decreases-hold_all g l = 2 * l.count

abbrev pub decreases-others : goal.decreases-others
decreases-others g l = 2 * l.left + 1
