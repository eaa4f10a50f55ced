use Rattle.std.proofs.Common.{◌+◌, ◌*◌}
use Rattle.desk_bench.proofs.crowd.+workers.Given as goal

-- each worker leaves one less

abbrev pub decreases-work_all : goal.decreases-work_all
decreases-work_all g l = 2 * l.count

abbrev pub decreases-others : goal.decreases-others
decreases-others g l = 2 * l.left + 1
