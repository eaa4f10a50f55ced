use Rattle.std.proofs.Common.{◌-◌}
use Rattle.conref_pull.proofs.resolver.Resolver.+follow.Given as goal

abbrev pub decreases-follow : goal.decreases-follow
decreases-follow g l = 32 - l.links
