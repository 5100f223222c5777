use Rattle.std.proofs.Common.{◌+◌, ◌*◌}
use Rattle.wax_lazy.proofs.cache.Cache.+follow.Given as goal

abbrev pub decreases-follow : goal.decreases-follow
decreases-follow l = 2 * l.depth

abbrev pub decreases-follow_known : goal.decreases-follow_known
decreases-follow_known l = 2 * l.depth + 1
