use Rattle.std.proofs.Common.{ap}
use Rattle.wax.proofs.walk_filter.WalkFilter.not.Goals as goal

pub returns : goal.returns
returns g c = let left = c.in_ok-exclusion.ensures in (left.0, left.1, λ c. ap (λ rule. rule c) left.2)
