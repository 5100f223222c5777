use Rattle.std.proofs.Common.{ap}
use Rattle.wax_tree.specs.Begins.{behavior_range}
use Rattle.wax_walk.proofs.Collecting.{map_ok}
use Rattle.wax_set.proofs.Walks.{begins_in}
use Rattle.wax_set.proofs.set.Any.walk.Goals as goal

pub returns-clause-begins : goal.returns-clause-begins
returns-clause-begins g c =
    map_ok (λ walk. begins_in c.args.self.now g.D.Directory.law c.args.directory c.args.start.now _ _ _
    (ap behavior_range c.default.ensures))
    c.walk_in.result c.walk_in.ensures.begins
