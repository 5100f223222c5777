use Rattle.wax_walk.proofs.Seen.{seen_itself}
use Rattle.wax_tree.proofs.glob_walk.walk_of.Goals as goal

pub returns-clause-view : goal.returns-clause-view
returns-clause-view g c = seen_itself _
