use Rattle.wax_walk.proofs.PathsAlong.{paths_are_joined}
use Rattle.wax_walk.proofs.named_paths.law_of_paths.Goals as goal

pub returns : goal.returns
returns c = paths_are_joined
