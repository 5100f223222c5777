use Rattle.wax_exclude.proofs.AllBelow.{cancels_below}
use Rattle.wax_exclude.proofs.laws.law_of_cancelling.Goals as goal

pub returns : goal.returns
returns c = cancels_below
