use Rattle.wax_facts.proofs.BoundSizes.{sizes_bound}
use Rattle.wax_facts.proofs.laws.law_of_sizes.Goals as goal

pub returns : goal.returns
returns c = sizes_bound
