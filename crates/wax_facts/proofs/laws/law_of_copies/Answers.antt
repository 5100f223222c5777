use Rattle.wax_facts.proofs.Copies.{sizes_of_copies}
use Rattle.wax_facts.proofs.laws.law_of_copies.Goals as goal

pub returns : goal.returns
returns c = sizes_of_copies
