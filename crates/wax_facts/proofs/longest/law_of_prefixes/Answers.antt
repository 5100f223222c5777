use Rattle.wax_facts.proofs.LongestPrefix.{prefix_is_longest}
use Rattle.wax_facts.proofs.longest.law_of_prefixes.Goals as goal

pub returns : goal.returns
returns c = λ t n p. prefix_is_longest t n p
