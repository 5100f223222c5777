use Rattle.wax_token.specs.Syntax.{tree_size}
use Rattle.wax_facts.proofs.alternatives.listed.+opened.Given as goal

abbrev pub decreases-opened : goal.decreases-opened
decreases-opened g l = tree_size l.token.now
