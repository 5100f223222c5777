use Rattle.wax_token.specs.Syntax.{tree_size}
use Rattle.wax_facts.proofs.rest.+rest_of.Given as goal

abbrev pub decreases-rest_of : goal.decreases-rest_of
decreases-rest_of l = tree_size l.glob
