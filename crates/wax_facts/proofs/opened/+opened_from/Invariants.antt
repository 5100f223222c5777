use Rattle.wax_token.specs.{Syntax.trees_size, Words.trees}
use Rattle.wax_facts.proofs.opened.+opened_from.Given as goal

abbrev pub decreases-opened_from : goal.decreases-opened_from
decreases-opened_from g l = trees_size (trees l.tokens.now)
