use Rattle.wax_token.specs.Words.{trees}
use Rattle.wax_prefilter.specs.Known.{FactsOfMatches}
use Rattle.wax_prefilter.proofs.facts.all_facts.Given as goal

abbrev pub invariant-loop-i : goal.invariant-loop-i
invariant-loop-i l = FactsOfMatches (trees l.tokens) l.facts.items
