use Rattle.std.proofs.Common.{◌≡◌, ◌+◌, ◌≤◌, ◌++◌, drop}
use Rattle.wax_token.specs.{Syntax.trees_size, Words.trees}
use Rattle.wax_facts.specs.Alternatives.{joined, levels_each}
use Rattle.wax_facts.proofs.Levels.{still}
use Rattle.wax_facts.proofs.alternatives.listed.next_level.Given as goal

abbrev pub invariant-loop-alternative : goal.invariant-loop-alternative
invariant-loop-alternative g l = record {
  all : l.found.items ++ still l.below.items (drop l.alternative-index l.level)
      ≡ l.initial.found.items ++ joined (levels_each (trees l.level));
  less : trees_size (trees l.below.items) + l.alternative-index
      + trees_size (trees (drop l.alternative-index l.level))
      ≤ trees_size (trees l.level);
}
