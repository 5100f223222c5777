use Rattle.std.proofs.Common.{◌≡◌, ◌++◌}
use Rattle.wax_token.specs.{Syntax.trees_size, Words.trees}
use Rattle.wax_facts.specs.Alternatives.{alternatives, joined, levels_each}
use Rattle.wax_facts.proofs.alternatives.alternatives_of.Given as goal

-- what is found, and what the level and those below it give
abbrev pub invariant-loop-alloc : goal.invariant-loop-alloc
invariant-loop-alloc g l =
    l.found.items ++ joined (levels_each (trees l.level.items)) ≡ alternatives l.fn.token

abbrev pub decreases-loop-alloc : goal.decreases-loop-alloc
decreases-loop-alloc g l = trees_size (trees l.level.items)
