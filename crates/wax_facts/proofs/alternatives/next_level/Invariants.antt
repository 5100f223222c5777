use Rattle.std.proofs.Common.{◌≡◌, ◌+◌, ◌≤◌, ◌++◌, length}
use Rattle.std.specs.Vec.Iter.{into_iter_items, into_iter_len}
use Rattle.wax_token.specs.{Syntax.trees_size, Words.trees}
use Rattle.wax_facts.specs.Alternatives.{joined, levels_each}
use Rattle.wax_facts.proofs.Levels.{still}
use Rattle.wax_facts.proofs.alternatives.next_level.Given as goal

abbrev pub invariant-loop-token : goal.invariant-loop-token
invariant-loop-token g l = record {
  all : l.found.items ++ still l.below.items (into_iter_items l.token-iterator)
      ≡ l.initial.found.items ++ joined (levels_each (trees l.fn.level.items));
  less : trees_size (trees l.below.items) + length l.yielded
      + trees_size (trees (into_iter_items l.token-iterator))
      ≤ trees_size (trees l.fn.level.items);
  given : length l.yielded + length (into_iter_items l.token-iterator) ≡ length l.fn.level.items;
  count : into_iter_len l.token-iterator ≡ length (into_iter_items l.token-iterator);
}
