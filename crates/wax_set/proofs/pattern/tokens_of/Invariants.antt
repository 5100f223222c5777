use Rattle.std.proofs.Common.{◌≡◌, ◌++◌, length}
use Rattle.std.specs.Vec.Iter.{into_iter_items, into_iter_len}
use Rattle.wax_set.specs.Patterns.{SpellEach}
use Rattle.wax_set.proofs.pattern.tokens_of.Given as goal

-- the patterns that were taken have their trees, and the others are left
abbrev pub invariant-loop-pattern : goal.invariant-loop-pattern
invariant-loop-pattern g l = record {
  each : SpellEach g.P.Pattern.spells l.yielded l.tokens.items;
  joined : l.yielded ++ into_iter_items l.pattern-iterator ≡ l.fn.patterns.items;
  count : into_iter_len l.pattern-iterator ≡ length (into_iter_items l.pattern-iterator);
}
