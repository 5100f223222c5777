use Rattle.std.proofs.Common.{◌≡◌, ◌+◌, ◌⊎◌, drop, take}
use Rattle.wax_exclude.proofs.NumberedLines.{Completes}
use Rattle.wax_exclude.specs.inner.Numbers.{MatchesBy, alternatives_cost}
use Rattle.wax_match.specs.Numbered.{MeansNumbered, numbered_length}
use Rattle.wax_exclude.proofs.numbers.add_alternatives.Given as goal

abbrev pub invariant-loop-pattern : goal.invariant-loop-pattern
invariant-loop-pattern l = record {
  completes : Completes
      (λ k s. MeansNumbered l.fn.patterns.items k s ⊎ MatchesBy l.own l.above l.alternatives k s)
      l.patterns.items
      (MatchesBy l.own l.above (drop l.pattern-index l.alternatives));
  length : numbered_length l.patterns.items ≡ numbered_length l.fn.patterns.items
      + alternatives_cost (take l.pattern-index l.alternatives);
}
