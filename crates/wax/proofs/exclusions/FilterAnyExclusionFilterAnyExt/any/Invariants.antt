use Rattle.std.proofs.Common.{◌≡◌, ◌++◌, length}
use Rattle.std.specs.Vec.Iter.{into_iter_items, into_iter_len}
use Rattle.wax_exclude.specs.Excluded.{excluded_mark}
use Rattle.wax.proofs.Filters.{Excluded}
use Rattle.wax.proofs.exclusions.FilterAnyExclusionFilterAnyExt.any.Given as goal

-- the patterns that were taken have their exclusions, and the others are left
abbrev pub invariant-loop-pattern : goal.invariant-loop-pattern
invariant-loop-pattern g l = record {
  each : Excluded g.P.Pattern.spells excluded_mark l.yielded l.exclusions.items;
  joined : l.yielded ++ into_iter_items l.pattern-iterator ≡ l.fn.patterns.items;
  count : into_iter_len l.pattern-iterator ≡ length (into_iter_items l.pattern-iterator);
}
