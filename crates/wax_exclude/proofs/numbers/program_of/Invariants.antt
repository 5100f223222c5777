use Rattle.std.proofs.Common.{◌≡◌, ◌≤◌, drop, take}
use Rattle.wax_match.specs.Numbered.{numbered_length}
use Rattle.wax_exclude.proofs.NumberedLines.{Completes}
use Rattle.wax_exclude.specs.inner.Numbers.{HasMatch, split_length}
use Rattle.wax_exclude.proofs.numbers.program_of.Given as goal

abbrev pub invariant-loop-index : goal.invariant-loop-index
invariant-loop-index l =
    (l.number ≤ l.index) × Completes (HasMatch l.top 0 l.lines) l.patterns.items
    (HasMatch l.top l.number (drop l.index l.lines))
    × (numbered_length l.patterns.items ≡ split_length (take l.index l.lines))
