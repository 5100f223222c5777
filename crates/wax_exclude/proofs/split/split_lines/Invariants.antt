use Rattle.std.proofs.Common.{◌≡◌, ◌++◌, drop, map}
use Rattle.wax_exclude.specs.inner.Split.{split_of}
use Rattle.wax_exclude.proofs.split.split_lines.Given as goal

abbrev pub invariant-loop-line : goal.invariant-loop-line
invariant-loop-line l = l.split.items ++ map split_of (drop l.line-index l.lines) ≡ map split_of l.lines
