use Rattle.std.proofs.Common.{◌≡◌, ◌++◌, ◌+◌, drop, map}
use Rattle.wax_exclude.specs.Lines.{lines_from, written_lines, written_of}
use Rattle.wax_exclude.proofs.lines.written_lines.Given as goal

abbrev pub invariant-loop-index : goal.invariant-loop-index
invariant-loop-index l = map written_of l.lines.items ++ lines_from (l.index + 1)
    (map (λ part. part.now) (drop l.index l.part-items)) ≡ written_lines l.text
