use Rattle.std.proofs.Common.{◌≡◌, ◌+◌, ◌-◌, ◌≤◌, ◌++◌, length, take}
use Rattle.wax_query.specs.Matched.{texts}
use Rattle.wax_lines.specs.Lines.{tabbed}
use Rattle.wax_lines.proofs.lines.line_writer.add_texts.Given as goal

-- the text and the captures before this one were written
abbrev pub invariant-loop-capture : goal.invariant-loop-capture
invariant-loop-capture l = record {
  written : l.out.items ≡ l.fn.out.items ++ tabbed (take l.index (texts l.matched));
  some : 1 ≤ l.index;
  short : l.index ≤ length l.out.items + 1;
}

abbrev pub decreases-loop-capture : goal.decreases-loop-capture
decreases-loop-capture l = length (texts l.matched) - l.index
