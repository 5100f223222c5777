use Rattle.wax_program.proofs.Marks.{HasRange}
use Rattle.wax_program.proofs.ends.push_range.Given as goal

abbrev pub invariant-loop-number : goal.invariant-loop-number
invariant-loop-number l = HasRange l.low l.number l.fn.numbers.items l.numbers.items
