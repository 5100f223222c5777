use Rattle.std.proofs.Common.{drop}
use Rattle.wax_lengths.proofs.FormLengths.{SpelledTo}
use Rattle.wax_lengths.proofs.lengths.spelled_len.Given as goal

abbrev pub invariant-loop-index : goal.invariant-loop-index
invariant-loop-index l = SpelledTo l.is_folded l.letters (drop l.at l.text) l.index
