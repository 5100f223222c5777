use Rattle.wax_set.proofs.Conflicts.{FoundBefore}
use Rattle.wax_set.proofs.set.conflicts.ComparedPatterns.conflicts.Given as goal

abbrev pub invariant-loop-first : goal.invariant-loop-first
invariant-loop-first l = FoundBefore l.self.branches.now l.self.most_states (l.first, 0) l.conflicts.items
