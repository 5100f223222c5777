use Rattle.wax_set.proofs.Conflicts.{FoundBefore}
use Rattle.wax_set.proofs.set.conflicts.ComparedPatterns.add_conflicts.Given as goal

abbrev pub invariant-loop-second : goal.invariant-loop-second
invariant-loop-second l = FoundBefore l.self.branches.now l.self.most_states (l.first, l.second)
    l.conflicts.items
