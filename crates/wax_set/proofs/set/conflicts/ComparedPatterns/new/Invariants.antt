use Rattle.wax_set.proofs.Conflicts.{AreFirstCompiled}
use Rattle.wax_set.proofs.set.conflicts.ComparedPatterns.new.Given as goal

abbrev pub invariant-loop-branch : goal.invariant-loop-branch
invariant-loop-branch l = AreFirstCompiled l.branches l.branch-index l.compiled.items
