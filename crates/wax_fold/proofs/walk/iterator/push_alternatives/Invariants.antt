use Rattle.std.proofs.Common.{◌≡◌, ◌++◌, map, drop}
use Rattle.wax_fold.specs.{Order.disjuncts, Walking.walk_entry}
use Rattle.wax_fold.proofs.walk.iterator.push_alternatives.Given as goal

abbrev pub invariant-loop-branch : goal.invariant-loop-branch
invariant-loop-branch g l =
    map walk_entry l.queue.items ++ disjuncts l.position l.branch (map (λ c. c.now) (drop l.branch l.chosen))
    ≡ map walk_entry l.initial.queue.items ++ disjuncts l.position 0 (map (λ c. c.now) l.chosen)
